-- `pairs_good` goes from pair to pair. The loop's invariant: what is left says what the whole says.
use mathlib.Core.Path.{sym, ◌∙◌}
use native.Mathlib.Omega.{arith}
use Rattle.std.proofs.lemmas.Bool.Decides.{nat_tests}
use Rattle.std.specs.Slice.Iter.{chunks_exact_rest}
use Rattle.offsets.proofs.PairLaws.{pairs_front, even_front, pairs_end}
use Rattle.offsets.proofs.pairs_good.Goals as goal

pub returns-then-t-pair : goal.returns-then-t-pair
returns-then-t-pair c =
    let l = c.loop-pair.invariant in
    let s = c.in-Some.ensures.steps in
    let e = pairs_front c.args.t c.loop-pair.least _ _ _ s.1.0 (s.1.1 ∙ l.two) in
    grind (arith, nat_tests)

pub returns-then-offset-least : goal.returns-then-offset-least
returns-then-offset-least c =
    let l = c.loop-pair.invariant in
    let s = c.in-Some.ensures.steps in
    let e = pairs_front c.args.t c.loop-pair.least _ _ _ s.1.0 (s.1.1 ∙ l.two) in
    grind (arith, nat_tests)

pub returns-then-offset-gt-OFFSET_LIMIT : goal.returns-then-offset-gt-OFFSET_LIMIT
returns-then-offset-gt-OFFSET_LIMIT c =
    let l = c.loop-pair.invariant in
    let s = c.in-Some.ensures.steps in
    let e = pairs_front c.args.t c.loop-pair.least _ _ _ s.1.0 (s.1.1 ∙ l.two) in
    grind (arith, nat_tests)

pub loop-pair-preserved : goal.loop-pair-preserved
loop-pair-preserved c =
    let l = c.loop-pair.invariant in
    let s = c.in-Some.ensures.steps in
    let e = pairs_front c.args.t c.loop-pair.least _ _ _ s.1.0 (s.1.1 ∙ l.two) in
    record {
      two = s.0 ∙ l.two;
      even = even_front _ _ _ s.1.0 (s.1.1 ∙ l.two) l.even;
      same = grind (arith, nat_tests);
    }

pub returns : goal.returns
returns c =
    let l = c.loop-pair.invariant in
    let s = c.in-None.ensures.steps in
    sym (pairs_end c.args.t c.loop-pair.least (chunks_exact_rest c.loop-pair.pair-iterator) l.even (omega (arith, l.two, s.1.0)))
    ∙ l.same
