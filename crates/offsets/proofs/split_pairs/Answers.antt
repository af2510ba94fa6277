-- `split_pairs` goes from pair to pair. The loop's invariant: those before are apart, and the others are left.
use mathlib.Core.Path.{sym, ap, ◌∙◌}
use native.Mathlib.Omega.{arith}
use lib.ListN.{length}
use Rattle.offsets.proofs.PairLaws.{apart_more, apart_all, left_more}
use Rattle.offsets.proofs.split_pairs.Goals as goal

pub loop-i-preserved : goal.loop-i-preserved
loop-i-preserved c =
    let l = c.loop-i.invariant in
    let s = c.in-Some.ensures.steps in
    let e = sym l.left ∙ s.0.1.0 in
    let two = s.0.1.1 ∙ l.two in
    record {
      two = s.0.0 ∙ l.two;
      left = rw s.2 (left_more c.args.pairs.now _ _ _ e two);
      apart = rw (s.2, s.1) (apart_more c.args.pairs.now _ _ _ _ _ l.apart c.requires.1 e two);
    }

pub returns : goal.returns
returns c =
    let l = c.loop-i.invariant in
    let s = c.in-None.ensures.steps in
    apart_all c.args.pairs.now _ _ _ l.apart c.requires.0 c.requires.1
    (omega (arith, s.0.1.0, l.two, ap length l.left))
