-- `read_numbers` reads four bytes after the other: the numbers of those that are left are still to be read.
use mathlib.Core.Path.{sym, ap, ◌∙◌}
use mathlib.Core.List.{◌∷◌}
use native.Mathlib.Omega.{arith}
use lib.ListN.{length, length-append}
use Rattle.std.specs.Iterator.Adapters.{enumerate_source}
use Rattle.std.specs.Slice.Iter.{chunks_exact_rest}
use Rattle.files.specs.Laid.{words_of}
use Rattle.files.proofs.PutLaws.{put_one, partly_same, partly_more, partly_all}
use Rattle.files.proofs.WordLaws.{words_front, words_none}
use Rattle.files.proofs.read_numbers.Goals as goal

pub loop-i-preserved : goal.loop-i-preserved
loop-i-preserved c =
    let l = c.loop-i.invariant in
    let s = c.in-Some.ensures.steps in
    let e = s.0.1.0 in
    let four = s.0.1.1 ∙ l.four in
    let left = chunks_exact_rest (enumerate_source c.next.new.self) in
    let w = words_front _ _ left e four ∙ ap (λ v. v ∷ words_of left) (sym c.read_u32.ensures.0) in
    record {
      four = s.0.0 ∙ l.four;
      long = omega (arith, l.long, s.2, four, simp length-append at (ap length e));
      read = rw (s.2, s.1) (partly_more (partly_same w l.read) (put_one c.read_u32.result _ c.loop-i.numbers));
    }

pub returns : goal.returns
returns c =
    let l = c.loop-i.invariant in
    let s = c.in-None.ensures.steps in
    let p = partly_all (partly_same (words_none _ (omega (arith, s.0.1.0, l.four))) l.read) in
    record { stored = p.stored; next = omega (arith, p.next, l.long, l.four, s.0.1.0) }
