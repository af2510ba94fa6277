-- `next_sums` puts the sums of one stretch: `put_sums` of its counts.
use mathlib.Core.Path.{◌≡◌, ap, ◌∙◌}
use Prim.Native.Nat.{ℕ, ◌+◌, ◌-◌, min}
use native.Mathlib.Omega.{arith}
use lib.ListN.{length, take, drop, length-take, length-drop}
use Rattle.rules.specs.Term.{sums}
use Rattle.wordlaws.proofs.LayLaws.{stretch_is, stretch_positive, total_take_le}
use Rattle.stretches.proofs.next_sums.Goals as goal

pub put_sums-sum-requires : goal.put_sums-sum-requires
put_sums-sum-requires c =
    let cs = c.args.counts.now in
    let i = c.args.at.done in
    let k = i + c.min.result - i in (
      rw length-take (omega arith),
      stretch_positive cs i k c.requires.2,
      omega (arith, total_take_le (drop i cs) k, c.requires.3),
    )

pub returns : goal.returns
returns c =
    let a = c.args in
    let cs = a.counts.now in
    let i = a.at.done in
    let k = i + c.min.result - i in
    let p = c.put_sums-sum in
    let w : k ≡ min 256 (length cs - i) = omega arith in
    let e = stretch_is cs i k w in
    let n : k ≡ length (take k (drop i cs)) = rw (length-take, length-drop) (omega (arith, w)) in
    record {
      done = omega arith;
      sum = rw e at p.ensures.0;
      holds = ap (λ (j : ℕ). take j p.new.part) n ∙ p.ensures.1 ∙ ap (sums a.at.sum) e;
    }
