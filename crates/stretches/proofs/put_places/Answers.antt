-- `put_places` goes over the positions one by one: the first i elements stand in the part, and behind them the marks.
use mathlib.Core.Path.{refl, sym, ap, ◌∙◌}
use Prim.Native.Nat.{ℕ, ◌+◌}
use native.Mathlib.Decide.{ℕ_discrete}
use native.Mathlib.Omega.{arith}
use lib.ListN.{get_or, length-set}
use lib.Seq.{get_or-set_same, get_or-set_other}
use Rattle.wordlaws.specs.Stretch.{marks_of, base_at}
use Rattle.wordlaws.proofs.StretchLaws.{base_more}
use Rattle.stretches.proofs.put_places.Goals as goal

pub loop-i-init : goal.loop-i-init
unfolding base_at
loop-i-init c = (refl, refl, λ j h. absurd (omega arith), λ j h. refl)

pub loop-i-preserved : goal.loop-i-preserved
loop-i-preserved c =
    let l = c.loop-i in
    let ms = c.args.part.now in
    let ps = c.args.positions.now in
    let i = l.i in
    let p : ℕ = get_or ps i 0 in (
      length-set l.part i (l.base + p) ∙ l.invariant.0,
      rw (l.invariant.3 i (omega arith), l.invariant.1) (sym (base_more c.args.start (marks_of ms) ps i)),
      λ j h. elim (ℕ_discrete j i) [
        | yes q ↦ rw q (get_or-set_same l.part i (l.base + p) 0 (omega arith) ∙ ap (λ (n : ℕ). n + p) l.invariant.1)
        | no q ↦ get_or-set_other l.part i j (l.base + p) 0 q ∙ l.invariant.2 j (omega arith)
      ],
      λ j h. get_or-set_other l.part i j (l.base + p) 0 (λ q. omega arith) ∙ l.invariant.3 j (omega arith),
    )
