-- `put_sums` adds the counts up one by one: the first i sums stand in the part.
use mathlib.Core.Bool.{true}
use mathlib.Core.Path.{◌≡◌, refl, sym, ap, ◌∙◌}
use mathlib.Core.List.{List, [], ◌∷◌, ◌++◌}
use Prim.Native.Nat.{ℕ, ◌+◌, ◌-◌, ◌≤◌, ◌<◌}
use native.Mathlib.Numerals.{add-one}
use native.Mathlib.Omega.{arith}
use lib.ListN.{length, get_or, take, set, length-set}
use lib.Seq.{take_all, take-length, take-suc-set}
use Rattle.rules.specs.Term.{total, sums, positive}
use Rattle.termlaws.proofs.SumLaws.{length_sums}
use Rattle.filllaws.proofs.RiseLaws.{take_more}
use Rattle.wordlaws.proofs.LayLaws.{total_take, total_take_le, positive_at, get_d_sums}
use Rattle.stretches.proofs.put_sums.Goals as goal

pub loop-i-init : goal.loop-i-init
unfolding total
loop-i-init c = (refl, omega arith, refl)

-- where the next count is added
more : (cs : List ℕ) (i : ℕ) → positive cs ≡ true → i < length cs
    → (0 < get_or cs i 0) × (total (take (i + 1) cs) ≡ total (take i cs) + get_or cs i 0)
    × (total (take (i + 1) cs) ≤ total cs)
more cs i counted h = (positive_at cs counted i h, rw add-one (total_take cs i h), total_take_le cs (i + 1))

pub overflow_add-sum : goal.overflow_add-sum
overflow_add-sum c = omega (arith, more c.args.counts.now c.loop-i.i c.requires.1 (omega arith), c.requires.2)

pub overflow_sub-part : goal.overflow_sub-part
overflow_sub-part c = omega (arith, more c.args.counts.now c.loop-i.i c.requires.1 (omega arith))

pub overflow_cast-part : goal.overflow_cast-part
overflow_cast-part c = omega (arith, more c.args.counts.now c.loop-i.i c.requires.1 (omega arith), c.requires.2)

pub loop-i-preserved : goal.loop-i-preserved
loop-i-preserved c =
    let l = c.loop-i in
    let cs = c.args.counts.now in
    let b = c.args.before in
    let i = l.i in
    let h : i < length cs = omega arith in
    let m = more cs i c.requires.1 h in
    let v : ℕ = l.sum + get_or cs i 0 - 1 in
    let e : get_or (sums b cs) i 0 ≡ v = get_d_sums b cs i h ∙ omega (arith, total_take cs i h) in
    let t : take (i + 1) (set l.part i v) ≡ take i l.part ++ (v ∷ []) =
    rw add-one (take-suc-set l.part i v (omega arith)) in
    let n = take_more (sums b cs) i (omega (arith, length_sums b cs)) in (
      length-set l.part i v ∙ l.invariant.0,
      omega (arith, m),
      t ∙ ap (λ (k : List ℕ). k ++ (v ∷ [])) l.invariant.2
          ∙ sym (n ∙ ap (λ (k : ℕ). take i (sums b cs) ++ (k ∷ [])) e),
    )

pub returns : goal.returns
returns c =
    let l = c.loop-i in
    let cs = c.args.counts.now in
    let b = c.args.before in
    let e : l.i ≡ length cs = omega arith in (
      l.invariant.1 ∙ rw (e, take-length cs),
      (rw e at l.invariant.2) ∙ take_all (length cs) (sums b cs) (omega (arith, length_sums b cs)),
    )
