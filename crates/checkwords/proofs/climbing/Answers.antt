-- `climbing` passes the words one after the other. Behind the last one the number of elements is compared, and the last
-- one with the bound.
use mathlib.Core.Bool.{false≢true}
use mathlib.Core.Path.{◌≡◌, sym, ap₂, ◌∙◌}
use mathlib.Core.List.{List}
use Prim.Native.Nat.{ℕ, ◌+◌, ◌/◌, ◌^◌, ◌≤◌}
use native.Mathlib.Omega.{arith}
use borrow.Author.Tests.{leb-true, leb-false}
use lib.Dec.{leb, ltb}
use Rattle.rules.specs.Runs.{words_for}
use Rattle.shape.specs.declared.Shape.{Shape}
use Rattle.checklaws.specs.declared.Mid.{Mid}
use Rattle.checklaws.specs.Check.{Tells, Laid, Holds, pair_of, At, Trimmed}
use Rattle.checklaws.proofs.PairLaws.{bound_low, bound_pair, last_ltb}
use Rattle.checklaws.proofs.HoldLaws.{at_start, refuse_count, refuse_bound, bound_rises, holds}
use Rattle.checkwords.proofs.climbing.Goals as goal

pub loop-k-init : goal.loop-k-init
loop-k-init c = at_start c.args.s.now c.args.g c.requires.laid

pub one_word-requires : goal.one_word-requires
unfolding words_for
one_word-requires c = (c.requires.laid, c.loop-k.invariant, c.loop-k-test.true)

-- all words are passed
end_at : (s : List ℕ) (g : Shape) (k : ℕ) (m : Mid) → k ≡ (g.bits + 63) / 64 → At s g k m → At s g (words_for g.bits) m
unfolding words_for
end_at s g k m e a = rw e at a

pub returns-then-m-g : goal.returns-then-m-g
returns-then-m-g c =
    let s = c.args.s.now in
    let g = c.args.g in
    let m = c.loop-k.m in
    let a = end_at s g c.loop-k.k m (omega arith) c.loop-k.invariant in
    (λ y. absurd (false≢true y), λ _. refuse_count s g c.requires m.i m.next a.climbed.counted a.pointed c.if-m-g.true)

few : (s : List ℕ) (g : Shape) → Laid s g → g.u / 2 ^ g.w ≤ 2 ^ 25
few s g d = omega (arith, d.zeros_are, d.few)

pub overflow_add-high : goal.overflow_add-high
overflow_add-high c = omega (arith, few c.args.s.now c.args.g c.requires.laid)

pub paired-requires : goal.paired-requires
paired-requires c =
    let g = c.args.g in
    let d = c.requires.laid in (
      omega (arith, few c.args.s.now g d),
      bound_low g.w g.u c.field_of.result c.field_of.ensures (omega (arith, d.narrow)),
    )

-- behind the last word the last element is compared with the bound
bounded : (s : List ℕ) (g : Shape) (d : Trimmed s g) (m : Mid) → At s g (words_for g.bits) m → m.i ≡ g.n → (p : ℕ)
    → p ≡ pair_of g.w g.u → Tells (ltb m.last p) (Holds s g)
bounded s g d m a n p e =
    let told : ltb m.last p ≡ leb a.bound g.u =
    ap₂ ltb a.last_is e ∙ last_ltb g.w (omega (arith, d.laid.narrow)) a.bound g.u in (
      λ t. holds s g d m.i m.next a.climbed.counted a.pointed n
          (bound_rises s g d m.i a.bound a.climbed (leb-true a.bound g.u (sym told ∙ t))),
      λ t. refuse_bound s g d m.i a.bound a.climbed (leb-false a.bound g.u (sym told ∙ t)),
    )

pub returns : goal.returns
returns c =
    let s = c.args.s.now in
    let g = c.args.g in
    let m = c.loop-k.m in
    bounded s g c.requires m (end_at s g c.loop-k.k m (omega arith) c.loop-k.invariant) c.if-m-g.false c.paired.result
    (c.paired.ensures ∙ bound_pair g.w g.u c.field_of.result c.field_of.ensures)
