-- `flush` sets the ones of a word, or finds none.
use mathlib.Core.Path.{◌≡◌, sym, ap, ◌∙◌}
use Prim.Native.Nat.{ℕ, ◌*◌}
use native.Mathlib.Omega.{arith}
use lib.ListN.{drop}
use Rattle.rules.specs.InPlace.{from, with_ones}
use Rattle.addlaws.specs.Adding.{used}
use Rattle.addlaws.proofs.SetLaws.{ones_none, from_same}
use Rattle.addlaws.proofs.AddLaws.{used_none, used_some}
use Rattle.setting.proofs.flush.Goals as goal

pub set_ones-requires : goal.set_ones-requires
set_ones-requires c =
    let s = c in
    omega (arith, s.requires, used_some s.args.bits (omega (arith, c.if-bits-ne0.true)))

pub returns-then-bits-ne0 : goal.returns-then-bits-ne0
returns-then-bits-ne0 c =
    let t = c in
    let a = c.args in
    let e : used a.bits ≡ 1 = used_some a.bits (omega (arith, t.if-bits-ne0.true)) in
    c.set_ones.ensures
    ∙ ap (λ (m : ℕ). from (8 * a.k) (with_ones m a.bits) a.run.now) (sym e)

pub returns-else-bits-ne0 : goal.returns-else-bits-ne0
returns-else-bits-ne0 c =
    let a = c.args in
    let s = a.run.now in
    let e : used a.bits ≡ 0 = ap used c.if-bits-ne0.false ∙ used_none in
    sym (ap (λ (m : ℕ). from (8 * a.k) (with_ones m a.bits) s) e
    ∙ from_same (8 * a.k) (with_ones 0 a.bits) s (ones_none a.bits (drop (8 * a.k) s)))
