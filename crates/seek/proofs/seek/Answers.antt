-- `seek` is the search with one seek more; what its cursor stands for follows.
use mathlib.Core.Bool.{true}
use mathlib.Core.Path.{◌≡◌, ap, ◌∙◌}
use mathlib.Core.List.{List}
use Prim.Native.Nat.{ℕ, ◌≤◌}
use Rattle.rules.specs.Limits.{limit}
use Rattle.rules.specs.List.{rising, Form}
use Rattle.rules.specs.ReadList.{list_u, form_at, decode}
use Rattle.walklaws.specs.declared.Cursor.{Cursor}
use Rattle.walklaws.specs.Cursors.{held, Held, landing, looks_for, found_for, moved_to, found_by}
use Rattle.walklaws.proofs.OpenLaws.{form_stored}
use Rattle.walklaws.proofs.MoveLaws.{landing_few, moved_found}
use Rattle.seek.proofs.seek.Goals as goal

stands_for : (f : Form) (U : ℕ) (xs : List ℕ) → rising 0 U xs ≡ true → U ≤ limit → (c : Cursor) → Held f U xs c
    → (b : ℕ) (r : Cursor) → r ≡ moved_to f U xs c b
    → (r ≡ moved_to f U xs c b) × (found_by f U xs r ≡ found_for f U xs c b)
stands_for f U xs rises within c h b r e = (e, ap (found_by f U xs) e ∙ moved_found f U xs rises within c h b)

-- the bit at which the search ended has at most 32 bits
pub overflow_cast-result : goal.overflow_cast-result
overflow_cast-result c =
    let start = c in
    let s : List ℕ = start.args.s.now in
    let t = form_stored (form_at s) s start.args.g start.requires.0 in
    let few = landing_few (form_at s) (list_u s) (decode s) t.rises t.within start.args.c start.requires.1
    start.args.b in
    record { fits = rw c.find-to.ensures.0 few }

pub returns : goal.returns
unfolding moved_to held landing looks_for
returns c =
    let start = c in
    let s : List ℕ = start.args.s.now in
    let t = form_stored (form_at s) s start.args.g start.requires.0 in
    let e = c.find-to.ensures in
    stands_for (form_at s) (list_u s) (decode s) t.rises t.within start.args.c start.requires.1
    start.args.b _ (rw (e.0, e.1))
