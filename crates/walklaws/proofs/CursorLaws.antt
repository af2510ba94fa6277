-- Laws of cursors as structs of numbers: their marks, the rule's cursor that one holds, and what a seek makes of it.
use mathlib.Core.Bool.{true, not}
use mathlib.Core.Path.{◌≡◌, ap, ◌∙◌}
use mathlib.Core.List.{List}
use Prim.Native.Nat.{ℕ, zero, suc, ◌+◌, ◌-◌, ◌≤◌, ◌<◌}
use native.Mathlib.Omega.{arith}
use borrow.Author.Tests.{eq-eqb, ne_eqb}
use lib.Dec.{eqb}
use mir.Val.{bool_byte}
use lib.ListN.{length, get_or}
use Rattle.rules.specs.Limits.{limit}
use Rattle.rules.specs.List.{rising, Form, two_runs, bitmap}
use Rattle.rules.specs.Seek.{Cursor as Placing, fresh, on, spent, place_of, cursor_bit}
use Rattle.rules.specs.Plain.{below}
use Rattle.seeklaws.specs.Cursors.{Placed, floor}
use Rattle.seeklaws.proofs.FirstLaws.{rising_below, first_at_self, below_first}
use Rattle.walklaws.specs.declared.Cursor.{Cursor}
use Rattle.walklaws.specs.Cursors.{spent_mark, mark_of, rank_in, rule_cursor, Held}

-- ---- marks

-- `(mark != 0) as u32`: one where there is a page
pub record Own (mark own : ℕ) : Type 0 where
  pub few : own ≤ 1
  pub marked : own ≤ mark
  pub page : mark - own ≡ mark - 1

pub own_of : (mark : ℕ) → Own mark (bool_byte (not (eqb mark 0)))
own_of zero = record { few = omega arith; marked = omega arith; page = omega arith }
own_of (suc m) = rw (ne_eqb (suc m) 0 (λ e. omega arith)) (record {
  few = omega arith;
  marked = omega arith;
  page = omega arith;
})

-- ---- the rule's cursor that a struct holds

-- the rank of element number i, read off its mark and bit
pub rank_at : (f : Form) (U : ℕ) (xs : List ℕ) → rising 0 U xs ≡ true → (c : Cursor) (i : ℕ) → i < length xs
    → c.mark ≡ get_or xs i 0 + 1 → c.bit ≡ place_of f U xs i → rank_in f U xs c ≡ i
unfolding place_of
rank_at two_runs U xs r c i p m b =
    let e : c.mark - 1 ≡ get_or xs i 0 = omega arith in
    rw e (omega arith)
rank_at bitmap U xs r c i p m b =
    ap (λ (x : ℕ). below x xs) b ∙ below_first (get_or xs i 0) 0 U xs r ∙ first_at_self 0 U xs r i p

module _ (f : Form) (U : ℕ) (xs : List ℕ) (r : rising 0 U xs ≡ true) (within : U ≤ limit) where
  held_at : (c : Cursor) (a : Placing) → Placed xs a → c.mark ≡ mark_of xs a → c.bit ≡ cursor_bit f U xs a
      → rule_cursor f U xs c ≡ a
  unfolding rule_cursor mark_of cursor_bit
  held_at c fresh p m b = rw (eq-eqb c.mark 0 m)
  held_at c spent p m b = rw (ne_eqb c.mark 0 (λ e. omega arith), eq-eqb c.mark spent_mark m)
  held_at c (on i) p m b =
      let l = rising_below 0 U xs r i p in
      rw (
        ne_eqb c.mark 0 (λ e. omega arith),
        ne_eqb c.mark spent_mark (λ e. omega arith),
        rank_at f U xs r c i p m b,
      )

  pub held_rule : (c : Cursor) (h : Held f U xs c) → rule_cursor f U xs c ≡ h.place
  held_rule c h = held_at c h.place h.placed h.mark_is h.bit_is

  floor_at : (a : Placing) (b : ℕ) → mark_of xs a ≤ b → b < U → floor U xs a ≤ b
  unfolding mark_of floor
  floor_at fresh b m l = omega arith
  floor_at (on i) b m l = omega arith
  floor_at spent b m l = absurd (omega arith)

  -- a cursor whose mark is up to b, below U, is up to b
  pub held_floor : (c : Cursor) (h : Held f U xs c) (b : ℕ) → c.mark ≤ b → b < U → floor U xs h.place ≤ b
  held_floor c h b m l = floor_at h.place b (rw h.mark_is at m) l
