-- Laws of a cursor after a seek: it is again one that seeks have made, and its answer shows in its mark and bit.
use mathlib.Core.Bool.{true}
use mathlib.Core.Path.{◌≡◌, refl}
use mathlib.Core.List.{List}
use Prim.Native.Nat.{ℕ, ◌+◌, ◌-◌, ◌^◌, ◌≤◌, ◌<◌, max}
use native.Mathlib.Decide.{ℕ_discrete}
use native.Mathlib.Omega.{arith}
use borrow.Author.Tests.{ne_eqb}
use lib.ListN.{length, get_or}
use Rattle.rules.specs.Limits.{limit}
use Rattle.rules.specs.List.{rising, Form}
use Rattle.rules.specs.Seek.{Cursor as Placing, fresh, on, spent, cursor_bit, seek}
use Rattle.seeklaws.specs.Cursors.{first_at, found_at, cursor_at, floor, Placed}
use Rattle.seeklaws.proofs.FirstLaws.{rising_below, first_at_le, first_found, found_at_none, found_at_page}
use Rattle.seeklaws.proofs.JumpLaws.{place_few}
use Rattle.seeklaws.proofs.SeekLaws.{cursor_at_spent, cursor_at_on, seek_answered, seek_placed}
use Rattle.walklaws.specs.declared.Cursor.{Cursor}
use Rattle.walklaws.specs.Cursors.{spent_mark, unused, mark_of, held, rule_cursor, Held, landing, moved_to, found_by}
use Rattle.walklaws.proofs.CursorLaws.{rank_at, held_rule}

held_made : (f : Form) (U : ℕ) (xs : List ℕ) (a : Placing) (seeks looks : ℕ) → Placed xs a
    → Held f U xs (held f U xs a seeks looks)
unfolding held
held_made f U xs a seeks looks p = record { place = a; placed = p; mark_is = refl; bit_is = refl }

pub unused_held : (f : Form) (U : ℕ) (xs : List ℕ) → Held f U xs unused
unfolding unused mark_of cursor_bit
unused_held f U xs = record { place = fresh; placed = tt; mark_is = refl; bit_is = refl }

module _ (f : Form) (U : ℕ) (xs : List ℕ) (rises : rising 0 U xs ≡ true) (within : U ≤ limit) where
  pub unused_rule : rule_cursor f U xs unused ≡ fresh
  unfolding unused_held
  unused_rule = held_rule f U xs rises within unused (unused_held f U xs)

  found_at_lem : (i seeks looks : ℕ) → i ≤ length xs
      → found_by f U xs (held f U xs (cursor_at xs i) seeks looks) ≡ found_at xs i
  unfolding found_by held mark_of cursor_bit
  found_at_lem i seeks looks l =
      elim (ℕ_discrete i (length xs)) [
        | yes e ↦ rw (cursor_at_spent xs i e, found_at_none xs i e)
        | no e ↦
            let h : i < length xs = omega arith in
            let m = rising_below 0 U xs rises i h in
            let p : get_or xs i 0 + 1 - 1 ≡ get_or xs i 0 = omega arith in
            rw (
              cursor_at_on xs i h,
              found_at_page xs i h,
              ne_eqb (get_or xs i 0 + 1) spent_mark (λ z. omega arith),
              p,
              rank_at f U xs rises (held f U xs (on i) seeks looks) i h refl refl,
            )
      ]

  -- a cursor's bit is one of the run's, which are few
  cursor_few : (a : Placing) → Placed xs a → cursor_bit f U xs a < 2 ^ 32
  unfolding cursor_bit
  cursor_few fresh p = omega arith
  cursor_few spent p = omega arith
  cursor_few (on i) p = omega (arith, place_few f U xs rises i p)

  module _ (c : Cursor) (h : Held f U xs c) (b : ℕ) where
    placed : Placed xs (rule_cursor f U xs c)
    placed = rw (held_rule f U xs rises within c h) h.placed

    -- it is again a cursor that seeks on the list have made
    pub moved_held : Held f U xs (moved_to f U xs c b)
    unfolding moved_to
    moved_held = held_made f U xs (seek f U xs (rule_cursor f U xs c) b).cursor (c.seeks + 1)
        (c.looks + (seek f U xs (rule_cursor f U xs c) b).looks)
        (seek_placed f U xs rises (rule_cursor f U xs c) b placed)

    pub landing_few : (landing f U xs c b).bit < 2 ^ 32
    unfolding landing
    landing_few =
        cursor_few (seek f U xs (rule_cursor f U xs c) b).cursor (seek_placed f U xs rises (rule_cursor f U xs c) b placed)

    pub moved_rule : rule_cursor f U xs (moved_to f U xs c b) ≡ (seek f U xs (rule_cursor f U xs c) b).cursor
    unfolding moved_held held_made
    moved_rule = held_rule f U xs rises within (moved_to f U xs c b) moved_held

    pub moved_seeks : (moved_to f U xs c b).seeks ≡ c.seeks + 1
    unfolding moved_to held
    moved_seeks = refl

    pub moved_looks : (moved_to f U xs c b).looks ≡ c.looks + (seek f U xs (rule_cursor f U xs c) b).looks
    unfolding moved_to held
    moved_looks = refl

    -- its mark and bit show what the rule's seek found
    pub moved_found : found_by f U xs (moved_to f U xs c b) ≡ (seek f U xs (rule_cursor f U xs c) b).found
    unfolding moved_to
    moved_found =
        let a = seek_answered f U xs rises (rule_cursor f U xs c) b placed in
        let d : ℕ = max (floor U xs (rule_cursor f U xs c)) b in
        rw (a.cursor, a.found, first_found d xs)
        (found_at_lem (first_at d xs) (c.seeks + 1) (c.looks + (seek f U xs (rule_cursor f U xs c) b).looks)
        (first_at_le d xs))
