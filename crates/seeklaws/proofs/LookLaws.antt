-- The looks of seeks on one cursor, for bounds in any order: one for each seek and one for each word that is passed.
use mathlib.Core.Bool.{true}
use mathlib.Core.Path.{◌≡◌, refl}
use mathlib.Core.List.{List, [], ◌∷◌}
use Prim.Native.Nat.{ℕ, ◌+◌, ◌/◌, ◌≤◌, ◌<◌}
use native.Mathlib.Decide.{dec_le, ℕ_discrete}
use native.Mathlib.Omega.{arith}
use borrow.Author.Tests.{le-leb, lt-leb, eq-eqb, ne_eqb}
use lib.ListN.{length, get_or}
use Rattle.rules.specs.Runs.{words_for}
use Rattle.rules.specs.List.{rising, Form}
use Rattle.rules.specs.Seek.{Cursor, fresh, on, spent, Sought, bits_of, place_of, upper_words, cursor_bit}
use Rattle.rules.specs.Seek.{start_of, looks_to, gone, arrived, walked, walk_from, move, seek}
use Rattle.seeklaws.specs.Cursors.{first_at, floor, Placed, Ahead, reached, looks_over}
use Rattle.seeklaws.proofs.FirstLaws.{first_at_le, first_at_at}
use Rattle.seeklaws.proofs.JumpLaws.{walk_ahead, place_lt, start_ahead}
use Rattle.seeklaws.proofs.SeekLaws.{seek_placed}

module _ (f : Form) (U : ℕ) (xs : List ℕ) (r : rising 0 U xs ≡ true) where
  words_are : upper_words f U xs ≡ (bits_of f U xs + 63) / 64
  unfolding upper_words words_for
  words_are = refl

  pub reached_le : (c : Cursor) → Placed xs c → reached f U xs c ≤ upper_words f U xs
  unfolding reached
  reached_le fresh p = omega arith
  reached_le (on i) p = omega (arith, words_are, place_lt f U xs r i p)
  reached_le spent p = omega arith

  -- a seek from word q costs one look, and one for each word from there to the next cursor's
  abbrev Paid : ℕ → Sought → Type 0
  Paid q s = s.looks + q ≤ reached f U xs s.cursor + 1

  gone_paid : (q : ℕ) → q ≤ upper_words f U xs → Paid q (gone xs 0)
  unfolding gone reached
  gone_paid q h = omega arith

  walked_paid : (q start i : ℕ) → q ≤ start / 64 → q ≤ upper_words f U xs → (i < length xs → start ≤ place_of f U xs i)
      → i ≤ length xs → Paid q (walked f U xs start i)
  unfolding walked gone arrived looks_to reached
  walked_paid q start i h l a e =
      elim (ℕ_discrete i (length xs)) [
        | yes d ↦ rw (eq-eqb i (length xs) d) (omega (arith, words_are))
        | no d ↦ rw (ne_eqb i (length xs) d) (omega (arith, a (omega (arith, d))))
      ]

  walk_from_paid : (q start b : ℕ) → q ≤ start / 64 → q ≤ upper_words f U xs → Ahead f U xs b start
      → Paid q (walk_from f U xs start b)
  unfolding walk_from
  walk_from_paid q start b h l a =
      elim (ℕ_discrete start (bits_of f U xs)) [
        | yes e ↦ rw (eq-eqb start (bits_of f U xs) e) (gone_paid q l)
        | no e ↦
            rw (ne_eqb start (bits_of f U xs) e, walk_ahead f U xs start b a)
            (walked_paid q start (first_at b xs) h l (λ g. a (first_at b xs) g (first_at_at b xs g)) (first_at_le b xs))
      ]

  move_paid : (c : Cursor) (b q : ℕ) → Placed xs c → floor U xs c ≤ b → q ≤ cursor_bit f U xs c / 64
      → q ≤ upper_words f U xs → Paid q (move f U xs c b)
  unfolding move
  move_paid c b q p g h l =
      elim (ℕ_discrete (length xs) 0) [
        | yes e ↦ rw (eq-eqb (length xs) 0 e) (gone_paid q l)
        | no e ↦
            elim (dec_le U b) [
              | yes d ↦ rw (ne_eqb (length xs) 0 e, le-leb U b d) (gone_paid q l)
              | no d ↦
                  rw (ne_eqb (length xs) 0 e, lt-leb U b (omega arith))
                  (walk_from_paid q (start_of f U xs c b) b (start_word c b q h) l (start_ahead f U xs r c b p g))
            ]
      ]
    where
      start_word : (c : Cursor) (b q : ℕ) → q ≤ cursor_bit f U xs c / 64 → q ≤ start_of f U xs c b / 64
      start_word c b q h = unfold start_of in omega arith

  pub looks_step : (c : Cursor) (b : ℕ) → Placed xs c
      → (seek f U xs c b).looks + reached f U xs c ≤ reached f U xs (seek f U xs c b).cursor + 1
  unfolding seek reached
  looks_step fresh b p = move_paid fresh b 0 p (unfold floor in omega arith) (omega arith) (omega arith)
  looks_step (on i) b p =
      elim (dec_le b (get_or xs i 0)) [
        | yes l ↦ rw (le-leb b (get_or xs i 0) l) (unfold arrived in omega arith)
        | no l ↦
            rw (lt-leb b (get_or xs i 0) (omega arith))
            (move_paid (on i) b (place_of f U xs i / 64) p (unfold floor in omega arith)
            (unfold cursor_bit in omega arith) (unfold reached in reached_le (on i) p))
      ]
  looks_step spent b p = gone_paid (upper_words f U xs) (omega arith)

  looks_from : (c : Cursor) (bs : List ℕ) → Placed xs c
      → looks_over f U xs c bs + reached f U xs c ≤ length bs + upper_words f U xs
  unfolding looks_over
  looks_from c [] p = omega (arith, reached_le c p)
  looks_from c (b ∷ bs) p =
      omega (arith, looks_step c b p, looks_from (seek f U xs c b).cursor bs (seek_placed f U xs r c b p))

  -- over any seeks on a cursor that begins fresh, at most one look for each seek and one for each word
  pub looks_all : (bs : List ℕ) → looks_over f U xs fresh bs ≤ length bs + upper_words f U xs
  looks_all bs = omega (arith, looks_from fresh bs tt)
