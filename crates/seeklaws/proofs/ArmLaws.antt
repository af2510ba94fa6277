-- The seek arm by arm, one law for each way that it can go:
-- stays, spent, nothing to look at, the run's end, none, found.
use mathlib.Core.Bool.{true}
use mathlib.Core.Path.{◌≡◌, refl, ◌∙◌}
use mathlib.Core.List.{List}
use Prim.Native.Nat.{ℕ, ◌-◌, ◌≤◌, ◌<◌}
use native.Mathlib.Omega.{arith}
use borrow.Author.Tests.{le-leb, lt-leb, eq-eqb, ne_eqb}
use lib.ListN.{length, get_or}
use Rattle.rules.specs.List.{rising, Form}
use Rattle.rules.specs.Seek.{Cursor, fresh, on, spent, bits_of, place_of, start_of}
use Rattle.rules.specs.Seek.{looks_to, gone, arrived, walked, walk_from, move, seek}
use Rattle.seeklaws.specs.Cursors.{first_at, floor, Placed, Moves}
use Rattle.seeklaws.proofs.JumpLaws.{walk_ahead, start_ahead}

module _ (f : Form) (U : ℕ) (xs : List ℕ) where
  pub seek_stays : (i b : ℕ) → b ≤ get_or xs i 0 → seek f U xs (on i) b ≡ arrived xs i 0
  unfolding seek
  seek_stays i b h = rw (le-leb b (get_or xs i 0) h)

  pub seek_spent : (b : ℕ) → seek f U xs spent b ≡ gone xs 0
  unfolding seek
  seek_spent b = refl

  module _ (c : Cursor) (b : ℕ) (m : Moves xs c b) where
    seek_moves : seek f U xs c b ≡ move f U xs c b
    unfolding seek
    seek_moves = go c m
      where
        go : (c : Cursor) → Moves xs c b → seek f U xs c b ≡ move f U xs c b
        go fresh m = refl
        go (on i) m = rw (lt-leb b (get_or xs i 0) m)
        go spent m = absurd m

    pub seek_empty : length xs ≡ 0 → seek f U xs c b ≡ gone xs 0
    unfolding move
    seek_empty e = seek_moves ∙ rw (eq-eqb (length xs) 0 e)

    pub seek_past : U ≤ b → 0 < length xs → seek f U xs c b ≡ gone xs 0
    unfolding move
    seek_past h s = seek_moves ∙ rw (ne_eqb (length xs) 0 (λ e. omega arith), le-leb U b h)

    module _ (some : 0 < length xs) (below : b < U) where
      seek_walks : seek f U xs c b ≡ walk_from f U xs (start_of f U xs c b) b
      unfolding move
      seek_walks = seek_moves ∙ rw (ne_eqb (length xs) 0 (λ e. omega arith), lt-leb U b below)

      pub seek_end : start_of f U xs c b ≡ bits_of f U xs → seek f U xs c b ≡ gone xs 0
      unfolding walk_from
      seek_end e = seek_walks ∙ rw (eq-eqb (start_of f U xs c b) (bits_of f U xs) e)

      module _ (r : rising 0 U xs ≡ true) (p : Placed xs c) (inside : start_of f U xs c b < bits_of f U xs) where
        floor_le : (c : Cursor) → Moves xs c b → floor U xs c ≤ b
        unfolding floor
        floor_le fresh m = omega arith
        floor_le (on i) m = omega arith
        floor_le spent m = absurd m

        seek_walked : seek f U xs c b ≡ walked f U xs (start_of f U xs c b) (first_at b xs)
        unfolding walk_from
        seek_walked = seek_walks ∙ rw (
          ne_eqb (start_of f U xs c b) (bits_of f U xs) (λ e. omega arith),
          walk_ahead f U xs (start_of f U xs c b) b (start_ahead f U xs r c b p (floor_le c m)),
        )

        pub seek_none : first_at b xs ≡ length xs
            → seek f U xs c b ≡ gone xs (looks_to (start_of f U xs c b) (bits_of f U xs - 1))
        unfolding walked
        seek_none e = seek_walked ∙ rw (eq-eqb (first_at b xs) (length xs) e)

        pub seek_finds : (i : ℕ) → first_at b xs ≡ i → i < length xs
            → seek f U xs c b ≡ arrived xs i (looks_to (start_of f U xs c b) (place_of f U xs i))
        unfolding walked
        seek_finds i e h = seek_walked ∙ rw (e, ne_eqb i (length xs) (λ q. omega arith))
