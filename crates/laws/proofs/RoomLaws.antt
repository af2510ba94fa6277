-- Laws of lent room after bytes are laid at its front.
use mathlib.Core.Bool.{Bool, true, false, cond}
use mathlib.Core.Path.{◌≡◌, refl, ap, ◌∙◌}
use mathlib.Core.List.{List}
use Prim.Native.Nat.{ℕ, ◌≤◌, ◌<◌}
use native.Mathlib.Nat.{zero-add}
use native.Mathlib.Omega.{arith}
use borrow.Author.Tests.{le-ltb, ltb-false}
use lib.Dec.{ltb, lit<}
use lib.ListN.{length, take, drop, length-append, length-drop, take-append-drop}
use lib.Seq.{sets, sets-eq, take_at, drop_at}
use Rattle.rules.specs.Verdict.{Verdict}
use Rattle.rules.specs.Verdict.{Accepted, Room}
use Rattle.rules.specs.Refusal.{number}
use Rattle.rules.specs.Write.{Made, refused, laid, stored}

-- ---- bytes laid

module _ (b room : List ℕ) where
  pub take_laid : take (length b) (laid b room) ≡ b
  unfolding laid
  take_laid = take_at b (drop (length b) room) (length b) refl

  pub drop_laid : drop (length b) (laid b room) ≡ drop (length b) room
  unfolding laid
  drop_laid = drop_at b (drop (length b) room) (length b) refl

  pub laid_front : length b ≤ length (laid b room)
  unfolding laid
  laid_front = rw length-append (omega arith)

  pub length_laid : length b ≤ length room → length (laid b room) ≡ length room
  unfolding laid
  length_laid h = rw (length-append, length-drop) (omega arith)

-- stored at the front
pub sets_laid : (b room : List ℕ) → length b ≤ length room → sets room 0 b ≡ laid b room
unfolding laid
sets_laid b room h = sets-eq b room 0 (omega arith) ∙ rw (zero-add (length b))

-- laying what is there changes nothing
pub laid_same : (n : ℕ) (room : List ℕ) (b : List ℕ) → length b ≡ n → b ≡ take n room → laid b room ≡ room
unfolding laid
laid_same n room b l e = rw (l, e) (take-append-drop n room)

-- ---- a writer's result

-- what a test that leads to a refusal leaves of a writer's success
pub made_passed : (t : Bool) (r : Verdict) (room : List ℕ) (m : Made) → 0 < number r
    → (cond t (refused r room) m).refusal ≡ Accepted → (t ≡ false) × (m.refusal ≡ Accepted)
made_passed true r room m h e = absurd (omega (arith, ap number e))
made_passed false r room m h e = (refl, e)

-- a success: the bytes b at the front of the room
abbrev pub success : List ℕ → List ℕ → Made
success b room = record { refusal = Accepted; size = length b; room = laid b room }

module _ (b room : List ℕ) where
  pub stored_fits : length b ≤ length room → stored b room ≡ success b room
  unfolding stored
  stored_fits h = rw (le-ltb (length room) (length b) h)

  pub fits_stored : (stored b room).refusal ≡ Accepted → length b ≤ length room
  unfolding stored
  fits_stored e = ltb-false (length room) (length b)
      (made_passed (ltb (length room) (length b)) Room room (success b room) (lit< tt) e).0
