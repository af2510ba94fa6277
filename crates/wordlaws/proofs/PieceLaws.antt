-- Laws of bytes laid piece by piece: a piece is laid into the part of the room that starts behind those before it.
use mathlib.Core.Path.{◌≡◌, sym, ap, ◌∙◌}
use mathlib.Core.List.{List, [], ◌∷◌, ◌++◌, append_assoc, append-nil}
use Prim.Native.Nat.{ℕ, ◌+◌, ◌-◌, ◌≤◌}
use native.Mathlib.Omega.{arith}
use borrow.Rule.Slice.PartMut.{mid_of, put_mid}
use lib.ListN.{length, take, drop, set, length-append, length-drop, drop_of_length-le}
use lib.Seq.{take_all, take_at, drop_at, drop-drop, drop-cons, set_at, sets, sets-eq}
use Rattle.rules.specs.Bytes.{be}
use Rattle.rules.specs.Write.{laid}
use Rattle.laws.proofs.ByteLaws.{length_be}

-- what a part that runs to the room's end holds, and what the room is when it is back
module _ (u : ℕ) (room : List ℕ) where
  pub tail_part : mid_of u (length room - u) room ≡ drop u room
  tail_part = take_all (length room - u) (drop u room) (simp length-drop (omega arith))

  pub tail_back : (ys : List ℕ) → put_mid u (length room - u) room ys ≡ take u room ++ ys
  tail_back ys =
      ap (λ (t : List ℕ). take u room ++ (ys ++ t))
      (drop_of_length-le (drop u room) {i = length room - u} (simp length-drop (omega arith)))
      ∙ ap (λ (t : List ℕ). take u room ++ t) (append-nil ys)

  pub part_long : length (mid_of u (length room - u) room) ≡ length room - u
  part_long = ap length tail_part ∙ length-drop u room

-- a piece b behind the bytes a
module _ (a b room : List ℕ) where
  behind : a ++ laid b (drop (length a) room) ≡ laid (a ++ b) room
  unfolding laid
  behind = rw (drop-drop (length b) (length a) room, length-append a b)
      (sym (append_assoc a b (drop (length a + length b) room)))

  pub piece_laid : (u : ℕ) (r ys : List ℕ) → length a ≡ u → r ≡ laid a room → ys ≡ laid b (mid_of u (length r - u) r)
      → put_mid u (length r - u) r ys ≡ laid (a ++ b) room
  unfolding laid
  piece_laid u r ys l e f =
      let t : take u r ≡ a = ap (take u) e ∙ take_at a (drop (length a) room) u l in
      let d : drop u r ≡ drop (length a) room = ap (drop u) e ∙ drop_at a (drop (length a) room) u l in
      tail_back u r ys ∙ rw (t, f, tail_part u r, d) behind

-- the header: a length and a version
pub header_laid : (n v : ℕ) (room : List ℕ) → 5 ≤ length room
    → set (sets room 0 (be 4 n)) 4 v ≡ laid (be 4 n ++ (v ∷ [])) room
unfolding laid
header_laid n v room h =
    let b : List ℕ = be 4 n in
    let l : length b ≡ 4 = length_be 4 n in
    let s : sets room 0 b ≡ b ++ drop 4 room = sets-eq b room 0 (omega arith) ∙ rw l in
    let d : length (b ++ (v ∷ [])) ≡ 5 = length-append b (v ∷ []) ∙ omega arith in
    ap (λ (x : List ℕ). set x 4 v) (s ∙ ap (λ (x : List ℕ). b ++ x) (drop-cons room 4 0 (omega arith)))
    ∙ set_at b _ _ v 4 l
    ∙ sym (ap (λ (k : ℕ). (b ++ (v ∷ [])) ++ drop k room) d ∙ append_assoc b (v ∷ []) (drop 5 room))
