-- How an answer comes to be in lent room, and what the room is around it.
use mathlib.Core.Path.{◌≡◌, refl, sym, ap, ◌∙◌}
use mathlib.Core.List.{List, [], ◌∷◌, ◌++◌, append-nil, append_assoc}
use Prim.Native.Nat.{ℕ, suc, ◌+◌, ◌-◌, ◌<◌}
use native.Mathlib.Omega.{arith}
use borrow.Rule.Slice.PartMut.{mid_of, put_mid}
use lib.ListN.{length, get_or, take, drop, set, length-append, length-drop, drop_of_length-le}
use lib.Seq.{take_all, drop-cons, set_at}
use Rattle.rules.specs.Write.{laid}

-- ---- number by number

-- one number more behind those that are laid
pub laid_snoc : (b room : List ℕ) (n v : ℕ) → length b ≡ n → n < length room → set (laid b room) n v
    ≡ laid (b ++ (v ∷ [])) room
unfolding laid
laid_snoc b room n v e h =
    let d = drop-cons room (length b) 0 (omega arith) in
    let l : length (b ++ (v ∷ [])) ≡ suc (length b) = length-append b (v ∷ []) ∙ omega arith in
    ap (λ (t : List ℕ). set (b ++ t) n v) d
    ∙ set_at b (get_or room (length b) 0) (drop (suc (length b)) room) v n e
    ∙ sym (ap (λ (m : ℕ). (b ++ (v ∷ [])) ++ drop m room) l ∙ append_assoc b (v ∷ []) (drop (suc (length b)) room))

pub laid_first : (room : List ℕ) (v : ℕ) → 0 < length room → set room 0 v ≡ laid (v ∷ []) room
unfolding laid
laid_first room v h = laid_snoc [] room 0 v refl h

-- ---- the part of a room behind what is used

pub tail_part : (u : ℕ) (room : List ℕ) → mid_of u (length room - u) room ≡ drop u room
tail_part u room = take_all (length room - u) (drop u room) (simp length-drop (omega arith))

pub tail_back : (u : ℕ) (room ys : List ℕ) → put_mid u (length room - u) room ys ≡ take u room ++ ys
tail_back u room ys =
    ap (λ (t : List ℕ). take u room ++ (ys ++ t))
    (drop_of_length-le (drop u room) {i = length room - u} (simp length-drop (omega arith)))
    ∙ ap (λ (t : List ℕ). take u room ++ t) (append-nil ys)
