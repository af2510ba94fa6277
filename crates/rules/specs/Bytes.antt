-- Bytes, and big-endian numbers [01 What the card holds].
--
--   Bytes s      each number of s is a byte, as in every slice of bytes
--   be k v       v as k bytes, the weightiest first; what does not fit is dropped
--   be_at k s p   the number that the k bytes of s from place p hold
--   sized b      the bytes b behind their own length, four bytes that count themselves
--   same s t     whether two lists are one
use Rattle.std.specs.Prelude.{Bool, true, false, ◌&&◌, List, [], ◌∷◌, ◌++◌, ℕ, zero, suc, ◌+◌, ◌*◌, ◌/◌, ◌%◌, ◌^◌, ◌<◌, eqb, length, get_or}

abbrev pub Bytes : List ℕ → Type 0
Bytes s = (i : ℕ) → get_or s i 0 < 256

unfoldable pub be : ℕ → ℕ → List ℕ
be zero v = []
be (suc k) v = (v / 256 ^ k % 256) ∷ be k v

unfoldable pub be_at : ℕ → List ℕ → ℕ → ℕ
be_at zero s p = 0
be_at (suc k) s p = be_at k s p * 256 + get_or s (p + k) 0

unfoldable pub sized : List ℕ → List ℕ
sized b = be 4 (4 + length b) ++ b

unfoldable pub same : List ℕ → List ℕ → Bool
same [] [] = true
same [] (y ∷ t) = false
same (x ∷ s) [] = false
same (x ∷ s) (y ∷ t) = eqb x y && same s t
