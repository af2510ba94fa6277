-- The pairs of a phrase, gone through from the front.
--
--   pairs_good T b args  each pair is a term below T and an offset up to the limit, the first from b on and each next
--                       further than the one before
--   Even args           no number is left over behind the pairs
--   Split args ts ds    the first of the eight numbers ts are the terms of the pairs, and so are the offsets among ds
use Rattle.std.specs.Prelude.{Bool, true, false, ◌&&◌, ◌≡◌, List, [], ◌∷◌, ℕ, ◌+◌, ◌*◌, ltb, leb, length, take}
use Rattle.rules.specs.Limits.{offset_limit}
use Rattle.rules.specs.Questions.{terms_of, offsets_of}

unfoldable pub pairs_good : ℕ → ℕ → List ℕ → Bool
pairs_good T b [] = true
pairs_good T b (t ∷ []) = false
pairs_good T b (t ∷ (d ∷ args)) = ltb t T && (leb b d && (ltb d (offset_limit + 1) && pairs_good T (d + 1) args))

abbrev pub Even : List ℕ → Type 0
Even args = length args ≡ 2 * length (terms_of args)

pub record Split (args ts ds : List ℕ) : Type 0 where
  pub terms_room : length ts ≡ 8
  pub offsets_room : length ds ≡ 8
  pub terms : take (length (terms_of args)) ts ≡ terms_of args
  pub offsets : take (length (terms_of args)) ds ≡ offsets_of args
