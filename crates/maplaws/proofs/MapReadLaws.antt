-- What is read of a valid bitmap: its counts and its numbers, and each page by its rank.
use mathlib.Core.Logic.{◌↔◌}
use mathlib.Core.Path.{◌≡◌, ap}
use mathlib.Core.List.{List}
use Prim.Native.Nat.{ℕ, suc, ◌+◌, ◌-◌, ◌*◌, ◌≤◌, ◌<◌}
use native.Mathlib.Decide.{dec_lt}
use native.Mathlib.Omega.{arith}
use lib.ListN.{length, get_or}
use Rattle.rules.specs.Runs.{run_bit, words_for}
use Rattle.rules.specs.Counts.{ones_below}
use Rattle.rules.specs.List.{map_at, bitmap}
use Rattle.rules.specs.ReadList.{list_u, list_n, map_elements, decode}
use Rattle.laws.proofs.CountLaws.{below_suc}
use Rattle.laws.proofs.RunLaws.{ones_mono}
use Rattle.maplaws.specs.Maps.{MapSound, MapValid}
use Rattle.maplaws.proofs.PageLaws.{page_of_one, one_of_page}
use Rattle.maplaws.proofs.MapSoundLaws.{map_pages, map_sound_iff}
use Rattle.maplaws.proofs.Theorems.{valid_bytes, valid_length}

module _ (s : List ℕ) (a : MapValid s) where
  abbrev U : ℕ
  U = list_u s

  abbrev n : ℕ
  n = list_n s

  abbrev at : ℕ
  at = map_at (list_u s)

  -- the ones in all are n, the spare bits 0, and the numbers are counts
  pub map_sound : MapSound s (list_u s) (list_n s)
  map_sound = (map_sound_iff s a.framed (valid_bytes bitmap s a)).0 a.whole

  pages : decode s ≡ map_elements s at U 0
  pages = map_pages s a.framed

  ranked : (i : ℕ) → i < n → (run_bit s at (get_or (decode s) i 0) ≡ 1) × (ones_below s at (get_or (decode s) i 0) ≡ i)
  ranked i h =
      rw pages (one_of_page s at U i (omega (arith, ap length pages, valid_length bitmap s a)))

  -- every page has its one, below which are as many as its number
  pub page_set : (i : ℕ) → i < list_n s → run_bit s (map_at (list_u s)) (get_or (decode s) i 0) ≡ 1
  page_set i h = (ranked i h).0

  pub page_rank : (i : ℕ) → i < list_n s → ones_below s (map_at (list_u s)) (get_or (decode s) i 0) ≡ i
  page_rank i h = (ranked i h).1

  -- the ones below a place are at most those in all
  ones_mono_le : (p q : ℕ) → p ≤ q → ones_below s at p ≤ ones_below s at q
  ones_mono_le p q h =
      let e : p + (q - p) ≡ q = omega arith in
      rw e at (ones_mono s at p (q - p))

  pub ones_le : (p : ℕ) → p ≤ list_u s → ones_below s (map_at (list_u s)) p ≤ list_n s
  ones_le p h = omega (arith, ones_mono_le p U h, map_sound.ones_are)

  -- no one among the spare bits
  pub set_within : (p : ℕ) → p < 64 * words_for (list_u s) → run_bit s (map_at (list_u s)) p ≡ 1 → p < list_u s
  set_within p h o = elim (dec_lt p U) [
    | yes l ↦ l
    | no g ↦ absurd (omega (arith, o, map_sound.spare p (omega arith) h))
  ]

  -- a one is that of the page with as many below it
  pub rank_lt : (p : ℕ) → p < list_u s → run_bit s (map_at (list_u s)) p ≡ 1 → ones_below s (map_at (list_u s)) p < list_n s
  rank_lt p h o = omega (arith, ones_le (suc p) h, below_suc s at p)

  pub page_at_lem : (p : ℕ) → p < list_u s → run_bit s (map_at (list_u s)) p ≡ 1
      → get_or (decode s) (ones_below s (map_at (list_u s)) p) 0 ≡ p
  page_at_lem p h o = rw pages (page_of_one s at U p h o)

  -- the ones below a place are the pages below it
  pub page_below : (i b : ℕ) → i < list_n s
      → (get_or (decode s) i 0 < b) ↔ (i < ones_below s (map_at (list_u s)) b)
  page_below i b h =
      let x : ℕ = get_or (decode s) i 0 in (
        λ l. omega (arith, ones_mono_le (suc x) b l, below_suc s at x, page_set i h, page_rank i h),
        λ l. elim (dec_lt x b) [
          | yes g ↦ g
          | no g ↦ absurd (omega (arith, ones_mono_le b x (omega arith), page_rank i h))
        ],
      )
