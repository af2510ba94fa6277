-- What is tested of the bytes of a list, each part by itself.
--
--   ones_to u p       how many of the first p bits of the number u are 1
--   After c k q      place q is just after zero number k, counted from 1,
--                    of a run with c p ones below each place p; 0 for k = 0
--   climbs lo xs     xs rises strictly, from lo at the least
--   least lo xs      the least that may follow xs where it climbs from lo; lo for the empty list
--   width_of s, upper_of s, lower_of s, bits_of s   w, where the two runs start, and n + Z, of the block s with elements
--   FramedAs f s     what the refusals 1 to 5 leave of a list in the form f
--   Framed s         that of a list in two runs
--   Sound s U n w    what refusal 6 leaves of n elements, at least 1
use Rattle.std.specs.Prelude.{Bool, true, ◌&&◌, ◌≡◌, List, [], ◌∷◌, ℕ, suc, ◌+◌, ◌*◌, ◌/◌, ◌%◌, ◌^◌, ◌≤◌, ◌<◌, leb, length, get_or}
use Rattle.std.specs.Int.Count.{ones}
use Rattle.rules.specs.Limits.{limit, list_header}
use Rattle.rules.specs.Bytes.{be_at}
use Rattle.rules.specs.Runs.{run_bit, words_for}
use Rattle.rules.specs.Counts.{ones_below}
use Rattle.rules.specs.List.{rising, width, zeros, lower_at, upper_at, Form, two_runs, form_version, form_size}
use Rattle.rules.specs.ReadList.{stated, list_u, list_n, elements}

abbrev pub ones_to : ℕ → ℕ → ℕ
ones_to u p = ones (u % 2 ^ p)

pub record After (c : ℕ → ℕ) (k q : ℕ) : Type 0 where
  pub counted : k + c q ≡ q
  pub zero_last : (j : ℕ) → suc j ≡ q → c (suc j) ≡ c j

unfoldable pub climbs : ℕ → List ℕ → Bool
climbs lo [] = true
climbs lo (x ∷ xs) = leb lo x && climbs (x + 1) xs

unfoldable pub least : ℕ → List ℕ → ℕ
least lo [] = lo
least lo (x ∷ xs) = least (x + 1) xs

abbrev pub width_of : List ℕ → ℕ
width_of s = width (list_u s) (list_n s)

abbrev pub upper_of : List ℕ → ℕ
upper_of s = upper_at (list_u s) (list_n s) (width_of s)

abbrev pub lower_of : List ℕ → ℕ
lower_of s = lower_at (list_u s) (width_of s)

abbrev pub bits_of : List ℕ → ℕ
bits_of s = list_n s + zeros (list_u s) (width_of s)

pub record FramedAs (f : Form) (s : List ℕ) : Type 0 where
  pub header : list_header ≤ length s
  pub length_stated : stated s ≡ length s
  pub version_is : get_or s 4 0 ≡ form_version f
  pub within : list_u s ≤ limit
  pub below : list_n s ≤ list_u s
  pub length_is : length s ≡ form_size f (list_u s) (list_n s)

abbrev pub Framed : List ℕ → Type 0
Framed s = FramedAs two_runs s

pub record Sound (s : List ℕ) (U n w : ℕ) : Type 0 where
  pub ones_are : ones_below s (upper_at U n w) (64 * words_for (n + zeros U w)) ≡ n
  pub upper_spare : (i : ℕ) → n + zeros U w ≤ i → i < 64 * words_for (n + zeros U w) → run_bit s (upper_at U n w) i ≡ 0
  pub lower_spare : (i : ℕ) → n * w ≤ i → i < 64 * words_for (n * w) → run_bit s (lower_at U w) i ≡ 0
  pub rises : rising 0 U (elements s (upper_at U n w) (lower_at U w) w (n + zeros U w) 0 0) ≡ true
  pub pointers_are : (q : ℕ) → 0 < q → q ≤ zeros U w / 256
      → After (ones_below s (upper_at U n w)) (256 * q) (be_at 4 s (9 + 4 * q))
