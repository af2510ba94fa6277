-- What is tested of the bytes of a bitmap, each part by itself [02 f].
--
--   MapSound s U n   what refusal 6 leaves of a bitmap of n elements below U
--   MapValid s       s is the block of a valid list that is a bitmap
--   FormValid f s    s is the block of a valid list in the form f, which as a bitmap has an element
use Rattle.std.specs.Prelude.{true, ◌≡◌, List, ℕ, ◌+◌, ◌*◌, ◌/◌, ◌≤◌, ◌<◌}
use Rattle.rules.specs.Bytes.{be_at}
use Rattle.rules.specs.Runs.{run_bit, words_for}
use Rattle.rules.specs.Counts.{ones_below}
use Rattle.rules.specs.List.{map_at, Form, bitmap}
use Rattle.rules.specs.ReadList.{list_u, list_n, decode, is_block}
use Rattle.listlaws.specs.Sound.{FramedAs}

pub record MapSound (s : List ℕ) (U n : ℕ) : Type 0 where
  pub ones_are : ones_below s (map_at U) U ≡ n
  pub spare : (i : ℕ) → U ≤ i → i < 64 * words_for U → run_bit s (map_at U) i ≡ 0
  pub numbers_are : (q : ℕ) → 0 < q → q ≤ U / 256 → be_at 4 s (9 + 4 * q) ≡ ones_below s (map_at U) (256 * q)

pub record FormValid (f : Form) (s : List ℕ) : Type 0 where
  pub framed : FramedAs f s
  pub whole : is_block f s (list_u s) (decode s) ≡ true
  pub some : f ≡ bitmap → 0 < list_n s

abbrev pub MapValid : List ℕ → Type 0
MapValid s = FormValid bitmap s
