-- Laws of the block of a list in either form: its header and its length; of a valid list, that reading gives it back.
use mathlib.Core.Bool.{true}
use mathlib.Core.Path.{◌≡◌, refl, sym, ap, ap₂, ◌∙◌}
use mathlib.Core.List.{List}
use Prim.Native.Nat.{ℕ, ◌+◌, ◌*◌, ◌/◌, ◌%◌, ◌^◌, ◌≤◌, ◌<◌}
use native.Mathlib.Nat.{mod-eq_of_lt}
use native.Mathlib.Omega.{arith}
use lib.ListN.{length, get_or}
use Rattle.rules.specs.Limits.{limit, list_header}
use Rattle.rules.specs.Bytes.{Bytes}
use Rattle.rules.specs.Runs.{words_for}
use Rattle.rules.specs.List.{valid_list, map_at, map_size, map_block, Form, two_runs, bitmap, form_version, form_size}
use Rattle.rules.specs.List.{form_block}
use Rattle.rules.specs.ReadList.{stated, list_u, list_n, form_at, read_map, decode}
use Rattle.listlaws.specs.Sound.{FramedAs}
use Rattle.listlaws.proofs.BlockLaws.{block_bytes, block_stated, block_version, block_U, block_n, block_body}
use Rattle.listlaws.proofs.BlockLaws.{block_size}
use Rattle.listlaws.proofs.RefusalLaws.{version_form, decode_map}
use Rattle.listlaws.proofs.ValidLaws.{valid_parts, valid_below, valid_small, valid_read}
use Rattle.maplaws.proofs.MapLaws.{map_size_lem, map_bytes, map_stated, map_version_lem, map_U, map_n, map_read}

-- ---- of any list

map_size_is : (U : ℕ) → map_size U ≡ 13 + 4 * (U / 256) + 8 * ((U + 63) / 64)
unfolding map_size map_at words_for
map_size_is U = refl

pub form_length : (f : Form) (U : ℕ) (xs : List ℕ) → length (form_block f U xs) ≡ form_size f U (length xs)
form_length two_runs U xs = block_size U xs
form_length bitmap U xs = map_size_lem U xs

form_header : (f : Form) (U : ℕ) (xs : List ℕ) → list_header ≤ length (form_block f U xs)
form_header two_runs U xs = omega (arith, block_body U xs)
form_header bitmap U xs = omega (arith, map_size_lem U xs, map_size_is U)

pub form_bytes : (f : Form) (U : ℕ) (xs : List ℕ) → Bytes (form_block f U xs)
form_bytes two_runs U xs = block_bytes U xs
form_bytes bitmap U xs = map_bytes U xs

pub form_stated : (f : Form) (U : ℕ) (xs : List ℕ)
    → stated (form_block f U xs) ≡ length (form_block f U xs) % 2 ^ 32
form_stated two_runs U xs = block_stated U xs
form_stated bitmap U xs = map_stated U xs

pub form_version_lem : (f : Form) (U : ℕ) (xs : List ℕ) → get_or (form_block f U xs) 4 0 ≡ form_version f
form_version_lem two_runs U xs = block_version U xs
form_version_lem bitmap U xs = map_version_lem U xs

pub form_at_lem : (f : Form) (U : ℕ) (xs : List ℕ) → form_at (form_block f U xs) ≡ f
form_at_lem f U xs = version_form f (form_block f U xs) (form_version_lem f U xs)

pub form_reads_U : (f : Form) (U : ℕ) (xs : List ℕ) → list_u (form_block f U xs) ≡ U % 2 ^ 32
form_reads_U two_runs U xs = block_U U xs
form_reads_U bitmap U xs = map_U U xs

pub form_reads_n : (f : Form) (U : ℕ) (xs : List ℕ) → list_n (form_block f U xs) ≡ length xs % 2 ^ 32
form_reads_n two_runs U xs = block_n U xs
form_reads_n bitmap U xs = map_n U xs

-- ---- of a valid list

module _ (f : Form) (U : ℕ) (xs : List ℕ) (v : valid_list U xs ≡ true) where
  within : U ≤ limit
  within = (valid_parts U xs v).0

  pub form_U : list_u (form_block f U xs) ≡ U
  form_U = form_reads_U f U xs ∙ mod-eq_of_lt (omega (arith, within))

  pub form_n : list_n (form_block f U xs) ≡ length xs
  form_n = form_reads_n f U xs ∙ mod-eq_of_lt (omega (arith, within, valid_below U xs v))

pub form_small : (f : Form) (U : ℕ) (xs : List ℕ) → valid_list U xs ≡ true → length (form_block f U xs) < 2 ^ 24
form_small two_runs U xs v = valid_small U xs v
form_small bitmap U xs v = omega (arith, map_size_lem U xs, map_size_is U, (valid_parts U xs v).0)

pub form_short : (f : Form) (U : ℕ) (xs : List ℕ) → valid_list U xs ≡ true → length (form_block f U xs) < 2 ^ 32
form_short f U xs v = omega (arith, form_small f U xs v)

-- Reading the block of a valid list gives the list, in either form.
pub form_decode : (f : Form) (U : ℕ) (xs : List ℕ) → valid_list U xs ≡ true → decode (form_block f U xs) ≡ xs
form_decode two_runs U xs v = valid_read U xs v
form_decode bitmap U xs v =
    decode_map (map_block U xs) (form_at_lem bitmap U xs) ∙ ap (read_map (map_block U xs)) (form_U bitmap U xs v)
    ∙ map_read U xs (valid_parts U xs v).1

pub form_framed : (f : Form) (U : ℕ) (xs : List ℕ) → valid_list U xs ≡ true → FramedAs f (form_block f U xs)
form_framed f U xs v = record {
  header = form_header f U xs;
  length_stated = form_stated f U xs ∙ mod-eq_of_lt (form_short f U xs v);
  version_is = form_version_lem f U xs;
  within = omega (arith, form_U f U xs v, (valid_parts U xs v).0);
  below = omega (arith, form_U f U xs v, form_n f U xs v, valid_below U xs v);
  length_is = form_length f U xs ∙ sym (ap₂ (form_size f) (form_U f U xs v) (form_n f U xs v));
}
