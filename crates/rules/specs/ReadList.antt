-- Reading a list block plainly, and the refusal that bytes get as one [01 One list, Numbers of refusal].
--
--   stated s        the length that a block states
--   list_u s, list_n s  its U and its n
--   form_at s        the form that its version tells
--   decode s        the list that the bytes hold, bit after bit of the upper run or of the bitmap
--   is_block f s U xs  whether the bytes are the block of the valid list xs in the form f
--   refusal_in last v s  the refusal of the bytes as pages of an index of version v, where the versions of a list are 1 to
--                   last: the first one found in the order 1 to 6, and 3 once more, for the form, within 5
--   list_refusal s   that of a list alone
--   part_refusal v s that of a list in a term: of pages, v is the version of the index; of counts and positions 1, since
--                   they are never bitmaps
use Rattle.std.specs.Prelude.{Bool, cond, not, ◌&&◌, List, [], ◌∷◌, ℕ, zero, suc, ◌+◌, ◌*◌, ◌^◌, ltb, eqb, length, get_or}
use Rattle.rules.specs.Verdict.{Verdict}
use Rattle.rules.specs.Verdict.{Accepted, Short, Length, Version, Limit, Layout, Runs}
use Rattle.rules.specs.Limits.{limit, version, map_version, list_header, up_to}
use Rattle.rules.specs.Bytes.{be_at, same}
use Rattle.rules.specs.Runs.{run_bit, field}
use Rattle.rules.specs.List.{rising, width, zeros, lower_at, upper_at, map_at, Form, two_runs, bitmap}
use Rattle.rules.specs.List.{form_of, form_version, form_size, form_block}

unfoldable pub stated : List ℕ → ℕ
stated s = be_at 4 s 0

unfoldable pub list_u : List ℕ → ℕ
list_u s = be_at 4 s 5

unfoldable pub list_n : List ℕ → ℕ
list_n s = be_at 4 s 9

-- the elements that the b bits of the upper run from place h + i on hold, before which are h zeros and i ones
unfoldable pub elements : List ℕ → ℕ → ℕ → ℕ → ℕ → ℕ → ℕ → List ℕ
elements s up lo w zero h i = []
elements s up lo w (suc b) h i =
    elim (run_bit s up (h + i)) [
      | zero ↦ elements s up lo w b (h + 1) i
      | suc _ ↦ (h * 2 ^ w + field s lo (i * w) w) ∷ elements s up lo w b h (i + 1)
    ]

unfoldable pub read_list : List ℕ → ℕ → ℕ → List ℕ
read_list s U zero = []
read_list s U (suc m) =
    let n : ℕ = suc m in
    let w : ℕ = width U n in
    elements s (upper_at U n w) (lower_at U w) w (n + zeros U w) 0 0

-- the elements that the b bits of the bitmap from place p on hold
unfoldable pub map_elements : List ℕ → ℕ → ℕ → ℕ → List ℕ
map_elements s at zero p = []
map_elements s at (suc b) p =
    elim (run_bit s at p) [ zero ↦ map_elements s at b (p + 1) | suc _ ↦ p ∷ map_elements s at b (p + 1) ]

unfoldable pub read_map : List ℕ → ℕ → List ℕ
read_map s U = map_elements s (map_at U) U 0

unfoldable pub form_at : List ℕ → Form
form_at s = cond (eqb (get_or s 4 0) map_version) bitmap two_runs

abbrev pub form_read : Form → List ℕ → List ℕ
form_read two_runs s = read_list s (list_u s) (list_n s)
form_read bitmap s = read_map s (list_u s)

unfoldable pub decode : List ℕ → List ℕ
decode s = form_read (form_at s) s

unfoldable pub is_block : Form → List ℕ → ℕ → List ℕ → Bool
is_block f s U xs = rising 0 U xs && same s (form_block f U xs)

unfoldable pub refusal_in : ℕ → ℕ → List ℕ → Verdict
refusal_in last v s =
    let f : Form = form_of v (list_u s) (list_n s) in
    cond (ltb (length s) list_header) Short
    (cond (not (eqb (stated s) (length s))) Length
    (cond (not (up_to last (get_or s 4 0))) Version
    (cond (ltb limit (list_u s)) Limit
    (cond (ltb (list_u s) (list_n s)) Layout
    (cond (not (eqb (get_or s 4 0) (form_version f))) Version
    (cond (not (eqb (length s) (form_size f (list_u s) (list_n s)))) Layout
    (cond (not (is_block f s (list_u s) (decode s))) Runs Accepted)))))))

unfoldable pub list_refusal : List ℕ → Verdict
list_refusal s = refusal_in version version s

unfoldable pub part_refusal : ℕ → List ℕ → Verdict
part_refusal v s = refusal_in map_version v s
