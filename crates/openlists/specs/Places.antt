-- Places of lists in a card, two numbers each, in a question's order; and where each list stands once the lead is
-- first.
--
--   bytes_of s from to   the bytes of the card s from byte `from` up to byte `to`
--   Within s from to    they lie in it, and their place fits 32 bits
--   place_part s ps i    the bytes of the card s from number 0 to number 1 of place i
--   place_pages s ps i   the pages of the list there
--   placed_in s ps k     those of the first k places
--   numbers_of a z g     the eight numbers of a list of shape g from byte a to byte z
--   numbers_at s ps i    those of the list at place i
--   source_of lead t     the place whose list stands in slot t, where place number lead comes first
--   slot_of lead i       the slot in which the list of place i then stands
--   PlaceOk s ps i      an accepted block is there
--   Places s ps k       so for each of the first k places; k from 1 to 8
--   Alike s ps k        the lists there are of one U
--   Edited v s ps k     and of the form that an index of version v gives them
--   Slots s ps lead t r the first t slots of the numbers r are those of their places
--   Opened s ps k r     the 64 numbers r place the k lists, the lead first and the others in their order
use Rattle.std.specs.Prelude.{cond, ◌≡◌, List, [], ◌∷◌, ℕ, ◌+◌, ◌-◌, ◌*◌, ◌^◌, ◌≤◌, ◌<◌, eqb, leb, ltb, length, get_or, take, drop}
use Rattle.rules.specs.List.{form_of}
use Rattle.rules.specs.ReadList.{list_u, list_n, form_at, decode}
use Rattle.rules.specs.Common.{lead_pages, other_pages}
use Rattle.shape.specs.declared.Shape.{Shape}
use Rattle.shape.specs.Shape.{form_shape}
use Rattle.maplaws.specs.Maps.{FormValid}
use Rattle.querylaws.specs.Lists.{span, number_of, part_at, pages_in, bound_in, Lists}

abbrev pub from_of : List ℕ → ℕ → ℕ
from_of ps i = get_or ps (2 * i) 0

abbrev pub to_of : List ℕ → ℕ → ℕ
to_of ps i = get_or ps (2 * i + 1) 0

abbrev pub bytes_of : List ℕ → ℕ → ℕ → List ℕ
bytes_of s from to = take (to - from) (drop from s)

pub record Within (s : List ℕ) (from to : ℕ) : Type 0 where
  pub starts : from ≤ to
  pub ends : to ≤ length s
  pub short : to < 2 ^ 32

unfoldable pub place_part : List ℕ → List ℕ → ℕ → List ℕ
place_part s ps i = bytes_of s (from_of ps i) (to_of ps i)

unfoldable pub place_pages : List ℕ → List ℕ → ℕ → List ℕ
place_pages s ps i = decode (place_part s ps i)

unfoldable pub placed_in : List ℕ → List ℕ → ℕ → List (List ℕ)
placed_in s ps k = span (place_pages s ps) 0 k

abbrev pub numbers_of : ℕ → ℕ → Shape → List ℕ
numbers_of a z g = a ∷ z ∷ g.u ∷ g.w ∷ g.bits ∷ g.lower ∷ g.upper ∷ g.n ∷ []

unfoldable pub shape_at : List ℕ → List ℕ → ℕ → Shape
shape_at s ps i = form_shape (form_at (place_part s ps i)) (list_u (place_part s ps i)) (list_n (place_part s ps i))

abbrev pub numbers_at : List ℕ → List ℕ → ℕ → List ℕ
numbers_at s ps i = numbers_of (from_of ps i) (to_of ps i) (shape_at s ps i)

-- the lead, then those before it, then those behind it
unfoldable pub source_of : ℕ → ℕ → ℕ
source_of lead t = cond (eqb t 0) lead (cond (leb t lead) (t - 1) t)

unfoldable pub slot_of : ℕ → ℕ → ℕ
slot_of lead i = cond (eqb i lead) 0 (cond (ltb i lead) (i + 1) i)

pub record PlaceOk (s ps : List ℕ) (i : ℕ) : Type 0 where
  pub room : 2 * i + 2 ≤ length ps
  pub starts : from_of ps i ≤ to_of ps i
  pub ends : to_of ps i ≤ length s
  pub accepted : FormValid (form_at (place_part s ps i)) (place_part s ps i)

pub record Places (s ps : List ℕ) (k : ℕ) : Type 0 where
  pub some : 0 < k
  pub few : k ≤ 8
  pub each : (i : ℕ) → i < k → PlaceOk s ps i

abbrev pub Alike : List ℕ → List ℕ → ℕ → Type 0
Alike s ps k = (i : ℕ) → i < k → list_u (place_part s ps i) ≡ list_u (place_part s ps 0)

abbrev pub Edited : ℕ → List ℕ → List ℕ → ℕ → Type 0
Edited v s ps k = (i : ℕ) → i < k
    → form_at (place_part s ps i) ≡ form_of v (list_u (place_part s ps i)) (list_n (place_part s ps i))

pub record Slots (s ps : List ℕ) (lead t : ℕ) (r : List ℕ) : Type 0 where
  pub room : length r ≡ 64
  pub slot : (i j : ℕ) → i < t → j < 8 → number_of r i j ≡ get_or (numbers_at s ps (source_of lead i)) j 0

pub record Opened (s ps : List ℕ) (k : ℕ) (r : List ℕ) : Type 0 where
  pub room : length r ≡ 64
  pub lists : Lists s r k
  pub pages : pages_in s r k ≡ lead_pages (placed_in s ps k) ∷ other_pages (placed_in s ps k)
  pub bound : bound_in r ≡ list_u (place_part s ps 0)
  pub source : (i : ℕ) → i < k → (j : ℕ) × (j < k) × (part_at s r i ≡ place_part s ps j)
