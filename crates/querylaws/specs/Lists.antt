-- Lists of a card side by side, and the eight numbers that say of each where it is and what shape it has.
--
--   span f i n      f i, f (i + 1) and so on, n of them
--   number_of sh i j number j of list i: 0 and 1 where it starts and ends in the card,
--                   2 to 7 U, w, bits, lower, upper and n
--   part_at s sh i   the bytes of list i
--   form_in s sh i   its form
--   shape_in sh i    its shape, by its numbers
--   pages_at s sh i  its pages
--   pages_in s sh k  the pages of each of the first k lists
--   bound_in sh      the U of the first list
--   ListAt s sh i   list i is an accepted block with that U, and its numbers are its own
--   Lists s sh k    each of the first k lists is; k from 1 to 8
use Rattle.std.specs.Prelude.{◌≡◌, List, [], ◌∷◌, ℕ, zero, suc, ◌+◌, ◌-◌, ◌*◌, ◌≤◌, ◌<◌, length, get_or, take, drop}
use Rattle.rules.specs.List.{Form}
use Rattle.rules.specs.ReadList.{list_u, form_at, decode}
use Rattle.shape.specs.declared.Shape.{Shape}
use Rattle.readlaws.specs.Open.{FormOpen}

unfoldable pub span : {A : Type 0} → (ℕ → A) → ℕ → ℕ → List A
span f i zero = []
span f i (suc n) = f i ∷ span f (i + 1) n

abbrev pub number_of : List ℕ → ℕ → ℕ → ℕ
number_of sh i j = get_or sh (8 * i + j) 0

unfoldable pub part_at : List ℕ → List ℕ → ℕ → List ℕ
part_at s sh i = take (number_of sh i 1 - number_of sh i 0) (drop (number_of sh i 0) s)

unfoldable pub form_in : List ℕ → List ℕ → ℕ → Form
form_in s sh i = form_at (part_at s sh i)

unfoldable pub shape_in : List ℕ → ℕ → Shape
shape_in sh i = record {
  u = number_of sh i 2;
  n = number_of sh i 7;
  w = number_of sh i 3;
  bits = number_of sh i 4;
  lower = number_of sh i 5;
  upper = number_of sh i 6;
  end = number_of sh i 1 - number_of sh i 0;
}

unfoldable pub pages_at : List ℕ → List ℕ → ℕ → List ℕ
pages_at s sh i = decode (part_at s sh i)

unfoldable pub pages_in : List ℕ → List ℕ → ℕ → List (List ℕ)
pages_in s sh k = span (pages_at s sh) 0 k

unfoldable pub bound_in : List ℕ → ℕ
bound_in sh = number_of sh 0 2

pub record ListAt (s sh : List ℕ) (i : ℕ) : Type 0 where
  pub room : 8 * i + 8 ≤ length sh
  pub few : i < 8
  pub starts : number_of sh i 0 ≤ number_of sh i 1
  pub ends : number_of sh i 1 ≤ length s
  pub opened : FormOpen (form_in s sh i) (part_at s sh i) (shape_in sh i)
  pub bound : list_u (part_at s sh i) ≡ bound_in sh

pub record Lists (s sh : List ℕ) (k : ℕ) : Type 0 where
  pub some : 0 < k
  pub few : k ≤ 8
  pub each : (i : ℕ) → i < k → ListAt s sh i
