-- Laws of the block of which no element is laid: cleared first, then a header at the front of each of its parts.
use mathlib.Core.Path.{◌≡◌, refl, sym, ap, ap₂, ◌∙◌}
use mathlib.Core.List.{List, [], ◌∷◌, ◌++◌, append_assoc, append-nil}
use Prim.Native.Nat.{ℕ, ◌+◌, ◌-◌, ◌≤◌}
use native.Mathlib.Omega.{arith}
use borrow.Rule.Slice.PartMut.{mid_of, put_mid}
use lib.ListN.{length, take, drop, set, replicate, length-append, length-drop, length-replicate}
use lib.ListN.{replicate-append-replicate}
use lib.Seq.{take_at, drop_at, sets}
use Rattle.rules.specs.Limits.{version}
use Rattle.rules.specs.Bytes.{be, sized}
use Rattle.rules.specs.List.{Form, two_runs, bitmap, form_of, form_version, form_size}
use Rattle.rules.specs.Write.{laid}
use Rattle.rules.specs.InPlace.{emptied, map_emptied, form_emptied}
use Rattle.rules.specs.Stream.{announced}
use Rattle.laws.proofs.ByteLaws.{length_be, sets_then}
use Rattle.laws.proofs.RoomLaws.{sets_laid}
use Rattle.shape.specs.declared.Shape.{Shape}
use Rattle.filllaws.specs.Filling.{FittingAs}
use Rattle.filllaws.proofs.SideLaws.{end_is, header_fits}
use Rattle.wordlaws.proofs.PieceLaws.{tail_part, tail_back, header_laid}
use Rattle.sessionlaws.specs.declared.Layout.{Layout}
use Rattle.sessionlaws.specs.Session.{Announced}
use Rattle.sessionlaws.specs.Layout.{layout_of, Housed}
use Rattle.sessionlaws.proofs.LayoutLaws.{counts_tell, layout_tells, house_announced, house_places}
use Rattle.sessionlaws.proofs.LayoutLaws.{house_pages, house_counts, house_positions}

abbrev pub zeros : ℕ → List ℕ
zeros n = replicate n 0

pub zeros_long : (n : ℕ) → length (zeros n) ≡ n
zeros_long n = length-replicate {A = ℕ} n 0

zeros_add : (n m : ℕ) → zeros n ++ zeros m ≡ zeros (n + m)
zeros_add n m = replicate-append-replicate {A = ℕ} n m 0

pub zeros_laid : (n : ℕ) (room : List ℕ) → laid (zeros n) room ≡ zeros n ++ drop n room
unfolding laid
zeros_laid n room = ap (λ k. zeros n ++ drop k room) (zeros_long n)

-- ---- headers

-- the 13 bytes of a list's header, its block without elements, and the 5 bytes of the term's header
abbrev pub head_of : Form → Shape → List ℕ
head_of o g = ((be 4 g.end ++ (form_version o ∷ [])) ++ be 4 g.u) ++ be 4 g.n

abbrev pub empty_of : Form → Shape → List ℕ
empty_of o g = head_of o g ++ zeros (g.end - 13)

abbrev pub front_of : Layout → List ℕ
front_of g = be 4 g.size ++ (version ∷ [])

-- a block without elements in either form
form_emptied_lem : (o : Form) (U n : ℕ)
    → form_emptied o U n ≡ sized (form_version o ∷ (be 4 U ++ (be 4 n ++ zeros (form_size o U n - 13))))
unfolding emptied map_emptied
form_emptied_lem two_runs U n = refl
form_emptied_lem bitmap U n = refl

module _ (o : Form) (g : Shape) where
  abbrev v : List ℕ
  v = form_version o ∷ []

  early : length (be 4 g.end ++ v) ≡ 5
  early = length-append (be 4 g.end) v ∙ omega (arith, length_be 4 g.end)

  middle : length ((be 4 g.end ++ v) ++ be 4 g.u) ≡ 9
  middle = length-append (be 4 g.end ++ v) (be 4 g.u) ∙ omega (arith, early, length_be 4 g.u)

  pub head_long : length (head_of o g) ≡ 13
  head_long =
      length-append ((be 4 g.end ++ v) ++ be 4 g.u) (be 4 g.n)
      ∙ omega (arith, middle, length_be 4 g.n)

  -- what storing its four parts leaves
  pub head_laid : (d : List ℕ) → 13 ≤ length d
      → sets (sets (sets (sets d 0 (be 4 g.end)) 4 (form_version o ∷ [])) 5 (be 4 g.u)) 9 (be 4 g.n)
      ≡ laid (head_of o g) d
  head_laid d h =
      let d1 : List ℕ = sets d 0 (be 4 g.end) in
      let d2 : List ℕ = sets d1 4 v in
      let d3 : List ℕ = sets d2 5 (be 4 g.u) in
      let e2 = sets_then d d1 d2 0 4 (be 4 g.end) v refl (omega (arith, length_be 4 g.end)) refl in
      let e3 = sets_then d d2 d3 0 5 (be 4 g.end ++ v) (be 4 g.u) e2 (omega (arith, early)) refl in
      sets_then d d3 (sets d3 9 (be 4 g.n)) 0 9 ((be 4 g.end ++ v) ++ be 4 g.u) (be 4 g.n) e3
      (omega (arith, middle)) refl
      ∙ sets_laid (head_of o g) d (omega (arith, head_long))

  pub empty_long : 13 ≤ g.end → length (empty_of o g) ≡ g.end
  empty_long h =
      length-append (head_of o g) (zeros (g.end - 13)) ∙ omega (arith, head_long, zeros_long (g.end - 13))

  pub emptied_is : (s : List ℕ) → FittingAs o g s → empty_of o g ≡ form_emptied o g.u g.n
  unfolding sized
  emptied_is s f =
      let z : List ℕ = zeros (form_size o g.u g.n - 13) in
      let e = end_is g s f in
      let l : 4 + length (form_version o ∷ (be 4 g.u ++ (be 4 g.n ++ z))) ≡ form_size o g.u g.n =
      omega (
        arith,
        header_fits g s f,
        e,
        length-append (be 4 g.u) (be 4 g.n ++ z),
        length-append (be 4 g.n) z,
        length_be 4 g.u,
        length_be 4 g.n,
        zeros_long (form_size o g.u g.n - 13),
      ) in
      rw (form_emptied_lem o g.u g.n, l, e) (simp append_assoc)

-- ---- a header laid into the zeros behind the bytes a

module _ (t : List ℕ) where
  laid_zeros : (h : List ℕ) (m k : ℕ) → length h ≤ m
      → laid h (zeros (m + k) ++ t) ≡ (h ++ zeros (m - length h)) ++ (zeros k ++ t)
  unfolding laid
  laid_zeros h m k l =
      let j : ℕ = m - length h in
      let n : length h + (j + k) ≡ m + k = omega arith in
      let z : zeros (m + k) ≡ zeros (length h) ++ (zeros j ++ zeros k) =
      sym (ap (λ (x : List ℕ). zeros (length h) ++ x) (zeros_add j k) ∙ zeros_add (length h) (j + k) ∙ ap zeros n) in
      ap (λ (x : List ℕ). h ++ drop (length h) (x ++ t)) z
      ∙ ap (λ (x : List ℕ). h ++ drop (length h) x) (append_assoc (zeros (length h)) (zeros j ++ zeros k) t)
      ∙ ap (λ (x : List ℕ). h ++ x)
      (drop_at (zeros (length h)) ((zeros j ++ zeros k) ++ t) (length h) (zeros_long (length h))
      ∙ append_assoc (zeros j) (zeros k) t)
      ∙ sym (append_assoc h (zeros j) (zeros k ++ t))

  -- the room r holds the bytes a and then zeros: a list's header is written behind a
  module _ (a : List ℕ) (o : Form) (g : Shape) (k u : ℕ) (r : List ℕ) (some : 13 ≤ g.end) (l : length a ≡ u)
      (e : r ≡ a ++ (zeros (g.end + k) ++ t)) where
    abbrev x : List ℕ
    x = zeros (g.end + k) ++ t

    tail_is : mid_of u (length r - u) r ≡ x
    tail_is = tail_part u r ∙ ap (drop u) e ∙ drop_at a x u l

    pub part_head : 13 ≤ length (mid_of u (length r - u) r)
    part_head =
        rw tail_is (omega (arith, length-append (zeros (g.end + k)) t, zeros_long (g.end + k)))

    pub part_framed : (ys : List ℕ) → (let d : List ℕ = mid_of u (length r - u) r in
        ys ≡ sets (sets (sets (sets d 0 (be 4 g.end)) 4 (form_version o ∷ [])) 5 (be 4 g.u)) 9 (be 4 g.n))
        → put_mid u (length r - u) r ys ≡ (a ++ empty_of o g) ++ (zeros k ++ t)
    part_framed ys f =
        let d : take u r ≡ a = ap (take u) e ∙ take_at a x u l in
        let q : ys ≡ empty_of o g ++ (zeros k ++ t) =
        f ∙ head_laid o g (mid_of u (length r - u) r) part_head ∙ ap (laid (head_of o g)) tail_is
        ∙ laid_zeros (head_of o g) g.end k (omega (arith, head_long o g))
        ∙ ap (λ j. (head_of o g ++ zeros (g.end - j)) ++ (zeros k ++ t)) (head_long o g) in
        tail_back u r ys ∙ rw (d, q) (sym (append_assoc a (empty_of o g) (zeros k ++ t)))

-- ---- the block

module _ {v : ℕ} {g : Layout} {room : List ℕ} (h : Housed v g room) where
  -- the pages' form, and the lists without elements
  abbrev form : Form
  form = form_of v g.pages.u g.pages.n

  abbrev first : List ℕ
  first = empty_of (form_of v g.pages.u g.pages.n) g.pages

  abbrev second : List ℕ
  second = empty_of two_runs g.counts

  abbrev third : List ℕ
  third = empty_of two_runs g.positions

  abbrev rest : List ℕ
  rest = drop g.size room

  -- each list has its header, and all three end with the block
  pub heads : (13 ≤ g.pages.end) × (13 ≤ g.counts.end) × (13 ≤ g.positions.end)
      × (g.size ≡ 5 + (g.pages.end + (g.counts.end + g.positions.end)))
  heads =
      let p = house_places h in
      let s : (n : ℕ) → List ℕ = λ n. zeros (length room - n) in (
        header_fits g.pages (s 5) (house_pages h (s 5) (zeros_long (length room - 5))),
        header_fits g.counts (s g.second) (house_counts h (s g.second) (zeros_long (length room - g.second))),
        header_fits g.positions (s g.third)
            (house_positions h (s g.third) (zeros_long (length room - g.third))),
        omega arith,
      )

  pub front_long : length (front_of g) ≡ 5
  front_long = length-append (be 4 g.size) (version ∷ []) ∙ omega (arith, length_be 4 g.size)

  -- the room keeps its length at every step
  pub step_long : (a : List ℕ) (n : ℕ) (r : List ℕ) → length a + n ≡ g.size → r ≡ a ++ (zeros n ++ drop g.size room)
      → length r ≡ length room
  step_long a n r l e =
      ap length e
      ∙ omega (
        arith,
        length-append a (zeros n ++ rest),
        length-append (zeros n) rest,
        zeros_long n,
        length-drop g.size room,
        h.fits,
      )

  pub front_laid : (r : List ℕ) → r ≡ laid (zeros g.size) room
      → set (sets r 0 (be 4 g.size)) 4 1
      ≡ front_of g ++ (zeros (g.pages.end + (g.counts.end + g.positions.end)) ++ drop g.size room)
  front_laid r e =
      let k : ℕ = g.pages.end + (g.counts.end + g.positions.end) in
      let n : g.size ≡ 5 + k = heads.3 in
      let q : r ≡ zeros g.size ++ rest = e ∙ zeros_laid g.size room in
      let l = step_long [] g.size r (omega arith) q in
      header_laid g.size 1 r (omega (arith, h.fits))
      ∙ ap (laid (front_of g)) (q ∙ ap (λ j. zeros j ++ rest) n)
      ∙ laid_zeros rest (front_of g) 5 k (omega (arith, front_long))
      ∙ ap (λ j. (front_of g ++ zeros (5 - j)) ++ (zeros k ++ rest)) front_long
      ∙ ap (λ (y : List ℕ). y ++ (zeros k ++ rest)) (append-nil (front_of g))

  -- what lies before each list, and the whole
  pub before_counts : length (front_of g ++ first) ≡ g.second
  before_counts =
      length-append (front_of g) first
      ∙ omega (arith, front_long, empty_long form g.pages heads.0, house_places h)

  pub before_positions : length ((front_of g ++ first) ++ second) ≡ g.third
  before_positions =
      length-append (front_of g ++ first) second
      ∙ omega (arith, before_counts, empty_long two_runs g.counts heads.1, house_places h)

  pub before_end : length (((front_of g ++ first) ++ second) ++ third)
      ≡ g.size
  before_end =
      length-append ((front_of g ++ first) ++ second) third
      ∙ omega (arith, before_positions, empty_long two_runs g.positions heads.2, house_places h)

  -- the announced block, of the lists as they stand in the room
  block_is : ((front_of g ++ first) ++ second) ++ third
      ≡ announced v g.pages.u g.pages.n g.positions.n g.positions.u
  unfolding announced sized
  block_is =
      let c = counts_tell v g.pages.u g.pages.n g.positions.n g.positions.u (house_announced h) g
      h.shape in
      let s : (n : ℕ) → List ℕ = λ n. zeros (length room - n) in
      let p = emptied_is form g.pages (s 5) (house_pages h (s 5) (zeros_long (length room - 5))) in
      let q = emptied_is two_runs g.counts (s g.second)
      (house_counts h (s g.second) (zeros_long (length room - g.second)))
      ∙ ap₂ emptied c.0 c.1 in
      let w = emptied_is two_runs g.positions (s g.third)
      (house_positions h (s g.third) (zeros_long (length room - g.third))) in
      let l : 4 + length (version ∷ (first ++ (second ++ third))) ≡ g.size =
      omega (
        arith,
        heads,
        length-append first (second ++ third),
        length-append second third,
        empty_long form g.pages heads.0,
        empty_long two_runs g.counts heads.1,
        empty_long two_runs g.positions heads.2,
      ) in
      rw (← p, ← q, ← w, l) (simp append_assoc)

  pub frames_are : (r : List ℕ)
      → r ≡ (((front_of g ++ first) ++ second) ++ third)
      ++ (zeros 0 ++ drop g.size room)
      → r ≡ laid (announced v g.pages.u g.pages.n g.positions.n g.positions.u) room
  unfolding laid
  frames_are r e =
      let b : List ℕ = ((front_of g ++ first) ++ second) ++ third in
      e ∙ ap (λ n. b ++ drop n room) (sym before_end) ∙ ap (λ (y : List ℕ). y ++ drop (length y) room) block_is

-- that of the announcement which the layout is made of
pub announced_told : (v N P Q U : ℕ) → Announced N P Q U → (g : Layout) → g ≡ layout_of v N P Q U
    → announced v g.pages.u g.pages.n g.positions.n g.positions.u ≡ announced v N P Q U
announced_told v N P Q U a g e =
    let (n, p, q, u) = layout_tells v N P Q U a g e in
    rw (n, p, q, u)
