-- Laws of a word's block that is written in place: announced, added to, and closed.
use mathlib.Core.Bool.{true}
use mathlib.Core.Path.{◌≡◌, refl, sym, ap, ◌∙◌}
use mathlib.Core.List.{List, [], ◌∷◌, ◌++◌, append_assoc}
use Prim.Native.Nat.{ℕ, ◌+◌}
use native.Mathlib.Omega.{arith}
use lib.ListN.{length, length-append}
use Rattle.rules.specs.Limits.{version}
use Rattle.rules.specs.Bytes.{be, sized}
use Rattle.rules.specs.List.{rising, size, block, Form, two_runs, form_of, form_size, form_block}
use Rattle.rules.specs.InPlace.{from, added, pointed, form_added, form_pointed}
use Rattle.rules.specs.Term.{Word, total, sums, next, placed, places, term_block}
use Rattle.rules.specs.Stream.{counts_at, positions_at, stream_size, announced, stream_form, second_at, third_at, added_word}
use Rattle.rules.specs.Stream.{pointed_word, together}
use Rattle.laws.proofs.ByteLaws.{length_be}
use Rattle.laws.proofs.PartLaws.{length_sized}
use Rattle.listlaws.proofs.BlockLaws.{block_size}
use Rattle.maplaws.proofs.FormLaws.{form_length}
use Rattle.termlaws.proofs.OrderLaws.{order_rising}
use Rattle.termlaws.proofs.SumLaws.{length_sums, sums_order, next_sums}
use Rattle.termlaws.proofs.PlaceLaws.{placed_order, length_placed}
use Rattle.addlaws.proofs.MoreLaws.{from_here, from_past}
use Rattle.streamlaws.specs.Partly.{partly, form_partly}
use Rattle.streamlaws.specs.Joined.{joined}
use Rattle.streamlaws.specs.Underway.{partly_word, reached, Within}
use Rattle.streamlaws.proofs.PartlyLaws.{partly_none, length_partly, added_partly, pointed_partly}
use Rattle.streamlaws.proofs.AppendLaws.{sums_append}
use Rattle.streamlaws.proofs.JoinedLaws.{places_joined}

-- ---- three lists behind a term's header

abbrev lists : List ℕ → List ℕ → List ℕ → List ℕ
lists a b c = sized (version ∷ (a ++ (b ++ c)))

length_lists : (a b c : List ℕ) → length (lists a b c) ≡ 5 + length a + length b + length c
length_lists a b c =
    length_sized (version ∷ (a ++ (b ++ c))) ∙ rw (length-append, length-append) (omega arith)

abbrev head : ℕ → List ℕ
head L = be 4 L ++ (version ∷ [])

length_head : (L : ℕ) → length (head L) ≡ 5
length_head L = rw (length-append, length_be 4 L)

lists_apart : (a b c rest : List ℕ)
    → lists a b c ++ rest ≡ head (5 + length a + length b + length c) ++ (a ++ (b ++ (c ++ rest)))
unfolding sized
lists_apart a b c rest =
    let e : 4 + length (version ∷ (a ++ (b ++ c))) ≡ 5 + length a + length b + length c =
    rw (length-append, length-append) (omega arith) in
    rw e (simp append_assoc)

-- each list changed where it stands
module _ (f g k : List ℕ → List ℕ) (a b c d e h : List ℕ) (p q : ℕ) (rest : List ℕ) where
  lists_from : length a ≡ length d → length b ≡ length e → length c ≡ length h → p ≡ 5 + length a
      → q ≡ p + length b → ((s : List ℕ) → f (a ++ s) ≡ d ++ s) → ((s : List ℕ) → g (b ++ s) ≡ e ++ s)
      → ((s : List ℕ) → k (c ++ s) ≡ h ++ s)
      → from q k (from p g (from 5 f (lists a b c ++ rest))) ≡ lists d e h ++ rest
  lists_from la lb lc lp lq ef eg ek =
      let L : ℕ = 5 + length a + length b + length c in
      let M : ℕ = 5 + length d + length e + length h in
      let one : from 5 f (lists a b c ++ rest) ≡ head L ++ (d ++ (b ++ (c ++ rest))) =
      ap (from 5 f) (lists_apart a b c rest) ∙ from_here f 5 (head L) (a ++ (b ++ (c ++ rest))) (length_head L)
      ∙ ap (λ (l : List ℕ). head L ++ l) (ef (b ++ (c ++ rest))) in
      let two : from p g (head L ++ (d ++ (b ++ (c ++ rest)))) ≡ head L ++ (d ++ (e ++ (c ++ rest))) =
      from_past g p (length a) (head L) (d ++ (b ++ (c ++ rest))) (omega (arith, length_head L))
      ∙ ap (λ (l : List ℕ). head L ++ l) (from_here g (length a) d (b ++ (c ++ rest)) (sym la)
      ∙ ap (λ (l : List ℕ). d ++ l) (eg (c ++ rest))) in
      let three : from q k (head L ++ (d ++ (e ++ (c ++ rest)))) ≡ head L ++ (d ++ (e ++ (h ++ rest))) =
      from_past k q (length a + length b) (head L) (d ++ (e ++ (c ++ rest))) (omega (arith, length_head L))
      ∙ ap (λ (l : List ℕ). head L ++ l) (from_past k (length a + length b) (length b) d (e ++ (c ++ rest))
      (omega arith) ∙ ap (λ (l : List ℕ). d ++ l) (from_here k (length b) e (c ++ rest) (sym lb)
      ∙ ap (λ (l : List ℕ). e ++ l) (ek rest))) in
      let same : L ≡ M = omega arith in
      ap (λ (l : List ℕ). from q k (from p g l)) one ∙ ap (from q k) two ∙ three
      ∙ ap (λ (n : ℕ). head n ++ (d ++ (e ++ (h ++ rest)))) same ∙ sym (lists_apart d e h rest)

-- ---- the three lists of a word that is within what is announced

module _ (N P Q U : ℕ) (t : Word) (i : Within N P Q U t) where
  pub counts_rise : rising 0 Q (sums 0 t.counts) ≡ true
  counts_rise =
      let a = i.agreeing in
      order_rising 0 Q (sums 0 t.counts) (sums_order 0 t.counts a.counted)
      (omega (arith, next_sums 0 t.counts a.counted, a.summed, i.positions))

  pub places_rise : rising 0 U (places t) ≡ true
  unfolding places
  places_rise = order_rising 0 U (places t)
      (placed_order 0 t.counts t.positions i.agreeing.ordered) i.below

  pub length_places : length (places t) ≡ length t.positions
  unfolding places
  length_places = length_placed 0 t.counts t.positions i.agreeing.summed

  pub length_counts : length (sums 0 t.counts) ≡ length t.pages
  length_counts = length_sums 0 t.counts ∙ sym i.agreeing.lengths

-- ---- the block

-- elements ys behind the i elements xs, zs together
added_as : (o : Form) (U n i : ℕ) (xs ys zs : List ℕ) → length xs ≡ i → xs ++ ys ≡ zs → rising 0 U zs ≡ true
    → (s : List ℕ) → form_added o U n i ys (form_partly o U n xs ++ s) ≡ form_partly o U n zs ++ s
added_as o U n i xs ys zs l e r s =
    rw (← l, ← e) (added_partly o U n xs ys s (rw e r))

same_length : (o : Form) (U n : ℕ) (xs ys : List ℕ) → length (form_partly o U n xs) ≡ length (form_partly o U n ys)
same_length o U n xs ys = length_partly o U n xs ∙ sym (length_partly o U n ys)

module _ (v N P Q U : ℕ) where
  -- the form of the pages
  abbrev form : Form
  form = form_of v N P

  pub length_word : (t : Word) → length (partly_word v N P Q U t) ≡ stream_size v N P Q U
  unfolding partly_word stream_size positions_at counts_at
  length_word t =
      length_lists (form_partly form N P t.pages) (partly Q P (sums 0 t.counts)) (partly U Q (places t))
      ∙ rw (
        length_partly form N P t.pages,
        length_partly two_runs Q P (sums 0 t.counts),
        length_partly two_runs U Q (places t),
      )

  -- nothing is laid
  pub word_none : partly_word v N P Q U (together []) ≡ announced v N P Q U
  unfolding partly_word announced together sums places placed
  word_none = rw (partly_none form N P, partly_none two_runs Q P, partly_none two_runs U Q)

  -- the word u is laid behind t
  pub added_word_lem : (t u : Word) (rest : List ℕ) → Within N P Q U t → Within N P Q U (joined t u)
      → added_word (reached v N P Q U t) u (partly_word v N P Q U t ++ rest) ≡ partly_word v N P Q U (joined t u) ++ rest
  unfolding added_word partly_word positions_at counts_at stream_form second_at third_at
  added_word_lem t u rest i j =
      let cs : List ℕ = sums 0 t.counts in
      let ds : List ℕ = sums (length t.positions) u.counts in
      let es : List ℕ = sums 0 (t.counts ++ u.counts) in
      let ps : List ℕ = placed (next 0 (places t)) u.counts u.positions in
      let qs : List ℕ = places (joined t u) in
      let summed : 0 + total t.counts ≡ length t.positions = omega (arith, i.agreeing.summed) in
      lists_from (form_added form N P (length t.pages) u.pages) (added Q P (length t.pages) ds)
      (added U Q (length t.positions) ps)
      (form_partly form N P t.pages) (partly Q P cs) (partly U Q (places t))
      (form_partly form N P (t.pages ++ u.pages)) (partly Q P es) (partly U Q qs)
      (5 + form_size form N P) (5 + form_size form N P + size Q P) rest
      (same_length form N P t.pages (t.pages ++ u.pages)) (same_length two_runs Q P cs es)
      (same_length two_runs U Q (places t) qs)
      (omega (arith, length_partly form N P t.pages)) (omega (arith, length_partly two_runs Q P cs))
      (added_as form N P (length t.pages) t.pages u.pages (t.pages ++ u.pages) refl refl
      j.agreeing.rises)
      (added_as two_runs Q P (length t.pages) cs ds es (length_counts N P Q U t i)
      (rw (← summed) (sym (sums_append 0 t.counts u.counts))) (counts_rise N P Q U (joined t u) j))
      (added_as two_runs U Q (length t.positions) (places t) ps qs (length_places N P Q U t i)
      (sym (places_joined t u i.agreeing.summed)) (places_rise N P Q U (joined t u) j))

  -- all of the word t is laid
  module _ (t : Word) (i : Within N P Q U t) (p : length t.pages ≡ P) (q : length t.positions ≡ Q)
      (u : next 0 (places t) ≡ U) where
    abbrev pages : List ℕ
    pages = form_block form N t.pages

    abbrev counts : List ℕ
    counts = block Q (sums 0 t.counts)

    abbrev positions : List ℕ
    positions = block U (places t)

    length_pages : length pages ≡ form_size form N P
    length_pages = form_length form N t.pages ∙ ap (form_size form N) p

    length_blocks : length counts ≡ size Q P
    length_blocks = block_size Q (sums 0 t.counts) ∙ ap (size Q) (length_counts N P Q U t i ∙ p)

    length_positions : length positions ≡ size U Q
    length_positions = block_size U (places t) ∙ ap (size U) (length_places N P Q U t i ∙ q)

    term_is : term_block v N t ≡ lists pages counts positions
    unfolding term_block
    term_is = rw (p, u, i.agreeing.summed, q)

    pub length_term : length (term_block v N t) ≡ stream_size v N P Q U
    unfolding stream_size positions_at counts_at
    length_term = ap length term_is ∙ length_lists pages counts positions
        ∙ rw (length_pages, length_blocks, length_positions)

    pub pointed_word_lem : (rest : List ℕ)
        → pointed_word (reached v N P Q U t) (partly_word v N P Q U t ++ rest) ≡ term_block v N t ++ rest
    unfolding pointed_word partly_word positions_at counts_at stream_form second_at third_at
    pointed_word_lem rest =
        let cs : List ℕ = sums 0 t.counts in
        lists_from (form_pointed form N P) (pointed Q P) (pointed U Q)
        (form_partly form N P t.pages) (partly Q P cs) (partly U Q (places t)) pages counts positions
        (5 + form_size form N P) (5 + form_size form N P + size Q P) rest
        (length_partly form N P t.pages ∙ sym length_pages) (length_partly two_runs Q P cs ∙ sym length_blocks)
        (length_partly two_runs U Q (places t) ∙ sym length_positions)
        (omega (arith, length_partly form N P t.pages)) (omega (arith, length_partly two_runs Q P cs))
        (λ s. pointed_partly form N P t.pages s i.agreeing.rises p)
        (λ s. pointed_partly two_runs Q P cs s (counts_rise N P Q U t i) (length_counts N P Q U t i ∙ p))
        (λ s. pointed_partly two_runs U Q (places t) s (places_rise N P Q U t i) (length_places N P Q U t i ∙ q))
        ∙ ap (λ (l : List ℕ). l ++ rest) (sym term_is)
