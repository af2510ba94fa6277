-- What a seek answers, by plain reading, for every cursor and bound, in either form; what the next cursor has passed;
-- that neither jumps nor the form change that [02 f]; and how many elements are below the bound. The looks are in
-- LookLaws.
use mathlib.Core.Bool.{true}
use mathlib.Core.Path.{◌≡◌, refl, sym, ap, ap₂, ◌∙◌}
use mathlib.Core.List.{List, [], ◌∷◌}
use Prim.Native.Nat.{ℕ, ◌≤◌, ◌<◌, max}
use native.Mathlib.Decide.{dec_le, dec_lt, ℕ_discrete}
use native.Mathlib.Omega.{arith}
use borrow.Author.Tests.{le-leb, lt-leb, leb-true, eq-eqb, ne_eqb}
use lib.Dec.{leb}
use lib.ListN.{length, get_or}
use Rattle.rules.specs.List.{rising, Form}
use Rattle.rules.specs.Seek.{Cursor, fresh, on, spent, rank_of, width_of, bits_of, cursor_bit, jump_to}
use Rattle.rules.specs.Seek.{start_of, walk, gone, arrived, walked, walk_from, move, seek}
use Rattle.rules.specs.Plain.{below}
use Rattle.listlaws.proofs.RisingLaws.{and_parts}
use Rattle.seeklaws.specs.Cursors.{first_at, cursor_at, floor, Placed, Behind, Ahead}
use Rattle.seeklaws.specs.Cursors.{Answered, move_with, seek_with, answers, firsts, never_down}
use Rattle.seeklaws.specs.Cursors.{ranks, belows}
use Rattle.seeklaws.proofs.FirstLaws.{rising_lt, rising_below, first_at_unique, first_at_self, first_at_le}
use Rattle.seeklaws.proofs.FirstLaws.{first_at_before, first_at_at, first_at_none, first_found, found_at_none}
use Rattle.seeklaws.proofs.FirstLaws.{found_at_page, first_rank}
use Rattle.seeklaws.proofs.JumpLaws.{walk_ahead, place_lt, jump_ahead, cursor_ahead}

pub cursor_at_spent : (xs : List ℕ) (i : ℕ) → i ≡ length xs → cursor_at xs i ≡ spent
unfolding cursor_at
cursor_at_spent xs i e = rw (eq-eqb i (length xs) e)

pub cursor_at_on : (xs : List ℕ) (i : ℕ) → i < length xs → cursor_at xs i ≡ on i
unfolding cursor_at
cursor_at_on xs i h = rw (ne_eqb i (length xs) (λ e. omega arith))

gone_answered : (xs : List ℕ) (b k : ℕ) → first_at b xs ≡ length xs → Answered xs b (gone xs k)
unfolding gone
gone_answered xs b k e = record {
  found = sym (first_found b xs ∙ found_at_none xs (first_at b xs) e);
  cursor = sym (cursor_at_spent xs (first_at b xs) e);
}

arrived_answered : (xs : List ℕ) (b i k : ℕ) → first_at b xs ≡ i → i < length xs → Answered xs b (arrived xs i k)
unfolding arrived
arrived_answered xs b i k e h = record {
  found = sym (first_found b xs ∙ rw e (found_at_page xs i h));
  cursor = sym (rw e (cursor_at_on xs i h));
}

walked_answered : (f : Form) (U : ℕ) (xs : List ℕ) (b start i : ℕ) → first_at b xs ≡ i
    → Answered xs b (walked f U xs start i)
unfolding walked
walked_answered f U xs b start i e =
    elim (ℕ_discrete i (length xs)) [
      | yes q ↦ rw (eq-eqb i (length xs) q) (gone_answered xs b _ (e ∙ q))
      | no q ↦ rw (ne_eqb i (length xs) q) (arrived_answered xs b i _ e (omega (arith, first_at_le b xs, e, q)))
    ]

module _ (U : ℕ) (xs : List ℕ) (r : rising 0 U xs ≡ true) where
  none_from : (b : ℕ) → U ≤ b → first_at b xs ≡ length xs
  none_from b h = first_at_none b xs (λ j l. omega (arith, rising_below 0 U xs r j l))

  -- ---- the cursor at the first element at least b

  cursor_at_placed : (b : ℕ) → Placed xs (cursor_at xs (first_at b xs))
  cursor_at_placed b =
      elim (ℕ_discrete (first_at b xs) (length xs)) [
        | yes e ↦ rw (cursor_at_spent xs (first_at b xs) e) tt
        | no e ↦
            let h : first_at b xs < length xs = omega (arith, first_at_le b xs, e) in
            rw (cursor_at_on xs (first_at b xs) h) h
      ]

  cursor_at_behind : (b : ℕ) → Behind U xs (cursor_at xs (first_at b xs)) b
  unfolding floor
  cursor_at_behind b j h =
      elim (ℕ_discrete (first_at b xs) (length xs)) [
        | yes e ↦ rw (cursor_at_spent xs (first_at b xs) e) (λ l. first_at_before b xs j (omega arith))
        | no e ↦
            let f : first_at b xs < length xs = omega (arith, first_at_le b xs, e) in
            rw (cursor_at_on xs (first_at b xs) f) (λ l. first_at_before b xs j (first f l))
      ]
    where
      first : first_at b xs < length xs → get_or xs j 0 < get_or xs (first_at b xs) 0 → j < first_at b xs
      first f l =
          elim (dec_lt j (first_at b xs)) [
            | yes g ↦ g
            | no g ↦ elim (ℕ_discrete (first_at b xs) j) [
              | yes e ↦ absurd (omega (arith, ap (λ (i : ℕ). get_or xs i 0) e))
              | no e ↦ absurd (omega (arith, rising_lt 0 U xs r (first_at b xs) j (omega (arith, g, e)) h))
            ]
          ]

  -- ---- what a cursor has passed

  pub behind_fresh : (b : ℕ) → Behind U xs fresh b
  unfolding floor
  behind_fresh b j h l = omega arith

  pub behind_more : (c : Cursor) (b d : ℕ) → Behind U xs c b → b ≤ d → Behind U xs c d
  behind_more c b d h l j g f = omega (arith, h j g f)

  first_at_behind : (c : Cursor) (b : ℕ) → Behind U xs c b → first_at (max (floor U xs c) b) xs ≡ first_at b xs
  first_at_behind c b h =
      first_at_unique (max (floor U xs c) b) xs (first_at b xs) (first_at_le b xs)
      (λ j l. omega (arith, first_at_before b xs j l)) (λ l.
      elim (dec_lt (get_or xs (first_at b xs) 0) (floor U xs c)) [
        | yes g ↦ absurd (omega (arith, h (first_at b xs) l g, first_at_at b xs l))
        | no g ↦ omega (arith, first_at_at b xs l)
      ])

  ranks_firsts : (bs : List ℕ) → ranks (firsts xs bs) ≡ belows xs bs
  unfolding ranks firsts belows
  ranks_firsts [] = refl
  ranks_firsts (b ∷ bs) = ap₂ ◌∷◌ (first_rank b 0 U xs r) (ranks_firsts bs)

module _ (f : Form) (U : ℕ) (xs : List ℕ) (r : rising 0 U xs ≡ true) where
  -- ---- one seek

  -- a walk from a place that is behind no element at least b
  walk_from_answered : (start b : ℕ) → Ahead f U xs b start → Answered xs b (walk_from f U xs start b)
  unfolding walk_from
  walk_from_answered start b a =
      elim (ℕ_discrete start (bits_of f U xs)) [
        | yes e ↦
            rw (eq-eqb start (bits_of f U xs) e)
            (gone_answered xs b 0 (first_at_none b xs (λ j h.
            elim (dec_lt (get_or xs j 0) b) [
              | yes l ↦ l
              | no l ↦ absurd (omega (arith, a j h (omega arith), place_lt f U xs r j h))
            ])))
        | no e ↦
            rw (ne_eqb start (bits_of f U xs) e)
            (walked_answered f U xs b start (walk f (width_of U xs) start b 0 xs) (sym (walk_ahead f U xs start b a)))
      ]

  module _ (jump : ℕ → ℕ) (safe : (b : ℕ) → Ahead f U xs b (jump b)) where
    move_with_answered : (c : Cursor) (b : ℕ) → Ahead f U xs b (cursor_bit f U xs c)
        → Answered xs b (move_with jump f U xs c b)
    unfolding move_with
    move_with_answered c b a =
        elim (ℕ_discrete (length xs) 0) [
          | yes e ↦ rw (eq-eqb (length xs) 0 e) (gone_answered xs b 0 (omega (arith, first_at_le b xs)))
          | no e ↦
              elim (dec_le U b) [
                | yes l ↦ rw (ne_eqb (length xs) 0 e, le-leb U b l) (gone_answered xs b 0 (none_from U xs r b l))
                | no l ↦
                    rw (ne_eqb (length xs) 0 e, lt-leb U b (omega arith))
                    (walk_from_answered (max (cursor_bit f U xs c) (jump b)) b
                    (λ j h g. omega (arith, a j h g, safe b j h g)))
              ]
        ]

    seek_with_answered : (c : Cursor) (b : ℕ) → Placed xs c
        → Answered xs (max (floor U xs c) b) (seek_with jump f U xs c b)
    unfolding seek_with floor
    seek_with_answered fresh b p =
        let m : max 0 b ≡ b = omega arith in
        rw m (move_with_answered fresh b (cursor_ahead f U xs r fresh b p (unfold floor in omega arith)))
    seek_with_answered spent b p = gone_answered xs (max U b) 0 (none_from U xs r (max U b) (omega arith))
    seek_with_answered (on i) b p =
        elim (dec_le b (get_or xs i 0)) [
          | yes l ↦
              let m : max (get_or xs i 0) b ≡ get_or xs i 0 = omega arith in
              rw (m, le-leb b (get_or xs i 0) l)
              (arrived_answered xs (get_or xs i 0) i 0 (first_at_self 0 U xs r i p) p)
          | no l ↦
              let m : max (get_or xs i 0) b ≡ b = omega arith in
              rw (m, lt-leb b (get_or xs i 0) (omega arith))
              (move_with_answered (on i) b (cursor_ahead f U xs r (on i) b p (unfold floor in omega arith)))
        ]

  seek_with_lem : (c : Cursor) (b : ℕ) → seek f U xs c b ≡ seek_with (jump_to f U xs) f U xs c b
  unfolding seek seek_with move move_with start_of
  seek_with_lem fresh b = refl
  seek_with_lem (on i) b = refl
  seek_with_lem spent b = refl

  -- the answer for every cursor and bound: the first element at least the bound and the cursor's own
  pub seek_answered : (c : Cursor) (b : ℕ) → Placed xs c → Answered xs (max (floor U xs c) b) (seek f U xs c b)
  seek_answered c b p = rw (seek_with_lem c b) (seek_with_answered (jump_to f U xs) (jump_ahead f U xs r) c b p)

  -- jumps cannot change an answer: every one may be read as 0
  pub jumps_answer : (c : Cursor) (b : ℕ) → Placed xs c
      → ((seek f U xs c b).found ≡ (seek_with (λ b. 0) f U xs c b).found)
      × ((seek f U xs c b).cursor ≡ (seek_with (λ b. 0) f U xs c b).cursor)
  jumps_answer c b p =
      let s = seek_answered c b p in
      let t = seek_with_answered (λ b. 0) (λ d j h l. omega arith) c b p in
      (s.found ∙ sym t.found, s.cursor ∙ sym t.cursor)

  -- ---- the next cursor

  pub seek_placed : (c : Cursor) (b : ℕ) → Placed xs c → Placed xs (seek f U xs c b).cursor
  seek_placed c b p = rw (seek_answered c b p).cursor (cursor_at_placed U xs r (max (floor U xs c) b))

  -- ---- bounds that never go down

  -- the seek finds the first element at least b
  pub seek_first : (c : Cursor) (b : ℕ) → Placed xs c → Behind U xs c b → Answered xs b (seek f U xs c b)
  seek_first c b p h =
      let s = seek_answered c b p in
      let e = first_at_behind U xs r c b h in
      record {
        found = s.found ∙ first_found (max (floor U xs c) b) xs ∙ rw e (sym (first_found b xs));
        cursor = s.cursor ∙ ap (cursor_at xs) e;
      }

  pub seek_behind : (c : Cursor) (b d : ℕ) → Placed xs c → Behind U xs c b → b ≤ d
      → Behind U xs (seek f U xs c b).cursor d
  seek_behind c b d p h l =
      rw (seek_first c b p h).cursor
      (behind_more U xs r (cursor_at xs (first_at b xs)) b d (cursor_at_behind U xs r b) l)

  answers_from : (c : Cursor) (b : ℕ) (bs : List ℕ) → Placed xs c → Behind U xs c b → never_down b bs ≡ true
      → answers f U xs c bs ≡ firsts xs bs
  unfolding answers firsts never_down
  answers_from c b [] p h n = refl
  answers_from c b (d ∷ bs) p h n =
      let t = and_parts (leb b d) (never_down d bs) n in
      let g = behind_more U xs r c b d h (leb-true b d t.0) in
      ap₂ ◌∷◌ (seek_first c d p g).found
      (answers_from (seek f U xs c d).cursor d bs (seek_placed c d p) (seek_behind c d d p g (omega arith)) t.1)

  pub answers_first : (bs : List ℕ) → never_down 0 bs ≡ true → answers f U xs fresh bs ≡ firsts xs bs
  answers_first bs n = answers_from fresh 0 bs tt (behind_fresh U xs r 0) n

  -- ---- how many elements are below the bound

  -- found or none, the stay rule included: the answer carries the number of elements below b
  pub seek_rank : (c : Cursor) (b : ℕ) → Placed xs c → Behind U xs c b → rank_of (seek f U xs c b).found ≡ below b xs
  seek_rank c b p h = ap rank_of (seek_first c b p h).found ∙ first_rank b 0 U xs r

  -- a spent cursor carries the number of all, for any bound
  pub spent_rank : (b : ℕ) → rank_of (seek f U xs spent b).found ≡ length xs
  unfolding seek gone rank_of
  spent_rank b = refl

  pub ranks_below : (bs : List ℕ) → never_down 0 bs ≡ true → ranks (answers f U xs fresh bs) ≡ belows xs bs
  ranks_below bs n = ap ranks (answers_first bs n) ∙ ranks_firsts U xs r bs

-- ---- one statement covers both forms

-- the same list in any two forms: the same answer and the same next cursor; the looks alone may differ
pub forms_seek : (f g : Form) (U : ℕ) (xs : List ℕ) → rising 0 U xs ≡ true → (c : Cursor) (b : ℕ) → Placed xs c
    → ((seek f U xs c b).found ≡ (seek g U xs c b).found) × ((seek f U xs c b).cursor ≡ (seek g U xs c b).cursor)
forms_seek f g U xs r c b p =
    let s = seek_answered f U xs r c b p in
    let t = seek_answered g U xs r c b p in
    (s.found ∙ sym t.found, s.cursor ∙ sym t.cursor)

-- and so for seeks in turn on one cursor, for bounds in any order
pub forms_answers : (f g : Form) (U : ℕ) (xs : List ℕ) → rising 0 U xs ≡ true → (c : Cursor) (bs : List ℕ) → Placed xs c
    → answers f U xs c bs ≡ answers g U xs c bs
unfolding answers
forms_answers f g U xs r c [] p = refl
forms_answers f g U xs r c (b ∷ bs) p =
    let e = forms_seek f g U xs r c b p in
    ap₂ ◌∷◌ e.0
    (forms_answers f g U xs r (seek f U xs c b).cursor bs (seek_placed f U xs r c b p)
    ∙ ap (λ (d : Cursor). answers g U xs d bs) e.1)
