-- Laws of pairs: how many there are, the one at a place, and what makes them a good phrase.
use mathlib.Core.Bool.{Bool, true, false, ◌&&◌, and-false}
use mathlib.Core.Logic.{◌⊎◌, inl, inr}
use mathlib.Core.Path.{◌≡◌, refl, sym, ap, ◌∙◌}
use mathlib.Core.List.{List, [], ◌∷◌, ◌++◌}
use Prim.Native.Nat.{ℕ, zero, suc, ◌+◌, ◌*◌, ◌/◌, ◌≤◌, ◌<◌}
use native.Mathlib.Decide.{ℕ_discrete}
use native.Mathlib.Omega.{arith}
use borrow.Author.Tests.{eq-eqb, ne_eqb, eqb-true, lt-leb, le-leb}
use lib.Dec.{ltb, leb, eqb}
use lib.ListN.{length, get_or, take, drop, set, length-set, length-drop, length-append, get_or-append}
use lib.Seq.{get_or-drop, drop-drop, drop-append_seam, ext_get_or, get_or-take, length-take-le, get_or-set_same, get_or-set_other}
use Rattle.std.proofs.Common.{add-zero}
use Rattle.rules.specs.Limits.{phrase_limit, offset_limit}
use Rattle.rules.specs.List.{rising}
use Rattle.rules.specs.Questions.{terms_of, offsets_of, all_below, words_good, offsets_good, phrase_good}
use Rattle.listlaws.proofs.RisingLaws.{and_parts}
use Rattle.offsets.specs.Pairs.{pairs_good, Even, Split}

-- ---- how many there are

pub pairs_few : (args : List ℕ) → (2 * length (terms_of args) ≤ length args)
    × (length args ≤ 2 * length (terms_of args) + 1)
unfolding terms_of
pairs_few [] = (omega arith, omega arith)
pairs_few (t ∷ []) = (omega arith, omega arith)
pairs_few (t ∷ (d ∷ args)) = let p = pairs_few args in (omega (arith, p.0), omega (arith, p.1))

pub same_many : (args : List ℕ) → length (offsets_of args) ≡ length (terms_of args)
unfolding terms_of offsets_of
same_many [] = refl
same_many (t ∷ []) = refl
same_many (t ∷ (d ∷ args)) = ap suc (same_many args)

-- ---- the one at a place

pub term_at : (args : List ℕ) (i : ℕ) → i < length (terms_of args) → get_or (terms_of args) i 0 ≡ get_or args (2 * i) 0
unfolding terms_of
term_at [] i h = absurd (omega arith)
term_at (t ∷ []) i h = absurd (omega arith)
term_at (t ∷ (d ∷ args)) zero h = refl
term_at (t ∷ (d ∷ args)) (suc i) h =
    let e : 2 * suc i ≡ suc (suc (2 * i)) = omega arith in
    rw e (term_at args i (omega arith))

pub offset_at : (args : List ℕ) (i : ℕ) → i < length (terms_of args) → get_or (offsets_of args) i 0
    ≡ get_or args (2 * i + 1) 0
unfolding terms_of offsets_of
offset_at [] i h = absurd (omega arith)
offset_at (t ∷ []) i h = absurd (omega arith)
offset_at (t ∷ (d ∷ args)) zero h = refl
offset_at (t ∷ (d ∷ args)) (suc i) h =
    let e : 2 * suc i + 1 ≡ suc (suc (2 * i + 1)) = omega arith in
    rw e (offset_at args i (omega arith))

-- what pairs say is what the first of them says and what those behind it say
module _ (T b : ℕ) (args pair left : List ℕ) (e : args ≡ pair ++ left) (h : length pair ≡ 2) where
  abbrev t : ℕ
  t = get_or pair 0 0

  abbrev d : ℕ
  d = get_or pair 1 0

  pub pairs_front : pairs_good T b args
      ≡ ltb t T && (leb b d && (ltb d (offset_limit + 1) && pairs_good T (d + 1) left))
  unfolding pairs_good
  pairs_front = rw e (go pair h)
    where
      go : (pair : List ℕ) → length pair ≡ 2 → pairs_good T b (pair ++ left)
          ≡ ltb (get_or pair 0 0) T
          && (leb b (get_or pair 1 0)
          && (ltb (get_or pair 1 0) (offset_limit + 1) && pairs_good T (get_or pair 1 0 + 1) left))
      go [] h = absurd (omega arith)
      go (t ∷ []) h = absurd (omega arith)
      go (t ∷ (d ∷ [])) h = refl
      go (t ∷ (d ∷ (x ∷ xs))) h = absurd (omega arith)

pub even_front : (args pair left : List ℕ) → args ≡ pair ++ left → length pair ≡ 2 → Even args → Even left
unfolding terms_of
even_front args pair left e h even = go pair h (rw e at even)
  where
    go : (pair : List ℕ) → length pair ≡ 2 → Even (pair ++ left) → Even left
    go [] h e = absurd (omega arith)
    go (t ∷ []) h e = absurd (omega arith)
    go (t ∷ (d ∷ [])) h e = omega arith
    go (t ∷ (d ∷ (x ∷ xs))) h e = absurd (omega arith)

-- less than a pair is no pair, where none is half
pub pairs_end : (T b : ℕ) (args : List ℕ) → Even args → length args < 2 → pairs_good T b args ≡ true
unfolding pairs_good terms_of
pairs_end T b [] e h = refl
pairs_end T b (t ∷ []) e h = absurd (omega arith)
pairs_end T b (t ∷ (d ∷ args)) e h = absurd (omega arith)

-- ---- a good phrase

shuffle : (a b c d e : Bool) → a && (b && (c && (d && e))) ≡ (a && d) && (b && (c && e))
shuffle true b c true e = refl
shuffle true b c false e = ap (λ (x : Bool). b && x) (and-false c) ∙ and-false b
shuffle false b c d e = refl

pairs_split : (T b : ℕ) (args : List ℕ) → Even args → pairs_good T b args
    ≡ all_below T (terms_of args) && rising b (offset_limit + 1) (offsets_of args)
unfolding pairs_good terms_of offsets_of all_below rising
pairs_split T b [] e = refl
pairs_split T b (t ∷ []) e = absurd (omega arith)
pairs_split T b (t ∷ (d ∷ args)) e =
    rw (pairs_split T (d + 1) args (omega arith))
    (shuffle (ltb t T) (leb b d) (ltb d (offset_limit + 1)) (all_below T (terms_of args))
    (rising (d + 1) (offset_limit + 1) (offsets_of args)))

module _ (T : ℕ) (args : List ℕ) where
  -- half a pair is left over
  pub phrase_odd : (Even args → ⊥) → phrase_good T args ≡ false
  unfolding phrase_good
  phrase_odd h = rw (ne_eqb (length args) (2 * length (terms_of args)) h)

  words_out : (length (terms_of args) < 1) ⊎ (phrase_limit < length (terms_of args)) → words_good T (terms_of args) ≡ false
  unfolding words_good
  words_out (inl h) = rw (lt-leb 1 (length (terms_of args)) h)
  words_out (inr h) = rw (lt-leb (length (terms_of args)) phrase_limit h) (and-false (leb 1 (length (terms_of args))))

  -- no pair, or too many
  pub phrase_out : (length args < 2) ⊎ (2 * phrase_limit < length args) → phrase_good T args ≡ false
  unfolding phrase_good
  phrase_out h = go (eqb (length args) (2 * length (terms_of args))) refl
    where
      out : Even args → (length args < 2) ⊎ (2 * phrase_limit < length args)
          → (length (terms_of args) < 1) ⊎ (phrase_limit < length (terms_of args))
      out e (inl l) = inl (omega arith)
      out e (inr l) = inr (omega arith)

      go : (b : Bool) → eqb (length args) (2 * length (terms_of args)) ≡ b
          → b && (words_good T (terms_of args) && offsets_good (offsets_of args)) ≡ false
      go true e = rw (words_out (out (eqb-true (length args) (2 * length (terms_of args)) e) h))
      go false e = refl

  module _ (even : Even args) (some : 2 ≤ length args) where
    first_offset : get_or (offsets_of args) 0 0 ≡ get_or args 1 0
    first_offset = offset_at args 0 (omega arith)

    -- the first word does not stand at the start
    pub phrase_late : (get_or args 1 0 ≡ 0 → ⊥) → phrase_good T args ≡ false
    unfolding phrase_good offsets_good
    phrase_late h =
        rw (eq-eqb (length args) (2 * length (terms_of args)) even, first_offset, ne_eqb (get_or args 1 0) 0 h)
        (and-false (words_good T (terms_of args)))

    pub phrase_pairs : length args ≤ 2 * phrase_limit → get_or args 1 0 ≡ 0 → phrase_good T args ≡ pairs_good T 0 args
    unfolding phrase_good words_good offsets_good
    phrase_pairs h z =
        rw (
          eq-eqb (length args) (2 * length (terms_of args)) even,
          le-leb 1 (length (terms_of args)) (omega arith),
          le-leb (length (terms_of args)) phrase_limit (omega arith),
          first_offset,
          z,
        ) (sym (pairs_split T 0 args even))

-- pairs of one to eight terms and offsets that rise from 0 on
pub phrase_parts : (T : ℕ) (args : List ℕ) → phrase_good T args ≡ true → Even args
    × (words_good T (terms_of args) ≡ true) × (get_or (offsets_of args) 0 0 ≡ 0)
    × (rising 0 (offset_limit + 1) (offsets_of args) ≡ true)
unfolding phrase_good offsets_good
phrase_parts T args e =
    let k : ℕ = length (terms_of args) in
    let p = and_parts (eqb (length args) (2 * k)) (words_good T (terms_of args) && offsets_good (offsets_of args)) e in
    let q = and_parts (words_good T (terms_of args)) (offsets_good (offsets_of args)) p.1 in
    let r = and_parts (eqb (get_or (offsets_of args) 0 0) 0) (rising 0 (offset_limit + 1) (offsets_of args)) q.1 in
    (eqb-true (length args) (2 * k) p.0, q.0, eqb-true (get_or (offsets_of args) 0 0) 0 r.0, r.1)

-- ---- terms and offsets put apart

module _ (args : List ℕ) where
  -- the first i pairs are apart
  pub record Apart (i : ℕ) (ts ds : List ℕ) : Type 0 where
    pub terms_room : length ts ≡ 8
    pub offsets_room : length ds ≡ 8
    pub within : 2 * i ≤ length args
    pub terms : (j : ℕ) → j < i → get_or ts j 0 ≡ get_or args (2 * j) 0
    pub offsets : (j : ℕ) → j < i → get_or ds j 0 ≡ get_or args (2 * j + 1) 0

  pub apart_more : (i : ℕ) (ts ds pair left : List ℕ) → Apart i ts ds → length args ≤ 16 → drop (2 * i) args ≡ pair ++ left
      → length pair ≡ 2 → Apart (i + 1) (set ts i (get_or pair 0 0)) (set ds i (get_or pair 1 0))
  apart_more i ts ds pair left a few e l =
      let two : 2 * i + 2 ≤ length args = omega (arith, simp (length-drop, length-append) at (ap length e)) in
      rw (first, pair_at 1 (omega arith)) record {
        terms_room = length-set ts i (get_or args (2 * i) 0) ∙ a.terms_room;
        offsets_room = length-set ds i (get_or args (2 * i + 1) 0) ∙ a.offsets_room;
        within = omega arith;
        terms = put (λ j. 2 * j) ts (omega (arith, a.terms_room)) a.terms;
        offsets = put (λ j. 2 * j + 1) ds (omega (arith, a.offsets_room)) a.offsets;
      }
    where
      pair_at : (j : ℕ) → j < 2 → get_or pair j 0 ≡ get_or args (2 * i + j) 0
      pair_at j h =
          sym (get_or-append pair left 0 j (omega arith)) ∙ sym (ap (λ (xs : List ℕ). get_or xs j 0) e)
          ∙ get_or-drop (2 * i) args j 0

      first : get_or pair 0 0 ≡ get_or args (2 * i) 0
      first = rw (add-zero) at (pair_at 0 (omega arith))

      put : (f : ℕ → ℕ) (xs : List ℕ) → i < length xs → ((j : ℕ) → j < i → get_or xs j 0 ≡ get_or args (f j) 0)
          → (j : ℕ) → j < i + 1 → get_or (set xs i (get_or args (f i) 0)) j 0 ≡ get_or args (f j) 0
      put f xs l h j m = elim (ℕ_discrete j i) [
        | yes e ↦ rw e (get_or-set_same xs i (get_or args (f i) 0) 0 l)
        | no e ↦ get_or-set_other xs i j (get_or args (f i) 0) 0 e ∙ h j (omega (arith, e))
      ]

  -- the pairs behind
  pub left_more : (i : ℕ) (pair left : List ℕ) → drop (2 * i) args ≡ pair ++ left → length pair ≡ 2
      → left ≡ drop (2 * (i + 1)) args
  left_more i pair left e l =
      let n : 2 * (i + 1) ≡ 2 * i + 2 = omega arith in
      rw (n, ← drop-drop 2 (2 * i) args, e, ← l) (sym (drop-append_seam pair left))

  pub apart_all : (i : ℕ) (ts ds : List ℕ) → Apart i ts ds → Even args → length args ≤ 16 → length (drop (2 * i) args) < 2
      → (length args / 2 ≡ length (terms_of args)) × Split args ts ds
  apart_all i ts ds a even few l =
      let k : ℕ = length (terms_of args) in
      let e : i ≡ k = omega (arith, a.within, length-drop (2 * i) args) in
      let n : length (take k ts) ≡ k = length-take-le k ts (omega (arith, a.terms_room)) in
      let m : length (take k ds) ≡ k = length-take-le k ds (omega (arith, a.offsets_room)) in (
        omega arith,
        record {
          terms_room = a.terms_room;
          offsets_room = a.offsets_room;
          terms = ext_get_or 0 (take k ts) (terms_of args) n (λ j h.
              get_or-take k ts j 0 (omega arith) ∙ a.terms j (omega arith) ∙ sym (term_at args j (omega arith)));
          offsets = ext_get_or 0 (take k ds) (offsets_of args) (m ∙ sym (same_many args)) (λ j h.
              get_or-take k ds j 0 (omega arith) ∙ a.offsets j (omega arith) ∙ sym (offset_at args j (omega arith)));
        },
      )
