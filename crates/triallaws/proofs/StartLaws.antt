-- Laws of starts on a page, word by word and one after the other.
use mathlib.Core.Bool.{Bool, true, false, cond, and-false}
use mathlib.Core.Path.{◌≡◌, refl, sym, ap, ◌∙◌}
use mathlib.Core.List.{List, [], ◌∷◌}
use Prim.Native.Nat.{ℕ, zero, suc, ◌+◌, ◌-◌, ◌≤◌, ◌<◌}
use native.Mathlib.Nat.{add-zero, zero-add}
use native.Mathlib.Numerals.{add-one}
use native.Mathlib.Omega.{arith}
use borrow.Author.Tests.{ne_eqb}
use lib.ListN.{length, get_or}
use Rattle.rules.specs.ReadTerm.{read_word}
use Rattle.rules.specs.Index.{term_part, word_of}
use Rattle.rules.specs.Plain.{member, positions_on, InPhrase, phrase_of, stands, starts_among, starts}
use Rattle.rules.specs.Questions.{words_in}
use Rattle.commonlaws.proofs.SharedLaws.{member_at, member_none}
use Rattle.triallaws.specs.Starts.{starts_below}
use Rattle.triallaws.specs.Asked.{phrase_at, positions_here}

-- ---- word by word

module _ (s : List ℕ) (p : ℕ) where
  -- one word that does not stand is enough
  pub stands_fails : (ts ds : List ℕ) → length ts ≤ length ds → (x j : ℕ) → j < length ts
      → member (x + get_or ds j 0) (positions_here s ts p j) ≡ false → stands (phrase_at s ts ds) p x ≡ false
  unfolding stands phrase_of words_in word_of
  stands_fails [] ds l x j h e = absurd (omega arith)
  stands_fails (t ∷ ts) [] l x j h e = absurd (omega arith)
  stands_fails (t ∷ ts) (d ∷ ds) l x zero h e = rw e
  stands_fails (t ∷ ts) (d ∷ ds) l x (suc j) h e =
      rw (stands_fails ts ds (omega arith) x j (omega arith) e)
      (and-false (member (x + d) (positions_on p (read_word (term_part t s)))))

  pub stands_all : (ts ds : List ℕ) → length ts ≤ length ds → (x : ℕ)
      → ((j : ℕ) → j < length ts → member (x + get_or ds j 0) (positions_here s ts p j) ≡ true)
      → stands (phrase_at s ts ds) p x ≡ true
  unfolding stands phrase_of words_in word_of
  stands_all [] ds l x h = refl
  stands_all (t ∷ ts) [] l x h = absurd (omega arith)
  stands_all (t ∷ ts) (d ∷ ds) l x h =
      rw (h 0 (omega arith), stands_all ts ds (omega arith) x (λ j m. h (suc j) (omega arith)))

-- ---- one after the other

module _ (ts : List InPhrase) (p : ℕ) where
  among_all : (qs : List ℕ) → ((j : ℕ) → j < length qs → stands ts p (get_or qs j 0) ≡ true) → starts_among ts p qs
      ≡ length qs
  unfolding starts_among
  among_all [] h = refl
  among_all (q ∷ qs) h = rw (h 0 (omega arith)) (omega (arith, among_all qs (λ j l. h (suc j) (omega arith))))

-- a word alone starts wherever it stands
pub starts_alone : (t : InPhrase) → t.offset ≡ 0 → (p : ℕ) → starts (t ∷ []) p ≡ length (positions_on p t.word)
unfolding starts stands
starts_alone t e p =
    among_all (t ∷ []) p (positions_on p t.word)
    (λ j l. rw (e, add-zero (get_or (positions_on p t.word) j 0), member_at (positions_on p t.word) j l))

-- ---- the numbers below a bound that are starts

-- numbers from lo on and below n, each larger than those before it
pub record Rises (lo n : ℕ) (ps : List ℕ) : Type 0 where
  pub below : (j : ℕ) → j < length ps → (lo ≤ get_or ps j 0) × (get_or ps j 0 < n)
  pub up : (i j : ℕ) → i < j → j < length ps → get_or ps i 0 < get_or ps j 0

rises_tail : (lo n x : ℕ) (ps : List ℕ) → Rises lo n (x ∷ ps) → Rises (x + 1) n ps
rises_tail lo n x ps r = record {
  below = λ j h. (omega (arith, r.up 0 (suc j) (omega arith) (omega arith)), (r.below (suc j) (omega arith)).1);
  up = λ i j l h. r.up (suc i) (suc j) (omega arith) (omega arith);
}

rises_lacks : (lo n x : ℕ) (ps : List ℕ) → Rises lo n (x ∷ ps) → (a : ℕ) → a < x → member a (x ∷ ps) ≡ false
rises_lacks lo n x ps r a h = member_none a (x ∷ ps) (λ j l e. go j l e)
  where
    go : (j : ℕ) → j < length (x ∷ ps) → get_or (x ∷ ps) j 0 ≡ a → ⊥
    go zero l e = omega arith
    go (suc j) l e = omega (arith, r.up 0 (suc j) (omega arith) l)

module _ (ts : List InPhrase) (p : ℕ) where
  below_next : (n : ℕ) → starts_below ts p (n + 1) ≡ starts_below ts p n + cond (stands ts p n) 1 0
  unfolding starts_below
  below_next n = rw (add-one n)

  pub below_found : (n : ℕ) → stands ts p n ≡ true → starts_below ts p (n + 1) ≡ starts_below ts p n + 1
  below_found n e = rw e at (below_next n)

  below_more : (n d : ℕ) → ((a : ℕ) → n ≤ a → a < n + d → stands ts p a ≡ false)
      → starts_below ts p (n + d) ≡ starts_below ts p n
  unfolding starts_below
  below_more n zero h = ap (starts_below ts p) (add-zero n)
  below_more n (suc d) h =
      let e : n + suc d ≡ suc (n + d) = omega arith in
      rw (e, h (n + d) (omega arith) (omega arith))
      (omega (arith, below_more n d (λ a l m. h a l (omega arith))))

  pub below_skip : (n m : ℕ) → n ≤ m → ((a : ℕ) → n ≤ a → a < m → stands ts p a ≡ false)
      → starts_below ts p m ≡ starts_below ts p n
  below_skip n m l h =
      let e : n + (m - n) ≡ m = omega arith in
      rw e at (below_more n (m - n) (λ a g i. h a g (omega arith)))

  pub below_le : (n : ℕ) → starts_below ts p n ≤ n
  unfolding starts_below
  below_le zero = omega arith
  below_le (suc n) = go (stands ts p n) (below_le n)
    where
      go : (b : Bool) → starts_below ts p n ≤ n → starts_below ts p n + cond b 1 0 ≤ suc n
      go true l = omega arith
      go false l = omega arith

  among_below : (ps : List ℕ) (lo n : ℕ) → lo ≤ n → Rises lo n ps
      → ((a : ℕ) → lo ≤ a → member a ps ≡ false → stands ts p a ≡ false)
      → starts_below ts p lo + starts_among ts p ps ≡ starts_below ts p n
  unfolding starts_among member
  among_below [] lo n l r h = omega (arith, below_skip lo n l (λ a g m. h a g refl))
  among_below (x ∷ ps) lo n l r h =
      let b = r.below 0 (omega arith) in
      let skip = below_skip lo x b.0 (λ a g m. h a g (rises_lacks lo n x ps r a m)) in
      let rest =
      among_below ps (x + 1) n (omega (arith, b.1)) (rises_tail lo n x ps r)
      (λ a g e. h a (omega (arith, b.0)) (rw (ne_eqb a x (λ z. omega arith), e))) in
      omega (arith, skip, rest, below_next x)

pub rises_more : (lo n m : ℕ) (ps : List ℕ) → n ≤ m → Rises lo n ps → Rises lo m ps
rises_more lo n m ps l r = record {
  below = λ j h. ((r.below j h).0, omega (arith, (r.below j h).1));
  up = r.up;
}

-- the starts are those below a bound of the first word's positions
pub starts_below_lem : (s ts ds : List ℕ) → 0 < length ts → length ts ≤ length ds → get_or ds 0 0 ≡ 0 → (p n : ℕ)
    → Rises 0 n (positions_here s ts p 0) → starts (phrase_at s ts ds) p ≡ starts_below (phrase_at s ts ds) p n
unfolding starts stands starts_below phrase_of words_in word_of
starts_below_lem s [] ds h l z p n r = absurd (omega arith)
starts_below_lem s (t ∷ ts) [] h l z p n r = absurd (omega arith)
starts_below_lem s (t ∷ ts) (d ∷ ds) h l z p n r =
    let phrase : List InPhrase = phrase_at s (t ∷ ts) (d ∷ ds) in
    let ps : List ℕ = positions_here s (t ∷ ts) p 0 in
    sym (zero-add (starts_among phrase p ps))
    ∙ among_below phrase p ps 0 n (omega arith) r (λ a m e. rw (z, add-zero a, e))
