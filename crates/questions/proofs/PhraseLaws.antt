-- A page with a start is on every word's list, so phrases are found among the common pages.
use mathlib.Core.Bool.{Bool, true, false, ◌&&◌, true≢false}
use mathlib.Core.Path.{◌≡◌, refl, ap}
use mathlib.Core.List.{List, [], ◌∷◌}
use Prim.Native.Nat.{ℕ, ◌+◌, ◌≤◌, ◌<◌}
use native.Mathlib.Omega.{arith}
use lib.Dec.{eqb}
use lib.ListN.{length, drop}
use Rattle.rules.specs.Term.{Word}
use Rattle.rules.specs.Index.{word_of}
use Rattle.rules.specs.Plain.{member, in_all, shared_by, common_pages, positions_among, positions_on, InPhrase, phrase_of}
use Rattle.rules.specs.Plain.{stands, starts_among, starts, with_starts}
use Rattle.rules.specs.Questions.{numbered, pages_in, lists_in, words_in, by_phrase}
use Rattle.laws.proofs.RefusalLaws.{or_parts}

among_off : (p : ℕ) (qs cs ps : List ℕ) → member p qs ≡ false → positions_among p qs cs ps ≡ []
unfolding member positions_among
among_off p [] cs ps m = refl
among_off p (q ∷ qs) [] ps m = refl
among_off p (q ∷ qs) (c ∷ cs) ps m =
    let o = or_parts (eqb p q) (member p qs) m in
    rw (o.0, positions_among) (among_off p qs cs (drop c ps) o.1)

-- a word has no position on a page that is not among its pages
positions_off : (p : ℕ) (w : Word) → member p w.pages ≡ false → positions_on p w ≡ []
unfolding positions_on
positions_off p w m = among_off p w.pages w.counts w.positions m

and_false : (b : Bool) → b && false ≡ false
and_false true = refl
and_false false = refl

-- one word less of a phrase
stands_here : (p a : ℕ) (w : Word) (ls : List (List ℕ)) (rest : Bool) → member p w.pages && in_all p ls ≡ false
    → (in_all p ls ≡ false → rest ≡ false) → member a (positions_on p w) && rest ≡ false
stands_here p a w ls rest e ih = go (member p w.pages) refl e
  where
    go : (b : Bool) → member p w.pages ≡ b → b && in_all p ls ≡ false → member a (positions_on p w) && rest ≡ false
    go true m f = rw (ih f) (and_false (member a (positions_on p w)))
    go false m f = rw (positions_off p w m) (unfold member in refl)

module _ (s : List ℕ) where
  stands_off : (p : ℕ) (ts ds : List ℕ) → length ts ≤ length ds → (a : ℕ) → in_all p (lists_in s ts) ≡ false
      → stands (phrase_of (words_in s ts) ds) p a ≡ false
  unfolding lists_in words_in phrase_of in_all stands pages_in
  stands_off p [] ds l a e = absurd (true≢false e)
  stands_off p (t ∷ ts) [] l a e = absurd (omega arith)
  stands_off p (t ∷ ts) (d ∷ ds) l a e =
      stands_here p (a + d) (word_of t s) (lists_in s ts) (stands (phrase_of (words_in s ts) ds) p a) e
      (stands_off p ts ds (omega arith) a)

  module _ (ts ds : List ℕ) (enough : length ts ≤ length ds) where
    abbrev phrase : List InPhrase
    phrase = phrase_of (words_in s ts) ds

    among_none : (p : ℕ) (qs : List ℕ) → in_all p (lists_in s ts) ≡ false → starts_among phrase p qs ≡ 0
    unfolding starts_among
    among_none p [] e = refl
    among_none p (q ∷ qs) e = rw (stands_off p ts ds enough q e, among_none p qs e)

    -- pages that a list does not share have no start
    starts_shared : (ls : List (List ℕ)) → ((p : ℕ) → in_all p ls ≡ false → starts phrase p ≡ 0)
        → (ps : List ℕ) → with_starts phrase ps ≡ with_starts phrase (shared_by ls ps)
    unfolding with_starts shared_by
    starts_shared ls off [] = refl
    starts_shared ls off (p ∷ ps) = go (starts_shared ls off ps) (in_all p ls) refl
      where
        go : with_starts phrase ps ≡ with_starts phrase (shared_by ls ps) → (b : Bool) → in_all p ls ≡ b
            → with_starts phrase (p ∷ ps) ≡ with_starts phrase (shared_by ls (p ∷ ps))
        go ih true e = rw (e, ih)
        go ih false e = rw (e, off p e, ih)

  -- phrases by plain reading are those on the common pages
  pub phrase_common : (ts ds : List ℕ) → length ts ≤ length ds → 0 < length ts → by_phrase (phrase_of (words_in s ts) ds)
      ≡ numbered (with_starts (phrase_of (words_in s ts) ds) (common_pages (lists_in s ts)))
  unfolding by_phrase phrase_of common_pages words_in lists_in in_all pages_in starts
  phrase_common [] ds l h = absurd (omega arith)
  phrase_common (t ∷ ts) [] l h = absurd (omega arith)
  phrase_common (t ∷ ts) (d ∷ ds) l h =
      ap numbered (starts_shared (t ∷ ts) (d ∷ ds) l (lists_in s ts)
      (λ p e. among_none (t ∷ ts) (d ∷ ds) l p (positions_on p (word_of t s))
      (rw e (and_false (member p (pages_in s t))))) (pages_in s t))
