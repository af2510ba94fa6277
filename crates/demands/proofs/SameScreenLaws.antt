-- A screen of the same words in cards of any two versions: all but its looks is the same [02 f].
use mathlib.Core.Bool.{Bool, true, false, cond, ◌&&◌, ◌||◌}
use mathlib.Core.Path.{◌≡◌, refl}
use mathlib.Core.List.{List, [], ◌∷◌}
use Prim.Native.Nat.{ℕ, zero, suc, ◌≤◌, ◌<◌}
use lib.Dec.{ltb, leb}
use lib.ListN.{length, get_or}
use Rattle.rules.specs.Verdict.{Question, Room}
use Rattle.rules.specs.Limits.{screen_limit}
use Rattle.rules.specs.Write.{laid}
use Rattle.rules.specs.Term.{Word}
use Rattle.rules.specs.Index.{card, valid_card, index_refusal}
use Rattle.rules.specs.Common.{common_from}
use Rattle.rules.specs.Questions.{all_below, words_good}
use Rattle.rules.specs.Screen.{screen_good, screen_pages, screen_counts, Screening, unshown, filled, showing, screen}
use Rattle.laws.proofs.RefusalLaws.{true_accepted}
use Rattle.listlaws.proofs.RisingLaws.{and_parts}
use Rattle.cardlaws.proofs.Theorems.{card_accepted}
use Rattle.questions.proofs.GoodLaws.{words_parts}
use Rattle.demands.specs.Asking.{pages_named}
use Rattle.demands.proofs.KindLaws.{states_V, states_N, states_T, holds_lists, from_same}

-- all but number 1 of the counts, the looks
pub record Alike (m k : Screening) : Type 0 where
  pub refusal : m.refusal ≡ k.refusal
  pub found : m.found ≡ k.found
  pub full : m.full ≡ k.full
  pub next : m.next ≡ k.next
  pub pages : m.pages ≡ k.pages
  pub counts : (i : ℕ) → (i ≡ 1 → ⊥) → get_or m.counts i 0 ≡ get_or k.counts i 0

alike_itself : (m : Screening) → Alike m m
alike_itself m = record {
  refusal = refl;
  found = refl;
  full = refl;
  next = refl;
  pages = refl;
  counts = λ i h. refl;
}

counts_alike : (s l m : ℕ) (counts : List ℕ) (i : ℕ) → (i ≡ 1 → ⊥)
    → get_or (laid (s ∷ (l ∷ [])) counts) i 0 ≡ get_or (laid (s ∷ (m ∷ [])) counts) i 0
unfolding laid
counts_alike s l m counts zero h = refl
counts_alike s l m counts (suc zero) h = absurd (h refl)
counts_alike s l m counts (suc (suc i)) h = refl

showing_alike : (n : ℕ) (ps : List ℕ) (s l m : ℕ) (pages counts : List ℕ)
    → Alike (showing n ps (s ∷ (l ∷ [])) pages counts) (showing n ps (s ∷ (m ∷ [])) pages counts)
unfolding showing
showing_alike n ps s l m pages counts = go (ltb (length pages) (length ps) || ltb (length counts) 2)
  where
    go : (c : Bool)
        → Alike (cond c (unshown Room pages counts) (filled n ps (s ∷ (l ∷ [])) pages counts))
        (cond c (unshown Room pages counts) (filled n ps (s ∷ (m ∷ [])) pages counts))
    go true = alike_itself (unshown Room pages counts)
    go false = record {
      refusal = refl;
      found = refl;
      full = refl;
      next = refl;
      pages = refl;
      counts = counts_alike s l m counts;
    }

-- ---- of a card

module _ (N : ℕ) (ts : List Word) (b n : ℕ) (terms pages counts : List ℕ) where
  abbrev ls : List (List ℕ)
  ls = pages_named ts terms

  screen_bad : (v : ℕ) → valid_card v N ts ≡ true → screen_good (length ts) n terms ≡ false
      → screen (card v N ts) b n terms pages counts ≡ unshown Question pages counts
  unfolding screen
  screen_bad v a e =
      rw (true_accepted (index_refusal (card v N ts)) (card_accepted v N ts a), states_T v N ts a, e)

  words_are : screen_good (length ts) n terms ≡ true
      → (0 < length terms) × (length terms ≤ 8) × (all_below (length ts) terms ≡ true)
  unfolding screen_good
  words_are e =
      let a = and_parts (leb 1 n) (leb n screen_limit && words_good (length ts) terms) e in
      words_parts (length ts) terms (and_parts (leb n screen_limit) (words_good (length ts) terms) a.1).1

  screen_good_lem : (v : ℕ) → valid_card v N ts ≡ true → screen_good (length ts) n terms ≡ true
      → screen (card v N ts) b n terms pages counts
      ≡ showing n (screen_pages b n ls)
      ((common_from v N ls b n).seeks ∷ ((common_from v N ls b n).looks ∷ [])) pages counts
  unfolding screen screen_counts
  screen_good_lem v a e =
      rw (
        true_accepted (index_refusal (card v N ts)) (card_accepted v N ts a),
        states_T v N ts a,
        e,
        holds_lists v N ts a terms (words_are e).2,
        states_V v N ts a,
        states_N v N ts a,
      )

pub screens_alike : (ver z N : ℕ) (ts : List Word) → valid_card ver N ts ≡ true → valid_card z N ts ≡ true
    → (b n : ℕ) (terms pages counts : List ℕ)
    → Alike (screen (card ver N ts) b n terms pages counts) (screen (card z N ts) b n terms pages counts)
screens_alike ver z N ts v w b n terms pages counts = go (screen_good (length ts) n terms) refl
  where
    go : (g : Bool) → screen_good (length ts) n terms ≡ g
        → Alike (screen (card ver N ts) b n terms pages counts) (screen (card z N ts) b n terms pages counts)
    go false e =
        rw (screen_bad N ts b n terms pages counts ver v e, screen_bad N ts b n terms pages counts z w e)
        (alike_itself (unshown Question pages counts))
    go true e =
        let ls : List (List ℕ) = pages_named ts terms in
        let p = words_are N ts b n terms pages counts e in
        rw (
          screen_good_lem N ts b n terms pages counts ver v e,
          screen_good_lem N ts b n terms pages counts z w e,
          from_same ver N ts v terms p.0 p.1 p.2 z b n,
        )
        (showing_alike n (screen_pages b n ls) (common_from z N ls b n).seeks _ _ pages counts)
