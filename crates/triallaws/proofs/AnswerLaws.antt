-- The answer of kind 4 by what was found, and the words' lists of a good question.
use mathlib.Core.Bool.{true, false}
use mathlib.Core.Path.{◌≡◌, refl, sym, ap, ◌∙◌}
use mathlib.Core.List.{List, [], ◌∷◌}
use Prim.Native.Nat.{ℕ, suc, ◌+◌, ◌≤◌, ◌<◌}
use native.Mathlib.Omega.{arith}
use borrow.Author.Tests.{ltb-false}
use lib.Dec.{ltb}
use lib.ListN.{length, get_or, set, take, length-take}
use Rattle.rules.specs.Verdict.{Accepted}
use Rattle.rules.specs.Common.{lead_of}
use Rattle.rules.specs.Index.{index_t, index_refusal}
use Rattle.rules.specs.Term.{Word}
use Rattle.rules.specs.Plain.{InPhrase, phrase_of}
use Rattle.rules.specs.Questions.{lists_in, numbered, words_in, by_phrase, terms_of, offsets_of, phrase_in, words_good}
use Rattle.rules.specs.Questions.{phrase_good}
use Rattle.rules.specs.Write.{laid}
use Rattle.cardlaws.proofs.Theorems.{accepted_term}
use Rattle.std.specs.Prelude.{None, Some}
use Rattle.questions.specs.Wrote.{Wrote}
use Rattle.offsets.proofs.PairLaws.{phrase_parts, same_many}
use Rattle.questions.proofs.GoodLaws.{words_parts}
use Rattle.questions.proofs.PhraseLaws.{phrase_common}
use Rattle.wordlists.specs.Opened.{OpenedPages}
use Rattle.wordlists.proofs.LyingLaws.{word_below}
use Rattle.openwords.specs.Slots.{Filled}
use Rattle.triallaws.specs.Asked.{found_in, Asked}

module _ (s ts : List ℕ) (a : index_refusal s ≡ Accepted) (g : words_good (index_t s) ts ≡ true) where
  pub good_asked : (lead : ℕ) (pg ct ps : List ℕ) → lead ≡ lead_of (lists_in s ts) → OpenedPages s ts pg
      → Filled s ts 1 (length ts) ct → Filled s ts 2 (length ts) ps
      → Asked s ts lead pg ct ps
  good_asked lead pg ct ps l x y z = record {
    accepts = λ i h. (accepted_term s a (get_or ts i 0) (word_below (index_t s) ts g i h)).accepts;
    leads = l;
    pages = x;
    counts = y;
    positions = z;
  }

-- ---- the answer

words_many : (s ts : List ℕ) → length (words_in s ts) ≡ length ts
unfolding words_in
words_many s [] = refl
words_many s (t ∷ ts) = ap suc (words_many s ts)

-- a phrase has no more offsets than words
phrase_front : (ts : List Word) (ds : List ℕ) → phrase_of ts (take (length ts) ds) ≡ phrase_of ts ds
unfolding phrase_of
phrase_front [] ds = refl
phrase_front (t ∷ ts) [] = refl
phrase_front (t ∷ ts) (d ∷ ds) = ap (λ (l : List InPhrase). record { word = t; offset = d } ∷ l) (phrase_front ts ds)

-- what a good question finds, by its numbers put apart
pub answer_is : (s args : List ℕ) → phrase_good (index_t s) args ≡ true → (ts ds : List ℕ) → ts ≡ terms_of args
    → take (length (terms_of args)) ds ≡ offsets_of args → by_phrase (phrase_in s args) ≡ numbered (found_in s ts ds)
unfolding phrase_in found_in
answer_is s args g ts ds is offsets =
    let p = phrase_parts (index_t s) args g in
    let w = words_parts (index_t s) (terms_of args) p.1 in
    let k : ℕ = length (terms_of args) in
    let n : length (words_in s (terms_of args)) ≡ k = words_many s (terms_of args) in
    let enough : k ≤ length ds = omega (arith, ap length offsets, length-take k ds, same_many args) in
    rw is (ap by_phrase (sym (ap (phrase_of (words_in s (terms_of args))) (rw n offsets))
    ∙ phrase_front (words_in s (terms_of args)) ds)
    ∙ phrase_common s (terms_of args) ds enough w.0)

-- ---- in the room

module _ (found room : List ℕ) where
  pub found_none : ltb (length found) (length room) ≡ false → Wrote (numbered found) room None room
  unfolding numbered
  found_none e =
      (omega (arith, ltb-false (length found) (length room) e), refl)

  pub found_whole : (r : ℕ) (after : List ℕ) → r ≡ length found → r < length room → after ≡ laid (0 ∷ found) room
      → Wrote (numbered found) room (Some (r + 1)) (set after 0 r)
  unfolding numbered laid
  found_whole r after e h l =
      (omega (arith, e), omega arith, rw (l, e))

pub laid_some : (x room : List ℕ) → 0 < length (laid (0 ∷ x) room)
unfolding laid
laid_some x room = omega arith
