-- The answers to questions on the card of the words ts: what each kind reads of the words that it names, and the counts
-- of common pages, which fit the numbers that carry them.
use mathlib.Core.Bool.{true}
use mathlib.Core.Path.{◌≡◌, refl, sym, ap, ◌∙◌}
use mathlib.Core.List.{List, [], ◌∷◌}
use Prim.Native.Nat.{ℕ, zero, suc, ◌+◌, ◌*◌, ◌^◌, ◌≤◌, ◌<◌}
use native.Mathlib.Nat.{div-le_self, mul-le-mul_left}
use native.Mathlib.Omega.{arith}
use native.Mathlib.Decide.{ℕ_discrete}
use borrow.Author.Tests.{ltb-true, le-leb, ne_eqb}
use lib.Dec.{ltb}
use lib.ListN.{length, get_or, replicate}
use Rattle.rules.specs.Limits.{limit}
use Rattle.rules.specs.Runs.{words_for}
use Rattle.rules.specs.List.{rising, zeros, Form, two_runs, bitmap, form_of}
use Rattle.rules.specs.Term.{Word}
use Rattle.rules.specs.Index.{card, valid_card, index_v, index_n, index_t, word_of}
use Rattle.rules.specs.Seek.{width_of, bits_of, upper_words}
use Rattle.rules.specs.Common.{Tally, lead_pages, common_from, common}
use Rattle.rules.specs.Plain.{common_pages}
use Rattle.rules.specs.Questions.{numbered, pages_in, lists_in, words_in, by_common, answer, all_below, terms_of, phrase_in}
use Rattle.rules.specs.Questions.{words_good, good_question, replies}
use Rattle.listlaws.proofs.RisingLaws.{and_parts, rising_length}
use Rattle.termlaws.proofs.WordLaws.{valid_agreeing}
use Rattle.cardlaws.proofs.PassedLaws.{card_valid}
use Rattle.cardlaws.proofs.CardLaws.{card_V, card_N, card_T}
use Rattle.cardlaws.proofs.Theorems.{card_accepted, card_word_of, accepted_word}
use Rattle.commonlaws.specs.Readers.{Rise}
use Rattle.commonlaws.specs.Readers as readers
use Rattle.commonlaws.proofs.CommonLaws as laws
use Rattle.formlaws.proofs.Theorems.{forms_from, forms_common}
use Rattle.questions.specs.Formed.{answers_to}
use Rattle.questions.proofs.FrontLaws.{answers_front}
use Rattle.offsets.proofs.PairLaws.{phrase_parts}
use Rattle.questions.proofs.GoodLaws.{good_pair, good_words, pair_parts, good_rest, words_parts}
use Rattle.demands.specs.Asking.{Query, written, Good, word_at, pages_at, named, pages_named, plain, plain_all}
use Rattle.demands.specs.Asking.{upper_runs}
use Rattle.demands.proofs.SameLaws.{common_same, named_same}
use Rattle.demands.proofs.AskLaws.{front_kind, front_args, front_behind, front_some}

-- ---- the words that a question names

below_front : (T t : ℕ) (terms : List ℕ) → all_below T (t ∷ terms) ≡ true → (t < T) × (all_below T terms ≡ true)
unfolding all_below
below_front T t terms e =
    let p = and_parts (ltb t T) (all_below T terms) e in
    (ltb-true t T p.0, p.1)

pub length_lists : (ts : List Word) (terms : List ℕ) → length (pages_named ts terms) ≡ length terms
unfolding pages_named
length_lists ts [] = refl
length_lists ts (t ∷ terms) = ap suc (length_lists ts terms)

module _ (ver N : ℕ) (ts : List Word) (v : valid_card ver N ts ≡ true) where
  pub states_V : index_v (card ver N ts) ≡ ver
  states_V = card_V ver N ts (card_valid ver N ts v)

  pub states_N : index_n (card ver N ts) ≡ N
  states_N = card_N ver N ts (card_valid ver N ts v)

  pub states_T : index_t (card ver N ts) ≡ length ts
  states_T = card_T ver N ts (card_valid ver N ts v)

  holds_word : (t : ℕ) → t < length ts → word_of t (card ver N ts) ≡ word_at ts t
  holds_word t h = card_word_of ver N ts v _ t h

  holds_pages : (t : ℕ) → t < length ts → pages_in (card ver N ts) t ≡ pages_at ts t
  unfolding pages_in
  holds_pages t h = ap (λ (w : Word). w.pages) (holds_word t h)

  holds_words : (terms : List ℕ) → all_below (length ts) terms ≡ true → words_in (card ver N ts) terms ≡ named ts terms
  unfolding words_in named
  holds_words [] b = refl
  holds_words (t ∷ terms) b =
      let p = below_front (length ts) t terms b in
      rw (holds_word t p.0, holds_words terms p.1)

  pub holds_lists : (terms : List ℕ) → all_below (length ts) terms ≡ true
      → lists_in (card ver N ts) terms ≡ pages_named ts terms
  unfolding lists_in pages_named
  holds_lists [] b = refl
  holds_lists (t ∷ terms) b =
      let p = below_front (length ts) t terms b in
      rw (holds_pages t p.0, holds_lists terms p.1)

  pub pages_rise : (t : ℕ) → t < length ts → rising 0 N (pages_at ts t) ≡ true
  pages_rise t h =
      let w = accepted_word (card ver N ts) (card_accepted ver N ts v) t (rw states_T h) in
      (valid_agreeing N (word_at ts t) (rw (states_N, holds_word t h) at w.valid)).rises

  lists_rise : (terms : List ℕ) → all_below (length ts) terms ≡ true → Rise N (pages_named ts terms)
  unfolding pages_named
  lists_rise [] b = tt
  lists_rise (t ∷ terms) b =
      let p = below_front (length ts) t terms b in
      (pages_rise t p.0, lists_rise terms p.1)

  -- ---- the answers

  pub plain_answer : (q : Query) → good_question (length ts) q.kind q.numbers ≡ true
      → answer (card ver N ts) q.kind q.numbers ≡ plain ver N ts q
  unfolding answer plain phrase_in
  plain_answer q g =
      elim (ℕ_discrete q.kind 1) [
        | yes e ↦ rw (e, holds_pages (get_or q.numbers 0 0) (of_pair (omega arith) (omega arith)))
        | no a ↦ elim (ℕ_discrete q.kind 2) [
          | yes e ↦ rw (e, holds_pages (get_or q.numbers 0 0) (of_pair (omega arith) (omega arith)))
          | no b ↦ elim (ℕ_discrete q.kind 3) [
            | yes e ↦ rw (e, states_V, states_N, holds_lists q.numbers (of_words e))
            | no c ↦
                let f = ne_eqb q.kind 3 c in
                rw (ne_eqb q.kind 1 a, ne_eqb q.kind 2 b, f, holds_words (terms_of q.numbers) (of_phrase a b c))
          ]
        ]
      ]
    where
      of_words : q.kind ≡ 3 → all_below (length ts) q.numbers ≡ true
      of_words e =
          (words_parts (length ts) q.numbers (sym (good_words (length ts) q.kind q.numbers e) ∙ g)).2

      of_phrase : (q.kind ≡ 1 → ⊥) → (q.kind ≡ 2 → ⊥) → (q.kind ≡ 3 → ⊥)
          → all_below (length ts) (terms_of q.numbers) ≡ true
      of_phrase a b c =
          (words_parts (length ts) (terms_of q.numbers)
          (phrase_parts (length ts) q.numbers (good_rest (length ts) q.kind q.numbers a b c g)).1).2

      of_pair : 0 < q.kind → q.kind < 3 → get_or q.numbers 0 0 < length ts
      of_pair h k = (pair_parts (length ts) q.numbers (sym (good_pair (length ts) q.kind q.numbers h k) ∙ g)).1

  pub plain_answers : (qs : List Query) → Good (length ts) qs
      → answers_to (card ver N ts) (written qs) ≡ plain_all ver N ts qs
  unfolding answers_to replies written plain_all
  plain_answers [] g = refl
  plain_answers (q ∷ qs) g =
      answers_front (card ver N ts) (written (q ∷ qs)) (front_some q qs)
      ∙ rw (front_kind q qs, front_args q qs, front_behind q qs, plain_answer q g.0, plain_answers qs g.1)

pub length_plain : (ver N : ℕ) (ts : List Word) (qs : List Query) → length (plain_all ver N ts qs) ≡ length qs
unfolding plain_all
length_plain ver N ts [] = refl
length_plain ver N ts (q ∷ qs) = ap suc (length_plain ver N ts qs)

-- one to eight words may be asked in kind 3
pub may_ask : (T : ℕ) (terms : List ℕ) → 1 ≤ length terms → length terms ≤ 8 → all_below T terms ≡ true
    → good_question T 3 terms ≡ true
unfolding words_good
may_ask T terms some few below =
    good_words T 3 terms refl ∙ rw (le-leb 1 (length terms) some, le-leb (length terms) 8 few) below

-- an answer with its number in front
pub common_told : (ver N : ℕ) (ls : List (List ℕ))
    → by_common ver N ls
    ≡ (length (common_pages ls) + 2) ∷ ((common ver N ls).seeks ∷ ((common ver N ls).looks ∷ common_pages ls))
unfolding by_common numbered
common_told ver N ls =
    let e : suc (suc (length (common_pages ls))) ≡ length (common_pages ls) + 2 = omega arith in
    rw e

-- ---- the counts of common pages

pub upper_words_lem : (ver N : ℕ) (ls : List (List ℕ)) → upper_runs ver N ls ≡ readers.words_in ver N ls
unfolding upper_runs readers.words_in
upper_words_lem ver N [] = refl
upper_words_lem ver N (l ∷ ls) =
    ap (λ (n : ℕ). upper_words (form_of ver N (length l)) N l + n) (upper_words_lem ver N ls)

pub named_at : (ts : List Word) (terms : List ℕ) (j : ℕ) → j < length terms
    → get_or (pages_named ts terms) j [] ≡ pages_at ts (get_or terms j 0)
unfolding pages_named
named_at ts [] j h = absurd (omega arith)
named_at ts (t ∷ terms) zero h = refl
named_at ts (t ∷ terms) (suc j) h = named_at ts terms j (omega arith)

module _ (N : ℕ) (within : N ≤ limit) where
  run_few : (f : Form) (l : List ℕ) → rising 0 N l ≡ true → upper_words f N l ≤ 524289
  unfolding upper_words words_for bits_of zeros
  run_few f [] r = omega arith
  run_few two_runs (x ∷ xs) r =
      omega (arith, rising_length 0 N (x ∷ xs) r (omega arith), div-le_self N (2 ^ width_of N (x ∷ xs)))
  run_few bitmap (x ∷ xs) r = omega (arith, within)

  runs_few : (ver : ℕ) (ls : List (List ℕ)) → Rise N ls → upper_runs ver N ls ≤ length ls * 524289
  unfolding upper_runs
  runs_few ver [] r = omega arith
  runs_few ver (l ∷ ls) r = omega (arith, run_few (form_of ver N (length l)) l r.0, runs_few ver ls r.1)

first_below : (ts : List Word) (ns : List ℕ) → 0 < length ns → all_below (length ts) ns ≡ true
    → get_or ns 0 0 < length ts
first_below ts [] h b = absurd (omega arith)
first_below ts (t ∷ ns) h b = (below_front (length ts) t ns b).0

module _ (ver N : ℕ) (ts : List Word) (v : valid_card ver N ts ≡ true) (terms : List ℕ) where
  abbrev lists : List (List ℕ)
  lists = pages_named ts terms

  module _ (some : 0 < length terms) (few : length terms ≤ 8) (below : all_below (length ts) terms ≡ true) where
    named_some : 0 < length lists
    named_some = rw (length_lists ts terms) some

    named_rise : Rise N lists
    named_rise = lists_rise ver N ts v terms below

    pub common_lists : (common ver N lists).listed ≡ common_pages lists
    common_lists = laws.common_listed ver N lists named_some named_rise

    pub common_rise : rising 0 N (common_pages lists) ≡ true
    common_rise = laws.common_rises ver N lists named_some named_rise

    -- ---- the counts of the rule from b on, until n pages are listed

    module _ (b n : ℕ) where
      abbrev tally : Tally
      tally = common_from ver N lists b n

      pub seeks_from : (j : ℕ) → j < length terms
          → tally.seeks ≤ length terms * length (pages_at ts (get_or terms j 0)) + 1
      seeks_from j h =
          let l = length_lists ts terms in
          let s = laws.from_seeks ver N lists named_some named_rise b n j (omega arith) in
          rw (l, named_at ts terms j h) at s

      pub looks_from : tally.looks ≤ tally.seeks + upper_runs ver N lists
      looks_from = rw (upper_words_lem ver N lists) (laws.from_looks ver N lists named_some named_rise b n)

      pub fit_from : (tally.seeks < 2 ^ 32) × (tally.looks < 2 ^ 32)
      fit_from =
          let within = (card_valid ver N ts v).within in
          let pages = pages_at ts (get_or terms 0 0) in
          let rise = pages_rise ver N ts v (get_or terms 0 0) (first_below ts terms some below) in
          let short : length pages ≤ limit = omega (arith, rising_length 0 N pages rise (omega arith)) in
          let m : length terms * length pages ≤ length terms * limit = mul-le-mul_left (length terms) short in
          let seeks : tally.seeks ≤ 134217729 = omega (arith, seeks_from 0 some, m) in
          let runs = runs_few N within ver lists named_rise in
          (omega arith, omega (arith, looks_from, length_lists ts terms))

    -- ---- those of common pages

    pub seeks_most : (j : ℕ) → j < length terms
        → (common ver N lists).seeks ≤ length terms * length (pages_at ts (get_or terms j 0)) + 1
    unfolding common
    seeks_most = seeks_from 0 (length (lead_pages lists) + 1)

    -- one word, k times over
    pub seeks_same : (t : ℕ) → terms ≡ replicate (length terms) t
        → (common ver N lists).seeks ≡ length terms * length (pages_at ts t) + 1
    seeks_same t e =
        common_same N ver lists (pages_at ts t) named_some named_rise (named_same ts t terms e)
        ∙ rw (length_lists ts terms)

    -- the same in an index of any other version
    pub from_same : (z b n : ℕ) → (common_from ver N lists b n).seeks ≡ (common_from z N lists b n).seeks
    from_same z b n = (forms_from z ver N lists named_some named_rise b n).0

    pub common_same_seeks : (z : ℕ) → (common ver N lists).seeks ≡ (common z N lists).seeks
    common_same_seeks z = (forms_common z ver N lists named_some named_rise).0

    pub looks_most : (common ver N lists).looks ≤ (common ver N lists).seeks + upper_runs ver N lists
    unfolding common
    looks_most = looks_from 0 (length (lead_pages lists) + 1)

    pub counts_fit : ((common ver N lists).seeks < 2 ^ 32) × ((common ver N lists).looks < 2 ^ 32)
    unfolding common
    counts_fit = fit_from 0 (length (lead_pages lists) + 1)
