-- The row of a phrase's lists, filled part by part.
use mathlib.Core.Bool.{true}
use mathlib.Core.Path.{◌≡◌, sym, ap, ap₂, ◌∙◌}
use mathlib.Core.List.{List, [], ◌++◌, append-nil}
use Prim.Native.Nat.{ℕ, ◌+◌, ◌-◌, ◌≤◌, ◌<◌}
use native.Mathlib.Omega.{arith}
use borrow.Rule.Slice.PartMut.{post_of, put_mid, same_len_mid, drop_put}
use lib.ListN.{length, get_or, take, drop, set, length-set, length-drop, take-append-drop, drop_of_length-le}
use lib.Seq.{length-take-le, take-append-le, drop-append-le, take_at, drop_at}
use lib.Seq.{take-set-le, drop-set-lt, get_or-set_same, drop-drop, get_or-take}
use Rattle.rules.specs.Verdict.{Accepted}
use Rattle.rules.specs.Common.{lead_of}
use Rattle.rules.specs.Index.{index_t, index_refusal}
use Rattle.rules.specs.Questions.{lists_in, numbered, by_phrase, terms_of, phrase_in, words_good, phrase_good}
use Rattle.offsets.specs.Pairs.{Split}
use Rattle.offsets.proofs.PairLaws.{phrase_parts}
use Rattle.questions.proofs.GoodLaws.{words_parts}
use Rattle.wordlists.specs.Opened.{OpenedPages}
use Rattle.openwords.specs.Slots.{Filled}
use Rattle.triallaws.specs.Asked.{found_in, offsets_in, AskedIn, PhraseOpened}
use Rattle.triallaws.proofs.AnswerLaws.{good_asked, answer_is}

abbrev window : ℕ → List ℕ → List ℕ
window b l = take 64 (drop b l)

-- what lies before a is told by what stands there
window_take : (a b : ℕ) (l : List ℕ) → b + 64 ≤ a → a ≤ length l → window b l ≡ window b (take a l)
window_take a b l h k =
    let n : length (take a l) ≡ a = length-take-le a l k in
    let e : drop b l ≡ drop b (take a l) ++ drop a l =
    ap (drop b) (sym (take-append-drop a l)) ∙ drop-append-le b (take a l) (drop a l) (omega (arith, n)) in
    ap (take 64) e
    ∙ take-append-le 64 (drop b (take a l)) (drop a l) (omega (arith, n, length-drop b (take a l)))

front_same : (a b : ℕ) (l m : List ℕ) → b + 64 ≤ a → a ≤ length l → a ≤ length m → take a m ≡ take a l → window b m
    ≡ window b l
front_same a b l m h k j e =
    window_take a b m h j ∙ ap (window b) e ∙ sym (window_take a b l h k)

-- ---- a part of 64 numbers put

module _ (a : ℕ) (l ys : List ℕ) (within : a + 64 ≤ length l) (full : length ys ≡ 64) where
  put_long : length (put_mid a 64 l ys) ≡ length l
  put_long =
      same_len_mid a 64 l ys (full ∙ sym (length-take-le 64 (drop a l) (omega (arith, length-drop a l))))

  put_here : window a (put_mid a 64 l ys) ≡ ys
  put_here =
      ap (take 64) (drop_at (take a l) (ys ++ post_of a 64 l) a (length-take-le a l (omega arith)))
      ∙ take_at ys (post_of a 64 l) 64 full

  put_behind : (b : ℕ) → a + 64 ≤ b → drop b (put_mid a 64 l ys) ≡ drop b l
  put_behind b h =
      let e : a + 64 + (b - (a + 64)) ≡ b = omega arith in
      let w : a + 64 - a ≡ 64 = omega arith in
      let d : drop (a + 64) (put_mid a 64 l ys) ≡ drop (a + 64) l =
      rw w at (drop_put a (a + 64) l ys (omega arith) within (omega arith)) in
      ap (λ (n : ℕ). drop n (put_mid a 64 l ys)) (sym e)
      ∙ sym (drop-drop (b - (a + 64)) (a + 64) (put_mid a 64 l ys)) ∙ ap (drop (b - (a + 64))) d
      ∙ drop-drop (b - (a + 64)) (a + 64) l ∙ ap (λ (n : ℕ). drop n l) e

  put_before : (b : ℕ) → b + 64 ≤ a → window b (put_mid a 64 l ys) ≡ window b l
  put_before b h =
      front_same a b l (put_mid a 64 l ys) h (omega arith) (omega (arith, put_long))
      (take_at (take a l) (ys ++ post_of a 64 l) a (length-take-le a l (omega arith)))

-- ---- the offsets put

row_offsets : (l ds : List ℕ) → length l ≡ 201 → length ds ≡ 8 → (length (put_mid 193 8 l ds) ≡ 201)
    × (offsets_in (put_mid 193 8 l ds) ≡ ds)
row_offsets l ds n m =
    let rest : post_of 193 8 l ≡ [] =
    drop_of_length-le (drop 193 l) {i = 8} (omega (arith, length-drop 193 l)) in (
      same_len_mid 193 8 l ds (m ∙ sym (length-take-le 8 (drop 193 l) (omega (arith, length-drop 193 l)))) ∙ n,
      drop_at (take 193 l) (ds ++ post_of 193 8 l) 193 (length-take-le 193 l (omega arith))
          ∙ ap (λ (z : List ℕ). ds ++ z) rest ∙ append-nil ds,
    )

-- ---- all of it

-- pages, counts and positions, and behind them the number of the word that leads; the offsets at the end stay
pub row_asked : (s ts : List ℕ) → index_refusal s ≡ Accepted → words_good (index_t s) ts ≡ true → (l pg ct ps : List ℕ)
    (lead : ℕ) → length l ≡ 201 → get_or (offsets_in l) 0 0 ≡ 0 → lead ≡ lead_of (lists_in s ts) → OpenedPages s ts pg
    → Filled s ts 1 (length ts) ct → Filled s ts 2 (length ts) ps
    → let r : List ℕ = set (put_mid 128 64 (put_mid 64 64 (put_mid 0 64 l pg) ct) ps) 192 lead in
    AskedIn s ts r × (offsets_in r ≡ offsets_in l)
row_asked s ts a g l pg ct ps lead n f e x y z =
    let some = x.lists.some in
    let full₁ : length pg ≡ 64 = x.room in
    let full₂ : length ct ≡ 64 = (y.slot 0 some).block.room in
    let full₃ : length ps ≡ 64 = (z.slot 0 some).block.room in
    let l₁ : List ℕ = put_mid 0 64 l pg in
    let n₁ : length l₁ ≡ 201 = put_long 0 l pg (omega arith) full₁ ∙ n in
    let l₂ : List ℕ = put_mid 64 64 l₁ ct in
    let n₂ : length l₂ ≡ 201 = put_long 64 l₁ ct (omega arith) full₂ ∙ n₁ in
    let l₃ : List ℕ = put_mid 128 64 l₂ ps in
    let n₃ : length l₃ ≡ 201 = put_long 128 l₂ ps (omega arith) full₃ ∙ n₂ in
    let l₄ : List ℕ = set l₃ 192 lead in
    let n₄ : length l₄ ≡ 201 = length-set l₃ 192 lead ∙ n₃ in
    let kept : (b : ℕ) → b + 64 ≤ 192 → window b l₄ ≡ window b l₃ =
    λ b h. front_same 192 b l₃ l₄ h (omega arith) (omega arith) (take-set-le 192 l₃ 192 lead (omega arith)) in
    let pages : window 0 l₄ ≡ pg =
    kept 0 (omega arith) ∙ put_before 128 l₂ ps (omega arith) full₃ 0 (omega arith)
    ∙ put_before 64 l₁ ct (omega arith) full₂ 0 (omega arith) ∙ put_here 0 l pg (omega arith) full₁ in
    let counts : window 64 l₄ ≡ ct =
    kept 64 (omega arith) ∙ put_before 128 l₂ ps (omega arith) full₃ 64 (omega arith)
    ∙ put_here 64 l₁ ct (omega arith) full₂ in
    let positions : window 128 l₄ ≡ ps = kept 128 (omega arith) ∙ put_here 128 l₂ ps (omega arith) full₃ in
    let offsets : drop 193 l₄ ≡ drop 193 l =
    drop-set-lt 193 l₃ 192 lead (omega arith) ∙ put_behind 128 l₂ ps (omega arith) full₃ 193 (omega arith)
    ∙ put_behind 64 l₁ ct (omega arith) full₂ 193 (omega arith)
    ∙ put_behind 0 l pg (omega arith) full₁ 193 (omega arith) in (
      record {
        row = n₄;
        asked =
            rw (get_or-set_same l₃ 192 lead 0 (omega arith), pages, counts, positions)
            (good_asked s ts a g lead pg ct ps e x y z);
        first = ap (λ (o : List ℕ). get_or o 0 0) offsets ∙ f;
      },
      offsets,
    )

-- ---- a question's pairs in the row

-- the front of eight numbers, as a part of them is taken
front_part : (k : ℕ) (ts : List ℕ) → take (k - 0) ts ≡ take k ts
front_part k ts =
    let e : k - 0 ≡ k = omega arith in
    ap (λ (n : ℕ). take n ts) e

module _ (s args : List ℕ) (g : phrase_good (index_t s) args ≡ true) (k : ℕ) (ts : List ℕ) where
  module _ (many : k ≡ length (terms_of args)) (ds l : List ℕ) (apart : Split args ts ds) (row : length l ≡ 201) where
    front_terms : take k ts ≡ terms_of args
    front_terms = ap (λ (n : ℕ). take n ts) many ∙ apart.terms

    some_few : (0 < k) × (k ≤ 8)
    some_few =
        let w = words_parts (index_t s) (terms_of args) (phrase_parts (index_t s) args g).1 in
        (omega (arith, w.0), omega (arith, w.1))

    pub pairs_ready : (words_good (index_t s) (take (k - 0) ts) ≡ true) × (length (put_mid 193 8 l ds) ≡ 201)
        × (get_or (offsets_in (put_mid 193 8 l ds)) 0 0 ≡ 0)
    pairs_ready =
        let p = phrase_parts (index_t s) args g in
        let o = row_offsets l ds row apart.offsets_room in
        let first : List ℕ → ℕ = λ x. get_or x 0 0 in
        let front = get_or-take (length (terms_of args)) ds 0 0 (omega (arith, some_few.0)) in (
          rw (front_part k ts, front_terms) p.1,
          o.0,
          ap first o.1 ∙ sym front ∙ ap first apart.offsets ∙ p.2,
        )

    pub phrase_opened : (r : List ℕ) → AskedIn s (take (k - 0) ts) r → offsets_in r ≡ offsets_in (put_mid 193 8 l ds)
        → PhraseOpened s args k ts r
    phrase_opened r a e = record {
      eight = apart.terms_room;
      many = many;
      few = some_few.1;
      terms = front_terms;
      offsets = ap₂ take many (e ∙ (row_offsets l ds row apart.offsets_room).1) ∙ apart.offsets;
      asked = rw (front_part k ts) at a;
    }

  module _ (r : List ℕ) (o : PhraseOpened s args k ts r) where
    pub opened_asked : AskedIn s (take (k - 0) ts) r
    opened_asked = rw (front_part k ts) o.asked

    pub opened_found : by_phrase (phrase_in s args) ≡ numbered (found_in s (take (k - 0) ts) (offsets_in r))
    opened_found =
        rw (front_part k ts) (answer_is s args g (take k ts) (offsets_in r) o.terms
        (ap (λ (n : ℕ). take n (offsets_in r)) (sym o.many) ∙ o.offsets))
