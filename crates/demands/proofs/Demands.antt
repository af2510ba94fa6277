-- What the customer asks, sentence by sentence. Each theorem is of any result that the promise of an exported call
-- allows (crates/hostlaws/specs/Host.antt), and of nothing else of the program. Its words are document 01's
-- definitions (crates/rules/specs) and those of specs/Asking.antt. Witnesses.antt shows that the premises can be met.
use mathlib.Core.Bool.{true}
use mathlib.Core.Logic.{◌↔◌}
use mathlib.Core.Path.{◌≡◌, refl, sym, ap, ◌∙◌}
use mathlib.Core.List.{List, [], ◌∷◌, ◌++◌, append-nil}
use Prim.Native.Nat.{ℕ, ◌+◌, ◌*◌, ◌^◌, ◌≤◌, ◌<◌}
use native.Mathlib.Omega.{arith}
use borrow.Author.Tests.{lt-ltb}
use lib.ListN.{length, get_or, take, drop, replicate, length-append}
use Rattle.rules.specs.Verdict.{Accepted, Room}
use Rattle.rules.specs.Bytes.{Bytes}
use Rattle.rules.specs.Refusal.{number}
use Rattle.rules.specs.Limits.{offset_limit, index_header}
use Rattle.rules.specs.List.{rising, valid_list, block, form_of}
use Rattle.rules.specs.ReadList.{list_refusal}
use Rattle.rules.specs.Write.{Made, laid, write_list}
use Rattle.rules.specs.Term.{Word, term_block, write_term}
use Rattle.rules.specs.ReadTerm.{term_refusal}
use Rattle.rules.specs.Index.{valid_card, card, index_v, index_n, index_t, index_refusal, close_index}
use Rattle.rules.specs.Seek.{upper_words}
use Rattle.rules.specs.Common.{reader, rounds, common_from, common}
use Rattle.rules.specs.Plain.{below, common_pages, phrase_of}
use Rattle.rules.specs.Questions.{by_bound, by_common, by_phrase, all_below, pair_good, good_question, well_formed, replies}
use Rattle.rules.specs.Table.{stepped}
use Rattle.rules.specs.Ask.{Replied, fitting, joined, reply}
use Rattle.laws.proofs.RefusalLaws.{number_inj}
use Rattle.listlaws.proofs.Theorems as lists
use Rattle.termlaws.proofs.Theorems as words
use Rattle.cardlaws.proofs.Theorems as cards
use Rattle.cardlaws.proofs.ClosingLaws.{close_told}
use Rattle.questions.specs.Formed.{formed, answers_to}
use Rattle.questions.proofs.GoodLaws.{good_phrase}
use Rattle.telling.specs.declared.HostWritten.{HostWritten}
use Rattle.telling.specs.declared.HostAsked.{HostAsked}
use Rattle.telling.specs.Told.{Told}
use Rattle.hostlaws.specs.Host.{HostListChecked, HostListWritten, HostTermChecked, HostTermWritten}
use Rattle.hostlaws.specs.Host.{HostIndexChecked, HostIndexClosed, HostAnswered}
use Rattle.demands.specs.Asking.{Known, ValidWord, Query, written, Good, pages_at, named, pages_named, plain}
use Rattle.demands.specs.Asking.{plain_all}
use Rattle.demands.specs.InRow.{by_row}
use Rattle.demands.specs.Asking.{paired, last_of, upper_runs, lead_on, others_on, times, reading_it}
use Rattle.demands.proofs.WriteLaws.{number_le, to_writable, from_writable, list_keeps, term_keeps, close_keeps}
use Rattle.demands.proofs.WriteLaws.{close_size, list_writes, list_wrote, told_accepts, accepts_told}
use Rattle.demands.proofs.WriteLaws.{told_refused, told_success}
use Rattle.demands.proofs.AskLaws.{Reads, fits, reply_nothing, reply_room, reply_all, all_reply, reads}
use Rattle.demands.proofs.AskLaws.{written_formed}
use Rattle.demands.proofs.KindLaws.{length_lists, states_T, pages_rise, may_ask, plain_answers, length_plain}
use Rattle.demands.proofs.KindLaws.{common_told, common_lists, seeks_most, seeks_same, looks_most, counts_fit}
use Rattle.demands.proofs.PhraseLaws.{paired_terms, paired_offsets, paired_length, may_pair, length_named}
use Rattle.demands.proofs.PhraseLaws.{length_row, first_row, rising_row, row_answer}
use Rattle.demands.proofs.SameLaws.{begins_length, begins_times, times_twice, runs_twice}
use Rattle.demands.proofs.PlainLaws.{rank_in, rank_past, bound_at, bound_none, bound_last, rank_length}
use Rattle.demands.proofs.PlainLaws.{bound_length}

-- ---- 1. "Any bytes, lists and questions are answered and every call ends. Each refusal is one of document 01's
-- numbers."

-- The contracts are total, and tests/after/calls finds no premise in them. A check answers 0 to 10.
pub list_check_number : (s : List ℕ) (r : ℕ) → HostListChecked s r → r ≤ 10
list_check_number s r p = rw p (number_le (list_refusal s))

pub term_check_number : (v : ℕ) (s : List ℕ) (r : ℕ) → HostTermChecked v s r → r ≤ 10
term_check_number v s r p = rw p (number_le (term_refusal v s))

pub index_check_number : (s : List ℕ) (r : ℕ) → HostIndexChecked s r → r ≤ 10
index_check_number s r p = rw p (number_le (index_refusal s))

-- So do the writers and closing, and a refusal leaves the room as it was and the length 0.
pub list_write_refused : (U : ℕ) (xs room : List ℕ) (r : HostWritten) (after : List ℕ)
    → HostListWritten U xs room r after
    → (r.refusal ≤ 10) × ((r.refusal ≡ 0 → ⊥) → (after ≡ room) × (r.length ≡ 0))
list_write_refused U xs room r after p = told_refused (write_list U xs room) r after p room (list_keeps U xs room)

pub term_write_refused : (v N : ℕ) (t : Word) (room : List ℕ) (r : HostWritten) (after : List ℕ)
    → HostTermWritten v N t room r after
    → (r.refusal ≤ 10) × ((r.refusal ≡ 0 → ⊥) → (after ≡ room) × (r.length ≡ 0))
term_write_refused v N t room r after p = told_refused (write_term v N t room) r after p room (term_keeps v N t room)

pub close_refused : (buffer : List ℕ) (used v N T : ℕ) (r : HostWritten) (after : List ℕ)
    → HostIndexClosed buffer used v N T r after
    → (r.refusal ≤ 10) × ((r.refusal ≡ 0 → ⊥) → (after ≡ buffer) × (r.length ≡ 0))
close_refused buffer used v N T r after p =
    told_refused (close_index buffer used v N T) r after p buffer (close_keeps buffer used v N T)

-- A run of questions ends with 0 to 10.
module _ (s qs room : List ℕ) (r : HostAsked) (after : List ℕ) (p : HostAnswered s qs room r after) where
  told : Reads r room after (reply s qs (length room))
  told = reads s qs room r after p

  pub ask_number : r.refusal ≤ 10
  ask_number = rw told.refusal (number_le (reply s qs (length room)).refusal)

  -- 0 is given exactly where the card is accepted, all questions are well formed and all answers fit.
  pub ask_accepted : (r.refusal ≡ 0)
      ↔ ((index_refusal s ≡ Accepted)
      × (well_formed (index_t s) (length qs) qs ≡ true)
      × (length (joined (replies s (length qs) qs)) ≤ length room))
  ask_accepted = (
    λ z.
        let e = number_inj (reply s qs (length room)).refusal Accepted (sym told.refusal ∙ z) in
        let a = reply_all s qs (length room) e in
        (a.0.0, a.0.1, a.2),
    λ a. told.refusal ∙ ap (λ (k : Replied). number k.refusal) (all_reply s qs (length room) (a.0, a.1) a.2),
  )

  -- A refused card or question writes nothing and answers none.
  pub ask_refused : (r.refusal ≡ 0 → ⊥) → (r.refusal ≡ 9 → ⊥) → (after ≡ room) × (r.answered ≡ 0) × (r.used ≡ 0)
  unfolding joined laid
  ask_refused z n =
      let e =
      reply_nothing s qs (length room)
      (λ a. z (told.refusal ∙ ap number a)) (λ a. n (told.refusal ∙ ap number a)) in
      (told.left ∙ rw e, told.answered ∙ ap length e, told.used ∙ ap (λ l. length (joined l)) e)

  -- 9 is given where the answers do not all fit: the room then begins with those before the first that does not fit
  -- whole, and behind them is as it was.
  pub ask_room : r.refusal ≡ 9
      → (index_refusal s ≡ Accepted)
      × (well_formed (index_t s) (length qs) qs ≡ true)
      × (after ≡ laid (joined (take r.answered (replies s (length qs) qs))) room)
      × (r.used ≡ length (joined (take r.answered (replies s (length qs) qs))))
      × (r.used ≤ length room)
      × (length room < length (joined (take (r.answered + 1) (replies s (length qs) qs))))
  ask_room z =
      let given = replies s (length qs) qs in
      let n = number_inj (reply s qs (length room)).refusal Room (sym told.refusal ∙ z) in
      let e = reply_room s qs (length room) n in
      let f = fits given (length room) in
      let k : r.answered ≡ length (fitting (length room) given) = told.answered ∙ ap length e.1 in
      let a : (reply s qs (length room)).answers ≡ take r.answered given =
      e.1 ∙ f.first ∙ ap (λ (n : ℕ). take n given) (sym k) in (
        e.0.0,
        e.0.1,
        told.left ∙ ap (λ l. laid (joined l) room) a,
        told.used ∙ ap (λ l. length (joined l)) a,
        rw (told.used, e.1) f.within,
        rw k (f.most e.2),
      )

-- ---- 2. "A list is encoded as the one byte string that document 01 gives it, and bytes are accepted exactly when they
-- encode a valid list or a valid card."

-- A list is written exactly when it is valid and its block fits; the room then begins with the block, and behind it is
-- as it was.
module _ (U : ℕ) (xs room : List ℕ) (r : HostWritten) (after : List ℕ) (p : HostListWritten U xs room r after) where
  pub list_written : (r.refusal ≡ 0) ↔ ((valid_list U xs ≡ true) × (length (block U xs) ≤ length room))
  list_written = (
    λ z. list_wrote U xs room (told_accepts (write_list U xs room) r after p z),
    λ q.
        accepts_told (write_list U xs room) r after p
        (ap (λ (m : Made). m.refusal) (list_writes U xs room q.0 q.1)),
  )

  pub list_encoded : r.refusal ≡ 0 → (after ≡ laid (block U xs) room) × (r.length ≡ length (block U xs))
  list_encoded z =
      let q = list_written.0 z in
      told_success (write_list U xs room) r after p (block U xs) room (list_writes U xs room q.0 q.1)

-- Bytes are accepted as a list exactly when they encode a valid list, and they encode no second one.
pub list_accepted : (s : List ℕ) (r : ℕ) → HostListChecked s r
    → (r ≡ 0) ↔ ((U : ℕ) × (xs : List ℕ) × (valid_list U xs ≡ true) × (s ≡ block U xs))
list_accepted s r p = (
  λ z. (lists.accepted_iff s).0 (number_inj (list_refusal s) Accepted (sym p ∙ z)),
  λ q. p ∙ ap number ((lists.accepted_iff s).1 q),
)

pub list_one : (U Y : ℕ) (xs ys : List ℕ) → valid_list U xs ≡ true → valid_list Y ys ≡ true → block U xs ≡ block Y ys
    → (U ≡ Y) × (xs ≡ ys)
list_one = lists.block_unique

-- The same of a word. `Bytes s`, each number below 256, holds of every slice of bytes.
module _ (v N : ℕ) (t : Word) (room : List ℕ) (r : HostWritten) (after : List ℕ)
    (p : HostTermWritten v N t room r after) where
  pub term_written : (r.refusal ≡ 0) ↔ (Known v × ValidWord N t × (length (term_block v N t) ≤ length room))
  term_written = (
    λ z.
        let w = words.written v N t room (told_accepts (write_term v N t room) r after p z) in
        let k = from_writable v N t w.writable in
        (k.0, k.1, w.fits),
    λ q. accepts_told (write_term v N t room) r after p
        (ap (λ (m : Made). m.refusal) (words.writes v N t room (to_writable v N t q.0 q.1) q.2)),
  )

  pub term_encoded : r.refusal ≡ 0 → (after ≡ laid (term_block v N t) room) × (r.length ≡ length (term_block v N t))
  term_encoded z =
      let q = term_written.0 z in
      told_success (write_term v N t room) r after p (term_block v N t) room
      (words.writes v N t room (to_writable v N t q.0 q.1) q.2)

pub term_accepted : (v : ℕ) (s : List ℕ) → Bytes s → (r : ℕ) → HostTermChecked v s r
    → (r ≡ 0) ↔ (Known v × ((N : ℕ) × (t : Word) × ValidWord N t × (s ≡ term_block v N t)))
term_accepted v s b r p = (
  λ z.
      let q = (words.accepted_iff v s b).0 (number_inj (term_refusal v s) Accepted (sym p ∙ z)) in
      let k = from_writable v q.0 q.1 q.2 in
      (k.0, (q.0, q.1, k.1, q.3)),
  λ q.
      let e = q.1 in
      p ∙ ap number ((words.accepted_iff v s b).1 (e.0, e.1, to_writable v e.0 e.1 q.0 e.2, e.3)),
)

-- In any two versions.
pub term_one : (v z N M : ℕ) (t u : Word) → Known v → Known z → ValidWord N t → ValidWord M u
    → term_block v N t ≡ term_block z M u → (N ≡ M) × (t ≡ u)
term_one v z N M t u k l a b = words.block_unique v z N M t u (to_writable v N t k a) (to_writable z M u l b)

-- The same of a card: its bytes tell its version too.
pub card_accepted : (s : List ℕ) → Bytes s → (r : ℕ) → HostIndexChecked s r
    → (r ≡ 0) ↔ ((ver : ℕ) × (N : ℕ) × (ts : List Word) × (valid_card ver N ts ≡ true) × (s ≡ card ver N ts))
card_accepted s b r p = (
  λ z. (cards.accepted_iff s b).0 (number_inj (index_refusal s) Accepted (sym p ∙ z)),
  λ q. p ∙ ap number ((cards.accepted_iff s b).1 q),
)

pub card_one : (ver z N M : ℕ) (ts us : List Word) → valid_card ver N ts ≡ true → valid_card z M us ≡ true
    → card ver N ts ≡ card z M us → (ver ≡ z) × (N ≡ M) × (ts ≡ us)
card_one = cards.card_unique

-- What closing accepts becomes a card that the check accepts, of that version, N and T, and only the header's bytes are
-- written.
pub closed_accepted : (buffer : List ℕ) (used v N T : ℕ) (r : HostWritten) (after : List ℕ)
    → HostIndexClosed buffer used v N T r after → r.refusal ≡ 0 → (q : ℕ) → HostIndexChecked (take used after) q
    → (q ≡ 0)
    × (r.length ≡ used)
    × (index_v (take used after) ≡ v)
    × (index_n (take used after) ≡ N)
    × (index_t (take used after) ≡ T)
    × (drop index_header after ≡ drop index_header buffer)
closed_accepted buffer used v N T r after p z q c =
    let m = told_accepts (close_index buffer used v N T) r after p z in
    let d = cards.closing buffer used v N T (close_told buffer used v N T m) in
    let e : after ≡ (close_index buffer used v N T).room = ap (λ (t : Told). t.room) p in
    let a : index_refusal (take used after) ≡ Accepted = rw e d.accepts in
    let l : r.length ≡ used = ap (λ (t : Told). t.length) p ∙ close_size buffer used v N T m in
    (c ∙ ap number a, l, rw e d.V-is, rw e d.N-is, rw e d.T-is, rw e d.others_same)

-- "Element by rank, first page at or after a bound, pages common to all words, pages with the phrase: what plain
-- reading of the lists gives."

-- Each question of a run is answered by plain reading of the words, and the answers stand in the room one after the
-- other.
module _ (ver N : ℕ) (ts : List Word) (v : valid_card ver N ts ≡ true)
    (room : List ℕ) (r : HostAsked) (after : List ℕ) where
  pub run_answered : (qs : List Query) → Good (length ts) qs → HostAnswered (card ver N ts) (written qs) room r after
      → length (joined (plain_all ver N ts qs)) ≤ length room
      → (r.refusal ≡ 0)
      × (r.answered ≡ length qs)
      × (r.used ≡ length (joined (plain_all ver N ts qs)))
      × (after ≡ laid (joined (plain_all ver N ts qs)) room)
  unfolding formed answers_to
  run_answered qs g p h =
      let k = plain_answers ver N ts v qs g in
      let f : well_formed (index_t (card ver N ts)) (length (written qs)) (written qs) ≡ true =
      rw (states_T ver N ts v) (written_formed (length ts) qs g) in
      let a = all_reply (card ver N ts) (written qs) (length room) (cards.card_accepted ver N ts v, f) (rw k h) in
      let t = reads (card ver N ts) (written qs) room r after p in (
        t.refusal ∙ rw a,
        t.answered ∙ rw (a, k) (length_plain ver N ts qs),
        t.used ∙ rw (a, k),
        t.left ∙ rw (a, k),
      )

  -- A run of one question.
  pub one_answered : (q : Query) → good_question (length ts) q.kind q.numbers ≡ true
      → HostAnswered (card ver N ts) (q.kind ∷ (length q.numbers ∷ q.numbers)) room r after
      → length (plain ver N ts q) ≤ length room
      → (r.refusal ≡ 0) × (r.used ≡ length (plain ver N ts q)) × (after ≡ laid (plain ver N ts q) room)
  unfolding written plain_all joined
  one_answered q g p h =
      let e = append-nil q.numbers in
      let n = append-nil (plain ver N ts q) in
      let t = run_answered (q ∷ []) (g, tt) (rw e p) (rw n h) in
      (t.0, rw n at t.2, rw n at t.3)

  -- Kind 1: the page of that rank, or 0 where the word has no such page.
  pub by_rank : (t rank : ℕ) → t < length ts
      → HostAnswered (card ver N ts) (1 ∷ (2 ∷ (t ∷ (rank ∷ [])))) room r after → 2 ≤ length room
      → (r.refusal ≡ 0)
      × (rank < length (pages_at ts t) → after ≡ laid (1 ∷ (get_or (pages_at ts t) rank 0 ∷ [])) room)
      × (length (pages_at ts t) ≤ rank → after ≡ laid (0 ∷ []) room)
  unfolding plain good_question pair_good
  by_rank t rank h p l =
      let xs = pages_at ts t in
      let q : Query = record { kind = 1; numbers = t ∷ (rank ∷ []) } in
      let a = one_answered q (rw (lt-ltb t (length ts) h)) p (omega (arith, rank_length xs rank)) in (
        a.0,
        λ k. a.2 ∙ ap (λ (c : List ℕ). laid c room) (rank_in xs rank k),
        λ k. a.2 ∙ ap (λ (c : List ℕ). laid c room) (rank_past xs rank k),
      )

  -- The answer c of a question for a bound.
  bound_answered : (t b : ℕ) → t < length ts → HostAnswered (card ver N ts) (2 ∷ (2 ∷ (t ∷ (b ∷ [])))) room r after
      → (c : List ℕ) → by_bound (pages_at ts t) b ≡ c → length c ≤ length room → (r.refusal ≡ 0) × (after ≡ laid c room)
  unfolding plain good_question pair_good
  bound_answered t b h p c e l =
      let q : Query = record { kind = 2; numbers = t ∷ (b ∷ []) } in
      let a = one_answered q (rw (lt-ltb t (length ts) h)) p (rw e l) in
      (a.0, a.2 ∙ ap (λ (c : List ℕ). laid c room) e)

  -- Kind 2: the first page at or after the bound with its rank; or the number of all pages where there is none, for
  -- which two numbers of room are enough.
  pub by_bound_lem : (t b : ℕ) → t < length ts → HostAnswered (card ver N ts) (2 ∷ (2 ∷ (t ∷ (b ∷ [])))) room r after
      → ((i : ℕ) → i < length (pages_at ts t) → b ≤ get_or (pages_at ts t) i 0
      → ((j : ℕ) → j < i → get_or (pages_at ts t) j 0 < b) → 3 ≤ length room
      → (r.refusal ≡ 0) × (after ≡ laid (2 ∷ (get_or (pages_at ts t) i 0 ∷ (i ∷ []))) room))
      × (((j : ℕ) → j < length (pages_at ts t) → get_or (pages_at ts t) j 0 < b) → 2 ≤ length room
      → (r.refusal ≡ 0) × (after ≡ laid (1 ∷ (length (pages_at ts t) ∷ [])) room))
  by_bound_lem t b h p =
      let xs = pages_at ts t in (
        λ i k m n. bound_answered t b h p (2 ∷ (get_or xs i 0 ∷ (i ∷ []))) (bound_at b xs i k m n),
        λ n. bound_answered t b h p (1 ∷ (length xs ∷ [])) (bound_none b xs n),
      )

  -- Found or not, the last number of its answer is how many pages of the word lie below the bound.
  pub pages_below_lem : (t b : ℕ) → t < length ts → HostAnswered (card ver N ts) (2 ∷ (2 ∷ (t ∷ (b ∷ [])))) room r after
      → 3 ≤ length room → last_of after ≡ below b (pages_at ts t)
  pages_below_lem t b h p l =
      let xs = pages_at ts t in
      let a = bound_answered t b h p (by_bound xs b) refl (omega (arith, bound_length xs b)) in
      ap last_of a.1 ∙ bound_last b N xs (pages_rise ver N ts v t h) room

  -- One to eight words, each by its number.
  module _ (terms : List ℕ) (some : 1 ≤ length terms) (few : length terms ≤ 8)
      (below : all_below (length ts) terms ≡ true) where
    -- Kind 4: the pages with the phrase, each with its starts: each word stands at the start plus its offset. The first
    -- offset is 0, and each next is larger, up to 255.
    pub by_phrase_lem : (offsets : List ℕ) → length offsets ≡ length terms → get_or offsets 0 0 ≡ 0
        → rising 0 (offset_limit + 1) offsets ≡ true
        → HostAnswered (card ver N ts) (4 ∷ (2 * length terms ∷ paired terms offsets)) room r after
        → length (by_phrase (phrase_of (named ts terms) offsets)) ≤ length room
        → (r.refusal ≡ 0) × (after ≡ laid (by_phrase (phrase_of (named ts terms) offsets)) room)
    unfolding plain
    by_phrase_lem offsets same first rises p l =
        let q : Query = record { kind = 4; numbers = paired terms offsets } in
        let e = paired_terms terms offsets same in
        let f = paired_offsets terms offsets same in
        let g : good_question (length ts) 4 (paired terms offsets) ≡ true =
        good_phrase (length ts) 4 (paired terms offsets) refl
        ∙ may_pair (length ts) terms offsets same some few below first rises in
        let a = one_answered q g (rw (paired_length terms offsets same) p) (rw (e, f) l) in
        (a.0, rw (e, f) at a.2)

    -- Offsets 0, 1, 2 and so on: the pages by the rule that word i stands at p + i.
    pub in_a_row :
        HostAnswered (card ver N ts) (4 ∷ (2 * length terms ∷ paired terms (stepped (length terms) 0 1))) room r after
        → length (by_row (named ts terms)) ≤ length room
        → (r.refusal ≡ 0) × (after ≡ laid (by_row (named ts terms)) room)
    in_a_row p l =
        let k : ℕ = length terms in
        let n : length (named ts terms) ≡ k = length_named ts terms in
        let e : by_phrase (phrase_of (named ts terms) (stepped k 0 1)) ≡ by_row (named ts terms) =
        rw n at (row_answer (named ts terms)) in
        let rises = rising_row k 0 (offset_limit + 1) (omega arith) in
        rw e at (by_phrase_lem (stepped k 0 1) (length_row k 0) (first_row k) rises p (rw e l))

    abbrev ls : List (List ℕ)
    ls = pages_named ts terms

    -- Kind 3: the pages common to all words, behind their number and 2 more, the seeks and the looks.
    pub by_common_lem : HostAnswered (card ver N ts) (3 ∷ (length terms ∷ terms)) room r after
        → length (common_pages ls) + 3 ≤ length room
        → (r.refusal ≡ 0)
        × (after ≡ laid
        ((length (common_pages ls) + 2) ∷ ((common ver N ls).seeks ∷ ((common ver N ls).looks ∷ common_pages ls))) room)
    unfolding plain
    by_common_lem p l =
        let n : length (by_common ver N ls) ≤ length room = rw (common_told ver N ls) (omega arith) in
        let q : Query = record { kind = 3; numbers = terms } in
        let a = one_answered q (may_ask (length ts) terms some few below) p n in
        (a.0, a.2 ∙ ap (λ (c : List ℕ). laid c room) (common_told ver N ls))

-- ---- 3. "For the pages common to k words (1 to 8, the rarest on m pages) the answer's seeks and looks equal the
-- counts of document 01's step rule. Seeks never exceed k·m + 1; looks never exceed the seeks plus the 64-bit words of
-- those lists' upper bits. A word named twice counts as two." A bitmap's words stand for the upper words [02 f].

-- The host reads the seeks and the looks behind the answer's first number.
module _ (ver N : ℕ) (ts : List Word) (v : valid_card ver N ts ≡ true)
    (terms : List ℕ) (some : 1 ≤ length terms) (few : length terms ≤ 8) (below : all_below (length ts) terms ≡ true)
    (room : List ℕ) (r : HostAsked) (after : List ℕ)
    (p : HostAnswered (card ver N ts) (3 ∷ (length terms ∷ terms)) room r after)
    (enough : length (common_pages (pages_named ts terms)) + 3 ≤ length room) where
  abbrev pages : List (List ℕ)
  pages = pages_named ts terms

  told_counts : (get_or after 1 0 ≡ (common ver N pages).seeks) × (get_or after 2 0 ≡ (common ver N pages).looks)
  unfolding laid
  told_counts =
      let a = (by_common_lem ver N ts v room r after terms some few below p enough).1 in
      (ap (λ (l : List ℕ). get_or l 1 0) a, ap (λ (l : List ℕ). get_or l 2 0) a)

  -- They are the step rule's counts, and the rule lists the pages that the answer holds.
  pub counts_equal : (get_or after 1 0 ≡ (common ver N pages).seeks)
      × (get_or after 2 0 ≡ (common ver N pages).looks)
      × ((common ver N pages).listed ≡ common_pages pages)
  counts_equal = (told_counts.0, told_counts.1, common_lists ver N ts v terms some few below)

  -- k·m + 1 for the pages m of each word named, so for the rarest.
  pub seeks_bound : (j : ℕ) → j < length terms
      → get_or after 1 0 ≤ length terms * length (pages_at ts (get_or terms j 0)) + 1
  seeks_bound j h = rw told_counts.0 (seeks_most ver N ts v terms some few below j h)

  pub looks_bound : get_or after 2 0 ≤ get_or after 1 0 + upper_runs ver N pages
  looks_bound = rw (told_counts.0, told_counts.1) (looks_most ver N ts v terms some few below)

  -- One word alone, named k times: each of its k cursors is sought for each of its m pages, and the lead once more.
  pub named_again : (t : ℕ) → terms ≡ replicate (length terms) t
      → get_or after 1 0 ≡ length terms * length (pages_at ts t) + 1
  named_again t e = told_counts.0 ∙ seeks_same ver N ts v terms some few below t e

  -- Neither wraps in the 32-bit number that carries it.
  pub counts_carried : ((common ver N pages).seeks < 2 ^ 32) × ((common ver N pages).looks < 2 ^ 32)
  counts_carried = counts_fit ver N ts v terms some few below

-- The same holds of each answer of kind 3 in a run: it is these numbers.
pub common_in_run : (ver N : ℕ) (ts : List Word) (terms : List ℕ)
    → plain ver N ts (record { kind = 3; numbers = terms })
    ≡ (length (common_pages (pages_named ts terms)) + 2)
    ∷ ((common ver N (pages_named ts terms)).seeks
    ∷ ((common ver N (pages_named ts terms)).looks
    ∷ common_pages (pages_named ts terms)))
unfolding plain
common_in_run ver N ts terms = common_told ver N (pages_named ts terms)

-- A word named twice, anywhere in the question: the rule begins with a cursor for each place, two of them on that
-- word's list, and the 64-bit words of the list stand twice in the bound of the looks.
pub named_twice : (ver N : ℕ) (ts : List Word) (t : ℕ) (a b c : List ℕ)
    → let terms = a ++ (t ∷ (b ++ (t ∷ c))) in
    let ls = pages_named ts terms in
    let others = pages_named ts (a ++ (b ++ c)) in
    let lead = lead_on ver N ls in
    let rest = others_on ver N ls in
    let m = length lead.pages in
    (common ver N ls ≡ rounds (m + 1) (m + 1) N lead rest 0)
    × (length (lead ∷ rest) ≡ length terms)
    × (reading_it (pages_at ts t) (lead ∷ rest) ≡ 2 + times (pages_at ts t) others)
    × (upper_runs ver N ls
    ≡ 2 * upper_words (form_of ver N (length (pages_at ts t))) N (pages_at ts t) + upper_runs ver N others)
unfolding common common_from reader
named_twice ver N ts t a b c =
    let terms : List ℕ = a ++ (t ∷ (b ++ (t ∷ c))) in
    let ls : List (List ℕ) = pages_named ts terms in
    let l = length_lists ts terms in
    let some : 0 < length ls = omega (arith, length-append a (t ∷ (b ++ (t ∷ c)))) in (
      refl,
      begins_length ver N ls some ∙ l,
      begins_times (pages_at ts t) ver N ls some ∙ times_twice ts t a b c,
      runs_twice ver N ts t a b c,
    )
