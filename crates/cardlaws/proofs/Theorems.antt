-- The theorems of an index of many words, each in a sentence.
use mathlib.Core.Bool.{true}
use mathlib.Core.Logic.{◌↔◌}
use mathlib.Core.Path.{◌≡◌, refl, sym, ap, ◌∙◌}
use mathlib.Core.List.{List}
use Prim.Native.Nat.{ℕ, ◌≤◌, ◌<◌}
use lib.ListN.{length, get_or, take, drop}
use Rattle.rules.specs.Verdict.{Accepted}
use Rattle.rules.specs.Bytes.{Bytes}
use Rattle.rules.specs.Limits.{index_header}
use Rattle.rules.specs.Term.{Word, term_block}
use Rattle.rules.specs.ReadTerm.{read_word}
use Rattle.rules.specs.Index.{card, valid_card, index_v, index_n, index_t, term_part, word_of}
use Rattle.rules.specs.Index.{words_of, index_refusal, close_refusal, close_index}
use Rattle.laws.proofs.ByteLaws.{bytes_drop}
use Rattle.laws.proofs.PartLaws.{bytes_part}
use Rattle.termlaws.specs.Words.{Writable}
use Rattle.termlaws.proofs.Theorems.{accepted_writable, accepted_block}
use Rattle.cardlaws.specs.Cards.{term_at, TermIn, Closed}
use Rattle.cardlaws.proofs.PassedLaws.{card_valid, valid_card_lem, passed_accepted}
use Rattle.cardlaws.proofs.PassedLaws.{accepted_passed, accepted_closable}
use Rattle.cardlaws.proofs.WalkLaws.{term_in, term_at_within, term_at_end}
use Rattle.cardlaws.proofs.CardLaws.{card_V, card_N, card_passed, card_part, card_word}
use Rattle.cardlaws.proofs.CardLaws.{card_words, read_valid, read_card}
use Rattle.cardlaws.proofs.CloseLaws.{closed_is, finished_same}

-- ---- a card and its bytes

-- The block of a valid card is accepted.
pub card_accepted : (ver N : ℕ) (ts : List Word) → valid_card ver N ts ≡ true → index_refusal (card ver N ts) ≡ Accepted
card_accepted ver N ts v = passed_accepted (card ver N ts) (card_passed ver N ts (card_valid ver N ts v))

-- A block is that of one valid card alone: its bytes tell the version, N and the words.
pub card_tells : (s : List ℕ) (ver N : ℕ) (ts : List Word) → valid_card ver N ts ≡ true → s ≡ card ver N ts
    → (ver ≡ index_v s) × (N ≡ index_n s) × (ts ≡ words_of s)
card_tells s ver N ts v e =
    let w = card_valid ver N ts v in
    (sym (ap index_v e ∙ card_V ver N ts w), sym (ap index_n e ∙ card_N ver N ts w), sym (ap words_of e ∙ card_words ver N ts w))

-- Two valid cards with one block are one.
pub card_unique : (ver z N M : ℕ) (ts us : List Word) → valid_card ver N ts ≡ true → valid_card z M us ≡ true
    → card ver N ts ≡ card z M us → (ver ≡ z) × (N ≡ M) × (ts ≡ us)
card_unique ver z N M ts us v w e =
    let a = card_tells (card ver N ts) ver N ts v refl in
    let b = card_tells (card ver N ts) z M us w e in
    (a.0 ∙ sym b.0, a.1 ∙ sym b.1, a.2 ∙ sym b.2)

-- Accepted bytes are the block of the valid card that is read of them.
pub accepted_card : (s : List ℕ) → Bytes s → index_refusal s ≡ Accepted
    → (valid_card (index_v s) (index_n s) (words_of s) ≡ true) × (s ≡ card (index_v s) (index_n s) (words_of s))
accepted_card s b a =
    let p = accepted_passed s a in
    (valid_card_lem (index_v s) (index_n s) (words_of s) (read_valid s b p), read_card s b p)

-- Accepted are the blocks of valid cards, and nothing else.
pub accepted_iff : (s : List ℕ) → Bytes s
    → (index_refusal s ≡ Accepted) ↔ ((ver : ℕ) × (N : ℕ) × (ts : List Word) × (valid_card ver N ts ≡ true) × (s ≡ card ver N ts))
accepted_iff s b = (
  λ a. (index_v s, index_n s, words_of s, (accepted_card s b a).0, (accepted_card s b a).1),
  λ p. ap index_refusal p.4 ∙ card_accepted p.0 p.1 p.2 p.3,
)

-- Term number t of a card's bytes is the block of its word number t.
pub card_term : (ver N : ℕ) (ts : List Word) → valid_card ver N ts ≡ true → (d : Word) (t : ℕ) → t < length ts
    → term_part t (card ver N ts) ≡ term_block ver N (get_or ts t d)
card_term ver N ts v d t h = card_part ver N ts (card_valid ver N ts v) d t h

-- Word number t that is read of a card's bytes is its word number t.
pub card_word_of : (ver N : ℕ) (ts : List Word) → valid_card ver N ts ≡ true → (d : Word) (t : ℕ) → t < length ts
    → word_of t (card ver N ts) ≡ get_or ts t d
card_word_of ver N ts v d t h = card_word ver N ts (card_valid ver N ts v) d t h

-- ---- the terms of an accepted index

-- Each term is accepted, has the index's N, and lies within the bytes from where it starts.
pub accepted_term : (s : List ℕ) → index_refusal s ≡ Accepted → (t : ℕ) → t < index_t s → TermIn t s
accepted_term s a t h = term_in s (accepted_passed s a) t h

-- The last term ends where the bytes end.
pub accepted_end : (s : List ℕ) → index_refusal s ≡ Accepted → term_at (index_t s) s ≡ length s
accepted_end s a = term_at_end s (accepted_passed s a)

-- Every term starts within the bytes.
pub accepted_within : (s : List ℕ) → index_refusal s ≡ Accepted → (t : ℕ) → t ≤ index_t s → term_at t s ≤ length s
accepted_within s a t h = term_at_within s (accepted_passed s a) t h

-- The word of each term is writable for the index's N.
pub accepted_word : (s : List ℕ) → index_refusal s ≡ Accepted → (t : ℕ) → t < index_t s → Writable (index_v s) (index_n s) (word_of t s)
unfolding word_of
accepted_word s a t h =
    let i = accepted_term s a t h in
    rw i.same_N at (accepted_writable (index_v s) (term_part t s) i.accepts)

-- The bytes of each term are bytes.
pub bytes_term : (s : List ℕ) → Bytes s → (t : ℕ) → Bytes (term_part t s)
unfolding term_part
bytes_term s b t = bytes_part t (drop index_header s) (bytes_drop index_header s b)

-- Each term is the block of its word.
pub accepted_part : (s : List ℕ) → Bytes s → index_refusal s ≡ Accepted → (t : ℕ) → t < index_t s
    → term_part t s ≡ term_block (index_v s) (index_n s) (word_of t s)
unfolding word_of
accepted_part s b a t h =
    let i = accepted_term s a t h in
    accepted_block (index_v s) (term_part t s) (bytes_term s b t) i.accepts
    ∙ ap (λ (n : ℕ). term_block (index_v s) n (read_word (term_part t s))) i.same_N

-- ---- closing

-- What closing accepts becomes an accepted index of that N and T with the terms that lay there.
pub closing : (buffer : List ℕ) (used ver N T : ℕ) → close_refusal buffer used ver N T ≡ Accepted → Closed buffer used ver N T
closing buffer used ver N T e = closed_is buffer used ver N T (accepted_closable buffer used ver N T e)

-- Closing a finished index again changes nothing.
pub closing_again : (buffer : List ℕ) (used : ℕ) → Bytes buffer → used ≤ length buffer
    → index_refusal (take used buffer) ≡ Accepted
    → close_index buffer used (index_v (take used buffer)) (index_n (take used buffer)) (index_t (take used buffer)) ≡ record {
      refusal = Accepted;
      size = used;
      room = buffer;
    }
closing_again buffer used b h a = finished_same buffer used b h (accepted_passed (take used buffer) a)
