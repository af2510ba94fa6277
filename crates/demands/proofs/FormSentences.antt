-- What the customer asks of dense words, sentence by sentence [02 f]; Refusals.antt has the refusals, and the bounds of
-- demand 3 are those of Demands.antt and ScreenSentences.antt, for any mix of forms. Like those, the theorems are of
-- any result that the promise of an exported call allows, and of nothing else of the program. FormWitnesses.antt shows
-- that the premises can be met.
use mathlib.Core.Bool.{Bool, true, false, cond}
use mathlib.Core.Logic.{◌↔◌, inl, inr}
use mathlib.Core.Path.{◌≡◌, refl, sym, ap, ap₂, ◌∙◌}
use mathlib.Core.List.{List, [], ◌∷◌, ◌++◌}
use Prim.Native.Nat.{ℕ, ◌+◌, ◌*◌, ◌<◌}
use native.Mathlib.Decide.{ℕ_discrete}
use native.Mathlib.Omega.{arith}
use borrow.Author.Tests.{ne_eqb}
use lib.Dec.{eqb}
use lib.ListN.{length, get_or, set, take, length-set}
use Rattle.rules.specs.Verdict.{Accepted}
use Rattle.rules.specs.Refusal.{number}
use Rattle.rules.specs.Limits.{version}
use Rattle.rules.specs.List.{width, zeros, form_of}
use Rattle.rules.specs.ReadList.{list_u}
use Rattle.rules.specs.Write.{laid}
use Rattle.rules.specs.Term.{Word, term_block}
use Rattle.rules.specs.ReadTerm.{pages_of, read_word, term_refusal}
use Rattle.rules.specs.Index.{index_front, terms, card, valid_card, index_v, index_n, index_t, index_refusal, term_part}
use Rattle.rules.specs.Index.{word_of}
use Rattle.rules.specs.Questions.{good_question, well_formed}
use Rattle.rules.specs.Ask.{fitting, fitted, joined}
use Rattle.laws.proofs.RefusalLaws.{number_inj}
use Rattle.laws.proofs.RoomLaws.{take_laid}
use Rattle.listlaws.proofs.RefusalLaws.{alone_framed, part_framed}
use Rattle.maplaws.proofs.Theorems.{part_length}
use Rattle.termlaws.proofs.Theorems.{block_accepted, block_tells, accepted_lists}
use Rattle.cardlaws.proofs.Theorems.{card_accepted, accepted_term}
use Rattle.questions.specs.Formed.{formed, answers_to}
use Rattle.questions.proofs.GoodLaws.{good_words, words_parts}
use Rattle.telling.specs.declared.HostWritten.{HostWritten}
use Rattle.telling.specs.declared.HostAsked.{HostAsked}
use Rattle.telling.specs.declared.HostScreened.{HostScreened}
use Rattle.telling.specs.Told.{Seen}
use Rattle.hostlaws.specs.Host.{HostTermChecked, HostTermWritten, HostIndexChecked, HostAnswered, HostScreenShown}
use Rattle.demands.specs.Asking.{Query, written, Good, pages_named, plain, plain_all}
use Rattle.demands.specs.Forms.{aside, asides, Stored, old_term, old_terms, old_card}
use Rattle.demands.proofs.WriteLaws.{to_writable}
use Rattle.demands.proofs.FormLaws.{version_when}
use Rattle.demands.proofs.AskLaws.{Reads, fits, reply_passed, reads, written_formed}
use Rattle.demands.proofs.SizeLaws.{Sizes, sizes_length, sizes_joined, sizes_fitting}
use Rattle.demands.proofs.KindLaws.{states_T, plain_answers, common_told, common_same_seeks}
use Rattle.demands.proofs.SameScreenLaws.{screens_alike}
use Rattle.demands.proofs.Demands.{term_written, term_encoded}
use Rattle.demands.proofs.Refusals.{ask_question}

-- ---- "blocks and cards of version 1 are byte for byte what they were"

pub first_term : (N : ℕ) (t : Word) → term_block 1 N t ≡ old_term N t
unfolding term_block old_term form_of
first_term N t = refl

first_terms : (N : ℕ) (ts : List Word) → terms 1 N ts ≡ old_terms N ts
unfolding terms old_terms
first_terms N [] = refl
first_terms N (t ∷ ts) = ap₂ ◌++◌ (first_term N t) (first_terms N ts)

pub first_card : (N : ℕ) (ts : List Word) → card 1 N ts ≡ old_card N ts
unfolding card old_card index_front
first_card N ts = rw (first_terms N ts)

-- ---- "An index of version 2 stores the pages of a word with n at least 1 as a bitmap exactly when n + Z + n·w exceeds
-- the block's U, and otherwise as before; counts and positions never."

accepted_stored : (v : ℕ) (s : List ℕ) → term_refusal v s ≡ Accepted
    → Stored v (list_u (pages_of s)) (length (read_word s).pages) s
unfolding read_word
accepted_stored v s a =
    let l = accepted_lists v s a in
    let x = version_when v _ _ _ (part_framed v (pages_of s) l.pages).0.version_is in
    rw (part_length v (pages_of s) l.pages) (record {
      as_map = x.0;
      as_runs = x.1;
      counts_runs = (alone_framed _ l.counts).0.version_is;
      positions_runs = (alone_framed _ l.positions).0.version_is;
    })

-- Of a term that the check accepts.
pub term_stored : (v : ℕ) (s : List ℕ) (r : ℕ) → HostTermChecked v s r → r ≡ 0
    → Stored v (list_u (pages_of s)) (length (read_word s).pages) s
term_stored v s r p z = accepted_stored v s (number_inj (term_refusal v s) Accepted (sym p ∙ z))

-- Of each term of an index that the check accepts.
pub index_stored : (s : List ℕ) (r : ℕ) → HostIndexChecked s r → r ≡ 0 → (t : ℕ) → t < index_t s
    → Stored (index_v s) (index_n s) (length (word_of t s).pages) (term_part t s)
unfolding word_of
index_stored s r p z t h =
    let i = accepted_term s (number_inj (index_refusal s) Accepted (sym p ∙ z)) t h in
    rw i.same_N at (accepted_stored (index_v s) (term_part t s) i.accepts)

-- Of a word that is written.
pub write_stored : (v N : ℕ) (t : Word) (room : List ℕ) (r : HostWritten) (after : List ℕ)
    → HostTermWritten v N t room r after → r.refusal ≡ 0 → Stored v N (length t.pages) (take r.length after)
write_stored v N t room r after p z =
    let b : List ℕ = term_block v N t in
    let q = (term_written v N t room r after p).0 z in
    let w = to_writable v N t q.0 q.1 in
    let e = term_encoded v N t room r after p z in
    let i = block_tells b v N t w refl in
    rw (e.1, e.0, take_laid b room) (rw (← i.0, ← i.1) at (accepted_stored v b (block_accepted v N t w)))

-- "An index of version 1 holds only the old form."
pub first_stored : (N n : ℕ) (s : List ℕ) → Stored 1 N n s → get_or (pages_of s) 4 0 ≡ version
first_stored N n s x = x.as_runs.1 (inl (omega arith))

-- "Equality keeps the old form", in every version.
pub equal_stored : (v N n : ℕ) (s : List ℕ) → Stored v N n s → n + zeros N (width N n) + n * width N n ≡ N
    → get_or (pages_of s) 4 0 ≡ version
equal_stored v N n s x e = x.as_runs.1 (inr (λ d. omega (arith, d.1, e)))

-- ---- "One statement covers both forms: the same list in either form gives the same answers and seeks, looks aside."

-- The answers of kinds 1, 2 and 4 do not know the version.
pub others_same : (ver z N : ℕ) (ts : List Word) (q : Query) → (q.kind ≡ 3 → ⊥) → plain ver N ts q ≡ plain z N ts q
unfolding plain
others_same ver z N ts q n = rw (ne_eqb q.kind 3 n)

-- The same words in a card of one version and in one of another.
module _ (ver z N : ℕ) (ts : List Word) (v : valid_card ver N ts ≡ true) (w : valid_card z N ts ≡ true) where
  -- Each answer of a run but for its looks: the pages, and the seeks of kind 3.
  pub same_answer : (q : Query) → good_question (length ts) q.kind q.numbers ≡ true
      → aside q (plain ver N ts q) ≡ aside q (plain z N ts q)
  unfolding aside plain
  same_answer q g = elim (ℕ_discrete q.kind 3) [
    | yes e ↦
        let p = words_parts (length ts) q.numbers (sym (good_words (length ts) q.kind q.numbers e) ∙ g) in
        let ls : List (List ℕ) = pages_named ts q.numbers in
        let s = common_same_seeks ver N ts v q.numbers p.0 p.1 p.2 z in
        rw (e, common_told ver N ls, common_told z N ls, s)
    | no n ↦ ap (aside q) (others_same ver z N ts q n)
  ]

  aside_length : (q : Query) (a : List ℕ) → length (aside q a) ≡ length a
  unfolding aside
  aside_length q a = go (eqb q.kind 3)
    where
      go : (b : Bool) → length (cond b (set a 2 0) a) ≡ length a
      go true = length-set a 2 0
      go false = refl

  pub same_answers : (qs : List Query) → Good (length ts) qs
      → asides qs (plain_all ver N ts qs) ≡ asides qs (plain_all z N ts qs)
  unfolding asides plain_all
  same_answers [] g = refl
  same_answers (q ∷ qs) g = ap₂ ◌∷◌ (same_answer q g.0) (same_answers qs g.1)

  same_sizes : (qs : List Query) → Good (length ts) qs → Sizes (plain_all ver N ts qs) (plain_all z N ts qs)
  unfolding plain_all
  same_sizes [] g = tt
  same_sizes (q ∷ qs) g = (
    sym (aside_length q (plain ver N ts q)) ∙ ap length (same_answer q g.0) ∙ aside_length q (plain z N ts q),
    same_sizes qs g.1,
  )

  -- A run of questions with any room: the same numbers are told, and the rooms begin with these answers, of which as
  -- many fit.
  module _ (qs : List Query) (g : Good (length ts) qs) (room : List ℕ) (r r' : HostAsked) (after after' : List ℕ)
      (p : HostAnswered (card ver N ts) (written qs) room r after)
      (p' : HostAnswered (card z N ts) (written qs) room r' after') where
    abbrev n : ℕ
    n = length room

    read : (x : ℕ) (a : valid_card x N ts ≡ true) (h : HostAsked) (left : List ℕ)
        → HostAnswered (card x N ts) (written qs) room h left → Reads h room left (fitted n (plain_all x N ts qs))
    unfolding formed answers_to
    read x a h left q =
        let f : well_formed (index_t (card x N ts)) (length (written qs)) (written qs) ≡ true =
        rw (states_T x N ts a) (written_formed (length ts) qs g) in
        let e = reply_passed (card x N ts) (written qs) n (card_accepted x N ts a, f) in
        rw (← plain_answers x N ts a qs g, ← e) (reads (card x N ts) (written qs) room h left q)

    pub same_run : (r ≡ r')
        × (after ≡ laid (joined (take r.answered (plain_all ver N ts qs))) room)
        × (after' ≡ laid (joined (take r.answered (plain_all z N ts qs))) room)
    unfolding fitted
    same_run =
        let xs : List (List ℕ) = plain_all ver N ts qs in
        let ys : List (List ℕ) = plain_all z N ts qs in
        let a = read ver v r after p in
        let b = read z w r' after' p' in
        let s = same_sizes qs g in
        let t = sizes_fitting xs ys s n in
        let k = sizes_length (fitting n xs) (fitting n ys) t in
        let l = sizes_length xs ys s in
        let number_same : r.refusal ≡ r'.refusal = a.refusal ∙ rw (k, l) (sym b.refusal) in
        let answered-same : r.answered ≡ r'.answered = a.answered ∙ k ∙ sym b.answered in
        let used-same : r.used ≡ r'.used = a.used ∙ sizes_joined (fitting n xs) (fitting n ys) t ∙ sym b.used in (
          λ i. record { refusal = number_same i; answered = answered-same i; used = used-same i },
          a.left ∙ ap (λ (l : List (List ℕ)). laid (joined l) room) (fits xs n).first
              ∙ rw a.answered,
          b.left ∙ ap (λ (l : List (List ℕ)). laid (joined l) room) (fits ys n).first
              ∙ rw (a.answered, k),
        )

  -- Bad questions are 8 of both.
  pub same_bad : (qs room : List ℕ) (r r' : HostAsked) (after after' : List ℕ)
      → HostAnswered (card ver N ts) qs room r after → HostAnswered (card z N ts) qs room r' after'
      → (r.refusal ≡ 8) ↔ (r'.refusal ≡ 8)
  same_bad qs room r r' after after' p p' =
      let a = ask_question (card ver N ts) qs room r after p 0 (ap number (sym (card_accepted ver N ts v))) in
      let b = ask_question (card z N ts) qs room r' after' p' 0 (ap number (sym (card_accepted z N ts w))) in
      let t : index_t (card ver N ts) ≡ index_t (card z N ts) = states_T ver N ts v ∙ sym (states_T z N ts w) in (
        λ e. b.1 (refl, rw (← t) (a.0 e).1),
        λ e. a.1 (refl, rw t (b.0 e).1),
      )

  -- The same screen of both, its looks aside: whatever is asked, and whatever rooms are lent.
  pub same_screen : (b n : ℕ) (terms pages counts : List ℕ) (x y : HostScreened)
      (pages' counts' pages'' counts'' : List ℕ)
      → HostScreenShown (card ver N ts) b n terms pages counts x pages' counts'
      → HostScreenShown (card z N ts) b n terms pages counts y pages'' counts''
      → (x ≡ y) × (pages' ≡ pages'') × ((i : ℕ) → (i ≡ 1 → ⊥) → get_or counts' i 0 ≡ get_or counts'' i 0)
  same_screen b n terms pages counts x y pages' counts' pages'' counts'' p q =
      let a = screens_alike ver z N ts v w b n terms pages counts in
      let refusal-same =
      ap (λ (s : Seen). s.refusal) p ∙ ap number a.refusal ∙ sym (ap (λ (s : Seen). s.refusal) q) in
      let found-same = ap (λ (s : Seen). s.found) p ∙ a.found ∙ sym (ap (λ (s : Seen). s.found) q) in
      let full-same = ap (λ (s : Seen). s.full) p ∙ a.full ∙ sym (ap (λ (s : Seen). s.full) q) in
      let next-same = ap (λ (s : Seen). s.next) p ∙ a.next ∙ sym (ap (λ (s : Seen). s.next) q) in (
        λ i. record { refusal = refusal-same i; found = found-same i; full = full-same i; next = next-same i },
        ap (λ (s : Seen). s.pages) p ∙ a.pages ∙ sym (ap (λ (s : Seen). s.pages) q),
        λ i h. ap (λ (s : Seen). get_or s.counts i 0) p ∙ a.counts i h
            ∙ sym (ap (λ (s : Seen). get_or s.counts i 0) q),
      )
