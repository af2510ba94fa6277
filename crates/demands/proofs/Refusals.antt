-- Refusals exactly when: of each exported call, the number that it gives is that of the first of document 01's
-- sentences that holds, and 0 where none does; a check's promise says this and no more. The sentences, in document
-- 01's order, are in specs/Sentences.antt, and what each says in specs/Faults.antt and specs/BadQuestions.antt.
-- FirstLaws.antt turns each theorem into "exactly when": `first_exactly` for any number, `first_none` for 0, and
-- `first_place` for another, of which a sentence holds and none before it does. Like those of Demands.antt, the
-- theorems are of any result that the promise of the call allows, and of nothing else of the program.
use mathlib.Core.Bool.{Bool, true, false, not}
use mathlib.Core.Logic.{◌↔◌, inl, inr}
use mathlib.Core.Path.{◌≡◌, refl, sym, ap, ◌∙◌}
use mathlib.Core.List.{List, [], ◌∷◌, ◌++◌}
use Prim.Native.Nat.{ℕ, ◌≤◌, ◌<◌}
use native.Mathlib.Omega.{arith}
use lib.ListN.{length}
use Rattle.rules.specs.Verdict.{Question, Room}
use Rattle.rules.specs.Refusal.{number}
use Rattle.rules.specs.Limits.{limit}
use Rattle.rules.specs.List.{valid_list}
use Rattle.rules.specs.ReadList.{list_refusal}
use Rattle.rules.specs.Write.{write_list}
use Rattle.rules.specs.Term.{Word, write_term}
use Rattle.rules.specs.ReadTerm.{term_refusal}
use Rattle.rules.specs.Index.{index_t, index_refusal, close_index}
use Rattle.rules.specs.Questions.{well_formed, replies}
use Rattle.rules.specs.Ask.{joined}
use Rattle.telling.specs.declared.HostWritten.{HostWritten}
use Rattle.telling.specs.declared.HostAsked.{HostAsked}
use Rattle.hostlaws.specs.Host.{HostListChecked, HostListWritten, HostTermChecked, HostTermWritten}
use Rattle.hostlaws.specs.Host.{HostIndexChecked, HostIndexClosed, HostAnswered}
use Rattle.demands.specs.Faults.{OutOfOrder, NotBelow}
use Rattle.demands.specs.BadQuestions.{SomeBad}
use Rattle.demands.specs.Sentences.{Sentence, ◌when◌, First, list_sentences, term_sentences, index_sentences}
use Rattle.demands.specs.Sentences.{list_writing, term_writing, closing, asking}
use Rattle.demands.proofs.FirstLaws.{None, first_unique, first_exactly, first_none, first_most}
use Rattle.demands.proofs.FirstLaws.{first_stay, first_skip, first_append}
use Rattle.demands.proofs.WriteLaws.{is_refusal, close_gives}
use Rattle.demands.proofs.SentenceLaws.{list_first, term_first, index_first, close_first, index_refuses}
use Rattle.demands.proofs.FaultLaws.{valid_is, list_writing_lem, term_writing_lem}
use Rattle.demands.proofs.BadLaws.{tests_bad}
use Rattle.demands.proofs.AskLaws.{reads, reply_first}

-- ---- the checks

-- a check that gives q, the first's number, gives r exactly when that is the first's number
checked : (ps : List Sentence) (q r : ℕ) → First q ps → (r ≡ q) ↔ First r ps
checked ps q r f =
    let e = first_exactly ps q f r in
    (λ p. e.0 (sym p), λ g. sym (e.1 g))

-- "Order: 1, 2, 3, 4, 5, 6 in a list."
pub list_check_first : (s : List ℕ) (r : ℕ) → HostListChecked s r ↔ First r (list_sentences s)
list_check_first s r = checked (list_sentences s) (number (list_refusal s)) r (list_first s)

-- "In a container its own 1 to 4, then each part in order with all its checks, then bytes left over (5). A term's own
-- 7 comes after its 5;" and of a list in it "A form in the wrong place .. is 3, given after 4 and after n above U but
-- before the length is compared".
pub term_check_first : (v : ℕ) (s : List ℕ) (r : ℕ) → HostTermChecked v s r ↔ First r (term_sentences v s)
term_check_first v s r = checked (term_sentences v s) (number (term_refusal v s)) r (term_first v s)

-- "pages U against N is tested when that term has passed. The first one found is the answer."
pub index_check_first : (s : List ℕ) (r : ℕ) → HostIndexChecked s r ↔ First r (index_sentences s)
index_check_first s r = checked (index_sentences s) (number (index_refusal s)) r (index_first s)

-- The valid lists of which 6 and 7 speak: in order, and below a U within its limit.
pub valid_plainly : (U : ℕ) (xs : List ℕ)
    → (valid_list U xs ≡ true) ↔ ((U ≤ limit) × (OutOfOrder xs → ⊥) × (NotBelow U xs → ⊥))
valid_plainly = valid_is

-- ---- the writers and closing

-- "Writer of a list ..: 4 if U is over; 10 if it is out of order (equal neighbours are) or not below U; 9."
pub list_write_first : (U : ℕ) (xs room : List ℕ) (r : HostWritten) (after : List ℕ)
    → HostListWritten U xs room r after → First r.refusal (list_writing U xs room)
list_write_first U xs room r after p =
    rw (is_refusal (write_list U xs room) r after p) (list_writing_lem room U xs)

-- "Writer of a term ..: 4 if N is over; 10 if lengths disagree, a page is out of order or not below N, a count is 0,
-- the counts don't sum to the number of positions, or positions are out of order in a page; 4 if the positions' U is
-- over; 9." And before them, for an unknown version, 3.
pub term_write_first : (v N : ℕ) (t : Word) (room : List ℕ) (r : HostWritten) (after : List ℕ)
    → HostTermWritten v N t room r after → First r.refusal (term_writing v N t room)
term_write_first v N t room r after p =
    rw (is_refusal (write_term v N t room) r after p) (term_writing_lem room v N t)

-- "Closing an index: .. 9 if the used length is above the buffer, 1 if it is below 11, 4 if the length doesn't fit
-- four bytes or N or T is over, then the terms as in reading." And "an unknown one is 3, .. after 9 and 1".
pub close_index_first : (buffer : List ℕ) (used v N T : ℕ) (r : HostWritten) (after : List ℕ)
    → HostIndexClosed buffer used v N T r after → First r.refusal (closing buffer used v N T)
close_index_first buffer used v N T r after p =
    let e = is_refusal (close_index buffer used v N T) r after p ∙ ap number (close_gives buffer used v N T) in
    rw e (close_first buffer used v N T)

-- ---- a run of questions

-- A question is bad in document 01's words exactly where the definitions find the run not well formed.
pub bad_exactly : (T : ℕ) (qs : List ℕ) → (well_formed T (length qs) qs ≡ false) ↔ SomeBad T qs
bad_exactly T qs = (λ e. (tests_bad T qs).0 (ap not e), λ b. go b (well_formed T (length qs) qs) refl)
  where
    go : SomeBad T qs → (w : Bool) → well_formed T (length qs) qs ≡ w → w ≡ false
    go b true e = absurd ((tests_bad T qs).1 (ap not e) b)
    go b false e = refl

module _ (s qs room : List ℕ) (r : HostAsked) (after : List ℕ) (p : HostAnswered s qs room r after) where
  -- "The card is checked first, then all questions: an unknown kind, a wrong c, a term not below T or a question cut
  -- short is 8. .. If an answer doesn't fit whole in what room is left, 9 is returned"
  pub ask_first : First r.refusal (asking s qs room)
  ask_first = rw (reads s qs room r after p).refusal (reply_first s qs room)

  -- k is the number that the check gives the same bytes
  module _ (k : ℕ) (c : HostIndexChecked s k) where
    abbrev answers_length : ℕ
    answers_length = length (joined (replies s (length qs) qs))

    -- the sentences behind the card's
    abbrev later : List Sentence
    later = Question when SomeBad (index_t s) qs ∷ Room when (length room < answers_length) ∷ []

    -- where another number is the first's, it is what the call gives
    is_given : (j : ℕ) → First j (index_sentences s ++ later) → r.refusal ≡ j
    is_given j f = first_unique (asking s qs room) r.refusal j ask_first f

    passed : k ≡ 0 → None (index_sentences s)
    passed z = (first_none 7 (index_sentences s) (index_refuses s)).0 (rw z at ((index_check_first s k).0 c))

    -- a number above the card's own comes from the sentences behind them, and the card was accepted
    behind_card : 7 < r.refusal → (k ≡ 0) × First r.refusal later
    behind_card h = elim ((first_append later r.refusal 7 (index_sentences s) (index_refuses s)).0 ask_first) [
      | inl a ↦ absurd (omega (arith, first_most 7 (index_sentences s) r.refusal (index_refuses s) a.0))
      | inr a ↦ (
        first_unique (index_sentences s) k 0 ((index_check_first s k).0 c)
            ((first_none 7 (index_sentences s) (index_refuses s)).1 a.0),
        a.1,
      )
    ]

    -- A refused card's number is the check's own.
    pub ask_card : (k ≡ 0 → ⊥) → r.refusal ≡ k
    ask_card n = is_given k (first_stay later k (index_sentences s) n ((index_check_first s k).0 c))

    -- 8 exactly when the card is accepted and some question is bad.
    pub ask_question : (r.refusal ≡ number Question) ↔ ((k ≡ 0) × SomeBad (index_t s) qs)
    unfolding First
    ask_question = (
      λ e.
          let b = behind_card (omega arith) in
          elim b.1 [
            | inl a ↦ (b.0, a.0)
            | inr a ↦ elim a.1 [ inl d ↦ absurd (omega (arith, d.1)) | inr d ↦ absurd (omega (arith, d.1)) ]
          ],
      λ b. is_given 8 (first_skip later 8 (index_sentences s) (passed b.0) (inl (b.1, refl))),
    )

    -- 9 exactly when all is well and the answers do not all fit.
    pub ask_full : (r.refusal ≡ number Room)
        ↔ ((k ≡ 0) × (SomeBad (index_t s) qs → ⊥) × (length room < answers_length))
    unfolding First
    ask_full = (
      λ e.
          let b = behind_card (omega arith) in
          elim b.1 [
            | inl a ↦ absurd (omega (arith, a.1))
            | inr a ↦ elim a.1 [ inl d ↦ (b.0, a.0, d.0) | inr d ↦ absurd (omega (arith, d.1)) ]
          ],
      λ b. is_given 9 (first_skip later 9 (index_sentences s) (passed b.0) (inr (b.1, inl (b.2, refl)))),
    )
