-- What can be wrong with a question, in the words of document 01 and of request b: "an unknown kind, a wrong c, a term
-- not below T or a question cut short is 8" [01 Questions], and "the first offset is 0, offsets rise strictly, none is
-- above 255, and there are 1 to 8 pairs, so c is twice their number; anything else is 8" [02 b]. T words are asked; qs
-- are the numbers of a run from one question on.
--
--   UnknownKind qs    "an unknown kind"
--   WrongCount qs     "a wrong c": not 2 in kinds 1 and 2, not 1 to 8 in kind 3, not twice 1 to 8 in kind 4
--   terms_asked qs     the terms of the first question: of kinds 1 and 2 the first number, of kind 3 each, of kind 4 the
--                     first of each pair
--   TermPast T qs     "a term not below T"
--   OffsetFault ds    the first of the offsets ds is not 0, one is not above the one before it, or one is above 255
--   WrongOffset qs    so it is in kind 4
--   CutShort qs       "a question cut short"
--   Bad T qs          one of these is wrong with the first question of qs
--   question_at i qs   the run from question number i on
--   SomeBad T qs      some question is bad
use Rattle.std.specs.Prelude.{cond, ◌⊎◌, ◌≡◌, List, ℕ, zero, suc, ◌+◌, ◌*◌, ◌≤◌, ◌<◌, leb, eqb, length, get_or, take}
use Rattle.rules.specs.Limits.{phrase_limit, offset_limit}
use Rattle.rules.specs.Questions.{terms_of, offsets_of, kind_of, count_of, args_of, behind}
use Rattle.demands.specs.Faults.{OutOfOrder, NotBelow}

abbrev pub UnknownKind : List ℕ → Type 0
UnknownKind qs = (kind_of qs < 1) ⊎ (4 < kind_of qs)

abbrev pub WrongCount : List ℕ → Type 0
WrongCount qs =
    ((kind_of qs ≤ 2) × (count_of qs ≡ 2 → ⊥))
    ⊎ (((kind_of qs ≡ 3) × ((count_of qs < 1) ⊎ (phrase_limit < count_of qs)))
    ⊎ ((kind_of qs ≡ 4) × ((k : ℕ) → 1 ≤ k → k ≤ phrase_limit → count_of qs ≡ 2 * k → ⊥)))

abbrev pub terms_asked : List ℕ → List ℕ
terms_asked qs =
    cond (leb (kind_of qs) 2) (take 1 (args_of qs)) (cond (eqb (kind_of qs) 3) (args_of qs) (terms_of (args_of qs)))

abbrev pub TermPast : ℕ → List ℕ → Type 0
TermPast T qs = NotBelow T (terms_asked qs)

abbrev pub OffsetFault : List ℕ → Type 0
OffsetFault ds = ((0 < length ds) × (get_or ds 0 0 ≡ 0 → ⊥)) ⊎ (OutOfOrder ds ⊎ NotBelow (offset_limit + 1) ds)

abbrev pub WrongOffset : List ℕ → Type 0
WrongOffset qs = (kind_of qs ≡ 4) × OffsetFault (offsets_of (args_of qs))

abbrev pub CutShort : List ℕ → Type 0
CutShort qs = length qs < 2 + count_of qs

abbrev pub Bad : ℕ → List ℕ → Type 0
Bad T qs = UnknownKind qs ⊎ (WrongCount qs ⊎ (TermPast T qs ⊎ (WrongOffset qs ⊎ CutShort qs)))

abbrev pub question_at : ℕ → List ℕ → List ℕ
question_at zero qs = qs
question_at (suc i) qs = question_at i (behind qs)

abbrev pub SomeBad : ℕ → List ℕ → Type 0
SomeBad T qs = (i : ℕ) × (0 < length (question_at i qs)) × Bad T (question_at i qs)
