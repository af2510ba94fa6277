-- `answer_one` hands the numbers to their kind.
use mathlib.Core.Bool.{true, true≢false}
use mathlib.Core.Path.{◌≡◌, sym, ◌∙◌}
use mathlib.Core.List.{List}
use Prim.Native.Nat.{ℕ, ◌<◌}
use native.Mathlib.Omega.{arith}
use lib.ListN.{length, get_or}
use Rattle.rules.specs.Index.{index_t}
use Rattle.rules.specs.Questions.{good_question}
use Rattle.questions.proofs.GoodLaws.{good_pair, good_words, good_phrase, good_unknown, pair_parts}
use Rattle.answer.proofs.KindLaws.{answer_rank, answer_bound, answer_common, answer_phrase}
use Rattle.answer.proofs.answer_one.Goals as goal

-- a term below T, and one number more
pair : (T kind : ℕ) (args : List ℕ) → good_question T kind args ≡ true → 0 < kind → kind < 3
    → (length args ≡ 2) × (get_or args 0 0 < T)
pair T kind args good h k = pair_parts T args (sym (good_pair T kind args h k) ∙ good)

pub bounds-args-0 : goal.bounds-args-0
bounds-args-0 c =
    let h = rw c.in-Some-ByRank.field-0-is at c.in-Some-ByRank.ensures in
    omega (arith, (pair _ _ _ c.requires.1 (omega arith) (omega arith)).0)

pub bounds-args-1 : goal.bounds-args-1
bounds-args-1 c =
    let h = rw c.in-Some-ByRank.field-0-is at c.in-Some-ByRank.ensures in
    omega (arith, (pair _ _ _ c.requires.1 (omega arith) (omega arith)).0)

pub by_rank-requires : goal.by_rank-requires
by_rank-requires c =
    let h = rw c.in-Some-ByRank.field-0-is at c.in-Some-ByRank.ensures in
    (c.requires.0, (pair _ _ _ c.requires.1 (omega arith) (omega arith)).1)

pub returns-in-Some-ByRank : goal.returns-in-Some-ByRank
returns-in-Some-ByRank c =
    let a = c.args in
    let h = rw c.in-Some-ByRank.field-0-is at c.in-Some-ByRank.ensures in
    rw (answer_rank a.card.now a.kind a.args.now (sym h)) c.by_rank.ensures

pub bounds-args-0-in-Some-ByBound : goal.bounds-args-0-in-Some-ByBound
bounds-args-0-in-Some-ByBound c =
    let h = rw c.in-Some-ByBound.field-0-is at c.in-Some-ByBound.ensures in
    omega (arith, (pair _ _ _ c.requires.1 (omega arith) (omega arith)).0)

pub bounds-args-1-in-Some-ByBound : goal.bounds-args-1-in-Some-ByBound
bounds-args-1-in-Some-ByBound c =
    let h = rw c.in-Some-ByBound.field-0-is at c.in-Some-ByBound.ensures in
    omega (arith, (pair _ _ _ c.requires.1 (omega arith) (omega arith)).0)

pub by_bound-requires : goal.by_bound-requires
by_bound-requires c =
    let h = rw c.in-Some-ByBound.field-0-is at c.in-Some-ByBound.ensures in
    (c.requires.0, (pair _ _ _ c.requires.1 (omega arith) (omega arith)).1)

pub returns-in-Some-ByBound : goal.returns-in-Some-ByBound
returns-in-Some-ByBound c =
    let a = c.args in
    let h = rw c.in-Some-ByBound.field-0-is at c.in-Some-ByBound.ensures in
    rw (answer_bound a.card.now a.kind a.args.now (sym h)) c.by_bound.ensures

pub by_common-requires : goal.by_common-requires
by_common-requires c =
    let a = c.args in
    let h = rw c.in-Some-Common.field-0-is at c.in-Some-Common.ensures in
    (c.requires.0, sym (good_words (index_t a.card.now) a.kind a.args.now (sym h)) ∙ c.requires.1)

pub returns-in-Some-Common : goal.returns-in-Some-Common
returns-in-Some-Common c =
    let a = c.args in
    let h = rw c.in-Some-Common.field-0-is at c.in-Some-Common.ensures in
    rw (answer_common a.card.now a.kind a.args.now (sym h)) c.by_common.ensures

pub by_phrase-requires : goal.by_phrase-requires
by_phrase-requires c =
    let a = c.args in
    let h = rw c.in-Some-Phrase.field-0-is at c.in-Some-Phrase.ensures in
    (c.requires.0, sym (good_phrase (index_t a.card.now) a.kind a.args.now (sym h)) ∙ c.requires.1)

pub returns-in-Some-Phrase : goal.returns-in-Some-Phrase
returns-in-Some-Phrase c =
    let a = c.args in
    let h = rw c.in-Some-Phrase.field-0-is at c.in-Some-Phrase.ensures in
    rw (answer_phrase a.card.now a.kind a.args.now (sym h)) c.by_phrase.ensures

-- a number that no kind has is none of a question that may be asked
pub unreachable-requires : goal.unreachable-requires
unreachable-requires c =
    true≢false (sym c.requires.1 ∙ good_unknown (index_t c.args.card.now) c.args.kind c.args.args.now c.in-None.ensures)
