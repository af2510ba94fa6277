-- `may_ask` hands the numbers to the test of their kind.
use mathlib.Core.Path.{sym, ◌∙◌}
use native.Mathlib.Omega.{arith}
use Rattle.questions.proofs.GoodLaws.{good_pair, good_words, good_phrase, good_unknown}
use Rattle.questions.proofs.may_ask.Goals as goal

pub returns-in-Some-ByRank : goal.returns-in-Some-ByRank
returns-in-Some-ByRank c =
    let a = c.args in
    let h = rw c.in-Some-ByRank.field-0-is at c.in-Some-ByRank.ensures in
    c.pair_good.ensures ∙ sym (good_pair a.t a.kind a.args.now (omega arith) (omega arith))

pub returns-in-Some-ByBound : goal.returns-in-Some-ByBound
returns-in-Some-ByBound c =
    let a = c.args in
    let h = rw c.in-Some-ByBound.field-0-is at c.in-Some-ByBound.ensures in
    c.pair_good-in-Some-ByBound.ensures ∙ sym (good_pair a.t a.kind a.args.now (omega arith) (omega arith))

pub returns-in-Some-Common : goal.returns-in-Some-Common
returns-in-Some-Common c =
    let a = c.args in
    let h = rw c.in-Some-Common.field-0-is at c.in-Some-Common.ensures in
    c.words_good.ensures ∙ sym (good_words a.t a.kind a.args.now (sym h))

pub returns-in-Some-Phrase : goal.returns-in-Some-Phrase
returns-in-Some-Phrase c =
    let a = c.args in
    let h = rw c.in-Some-Phrase.field-0-is at c.in-Some-Phrase.ensures in
    c.phrase_good.ensures ∙ sym (good_phrase a.t a.kind a.args.now (sym h))

pub returns-in-None : goal.returns-in-None
returns-in-None c = sym (good_unknown c.args.t c.args.kind c.args.args.now c.in-None.ensures)
