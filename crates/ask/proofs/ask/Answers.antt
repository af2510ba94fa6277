-- `ask` checks the card, then the questions, and then answers them.
use mathlib.Core.Bool.{true, false}
use mathlib.Core.Path.{◌≡◌, sym, ap, ◌∙◌}
use mathlib.Core.List.{List}
use Prim.Native.Nat.{ℕ}
use Rattle.std.specs.Prelude.{is_err}
use Rattle.rules.specs.Refusal.{accepted}
use Rattle.rules.specs.Bytes.{be_at}
use Rattle.rules.specs.Index.{index_t, index_refusal}
use Rattle.laws.proofs.RefusalLaws.{accepted_true, accepted_of}
use Rattle.cardlaws.proofs.PassedLaws.{accepted_passed}
use Rattle.questions.specs.Formed.{formed}
use Rattle.ask.proofs.CallLaws.{ask_refused, ask_question, ask_good}
use Rattle.ask.proofs.ask.Goals as goal
use Rattle.ask.proofs.ask.Goals.{Else-is_err, Then-is_err}

pub returns-then-is_err : goal.returns-then-is_err
returns-then-is_err c =
    let a = c.args in
    let v = c.check_index-verdict in
    ask_refused a.card.now a.questions.now a.room.now v.result v.ensures
    (accepted_of v.result true (sym c.is_err.ensures.value ∙ c.if-is_err.true))

-- the card passed
good : (c : Else-is_err) → accepted (index_refusal c.args.card.now) ≡ true
good c =
    let v = c.check_index-verdict in
    ap accepted (sym v.ensures) ∙ accepted_of v.result false (sym c.is_err.ensures.value ∙ c.if-is_err.false)

pub read_u16-t-requires : goal.read_u16-t-requires
read_u16-t-requires c =
    (accepted_passed c.args.card.now (accepted_true (index_refusal c.args.card.now) (good c))).head.header

-- what the test of the questions says
asked_well : (s qs : List ℕ) (t : ℕ) → t ≡ be_at 2 s 9 → formed t qs ≡ formed (index_t s) qs
unfolding index_t
asked_well s qs t e = ap (λ (n : ℕ). formed n qs) e

pub returns-then-not-well_formed : goal.returns-then-not-well_formed
returns-then-not-well_formed c =
    let a = c.args in
    let w = asked_well a.card.now a.questions.now c.read_u16-t.result c.read_u16-t.ensures.0 in
    ask_question a.card.now a.questions.now a.room.now (good (goal.at.returns-then-not-well_formed c).Else-is_err)
    (sym w ∙ sym c.well_formed-2.ensures ∙ c.if-not-well_formed.true)

pub answer_all-requires : goal.answer_all-requires
answer_all-requires c =
    let a = c.args in
    let w = asked_well a.card.now a.questions.now c.read_u16-t.result c.read_u16-t.ensures.0 in (
      accepted_true _ (good (goal.at.answer_all-requires c).Else-is_err),
      sym w ∙ sym c.well_formed-2.ensures ∙ c.if-not-well_formed.false,
    )

pub returns : goal.returns
returns c =
    let a = c.args in
    let w = asked_well a.card.now a.questions.now c.read_u16-t.result c.read_u16-t.ensures.0 in
    c.answer_all.ensures
    ∙ ask_good a.card.now a.questions.now a.room.now (good (goal.at.returns c).Else-is_err)
    (sym w ∙ sym c.well_formed-2.ensures ∙ c.if-not-well_formed.false)
