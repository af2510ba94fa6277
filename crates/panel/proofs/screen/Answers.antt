-- `screen` checks the card, then r and the words, and then lists the pages into numbers of its own.
use mathlib.Core.Bool.{true, false}
use mathlib.Core.Path.{◌≡◌, sym, ap, ◌∙◌}
use mathlib.Core.List.{List}
use Prim.Native.Nat.{ℕ}
use native.Mathlib.Omega.{arith}
use Rattle.rules.specs.Verdict.{Accepted}
use Rattle.rules.specs.Bytes.{be_at}
use Rattle.rules.specs.Index.{index_t, index_refusal}
use Rattle.rules.specs.Screen.{screen_good, unshown}
use Rattle.laws.proofs.RefusalLaws.{went_on, true_accepted}
use Rattle.cardlaws.proofs.PassedLaws.{accepted_passed}
use Rattle.panel.proofs.ScreenLaws.{good_parts, screen_card, screen_question, screen_good_lem}
use Rattle.panel.proofs.screen.Goals as goal
use Rattle.panel.proofs.screen.Goals.{In_ok-check_index}

pub returns-in_err-check_index : goal.returns-in_err-check_index
returns-in_err-check_index c =
    screen_card _ _ _ _ _ _ c.check_index.result c.in_err-check_index.field-0.0 c.from_residual.result
    c.check_index.ensures c.in_err-check_index.was c.from_residual.ensures

-- the card passed
good : (c : In_ok-check_index) → index_refusal c.args.card.now ≡ Accepted
good c =
    went_on c.check_index.result (index_refusal c.args.card.now) c.check_index.ensures c.in_ok-check_index.field-0
    c.in_ok-check_index.was

pub read_u16-t-requires : goal.read_u16-t-requires
read_u16-t-requires c = (accepted_passed _ (good c)).head.header

-- what the test of r and the words says
asked_well : (s ts : List ℕ) (r t : ℕ) → t ≡ be_at 2 s 9 → screen_good t r ts ≡ screen_good (index_t s) r ts
unfolding index_t
asked_well s ts r t e = ap (λ (n : ℕ). screen_good n r ts) e

pub returns-then-not-may_show : goal.returns-then-not-may_show
unfolding unshown
returns-then-not-may_show c =
    let a = c.args in
    let w = asked_well a.card.now a.words.now a.r c.read_u16-t.result c.read_u16-t.ensures.0 in
    screen_question _ _ _ _ _ _ (true_accepted _ (good (goal.at.returns-then-not-may_show c).In_ok-check_index))
    (sym w ∙ sym c.may_show.ensures ∙ c.if-not-may_show.true)

pub list_from-listed-requires : goal.list_from-listed-requires
list_from-listed-requires c =
    let a = c.args in
    let w = asked_well a.card.now a.words.now a.r c.read_u16-t.result c.read_u16-t.ensures.0 in
    let g = good_parts _ _ _ (sym w ∙ sym c.may_show.ensures ∙ c.if-not-may_show.false) in
    (good (goal.at.list_from-listed-requires c).In_ok-check_index, g.2, omega (arith, g.0), omega (arith, g.1))

pub put_screen-requires : goal.put_screen-requires
put_screen-requires c =
    let a = c.args in
    let w = asked_well a.card.now a.words.now a.r c.read_u16-t.result c.read_u16-t.ensures.0 in
    let g = good_parts _ _ _ (sym w ∙ sym c.may_show.ensures ∙ c.if-not-may_show.false) in
    let l = c.list_from-listed.ensures in
    (g.0, l.0.few, omega (arith, g.1, l.1), l.0.low)

pub returns : goal.returns
returns c =
    let a = c.args in
    let w = asked_well a.card.now a.words.now a.r c.read_u16-t.result c.read_u16-t.ensures.0 in
    let l = c.list_from-listed.ensures.0 in
    rw (l.pages, l.counts) at c.put_screen.ensures
    ∙ screen_good_lem _ _ _ _ _ _ (true_accepted _ (good (goal.at.returns c).In_ok-check_index))
    (sym w ∙ sym c.may_show.ensures ∙ c.if-not-may_show.false)
