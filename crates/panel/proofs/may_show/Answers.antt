-- `may_show` tests r at both ends, and then the words.
use mathlib.Core.Path.{sym, ◌∙◌}
use native.Mathlib.Omega.{arith}
use Rattle.panel.proofs.ScreenLaws.{good_none, good_over, good_words}
use Rattle.panel.proofs.may_show.Goals as goal

pub returns-then-r-lt1 : goal.returns-then-r-lt1
returns-then-r-lt1 c = sym (good_none _ _ _ (omega (arith, c.if-r-lt1.true)))

pub returns-then-r-gt-SCREEN_LIMIT : goal.returns-then-r-gt-SCREEN_LIMIT
returns-then-r-gt-SCREEN_LIMIT c = sym (good_over _ _ _ (omega (arith, c.if-r-lt1.false)) (omega (arith, c.if-r-gt-SCREEN_LIMIT.true)))

pub returns : goal.returns
returns c =
    c.words_good.ensures
    ∙ sym (good_words _ _ _ (omega (arith, c.if-r-lt1.false)) (omega (arith, c.if-r-gt-SCREEN_LIMIT.false)))
