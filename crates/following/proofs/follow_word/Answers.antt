-- `follow_word` answers with the first test that fails, and else compares the base behind the postings with U.
use mathlib.Core.Path.{sym, ◌∙◌}
use native.Mathlib.Omega.{arith}
use Rattle.rules.specs.Term.{lent_word}
use Rattle.wordlaws.proofs.WordLaws.{some_told, none_told}
use Rattle.sessionlaws.proofs.LiveLaws.{live_parts}
use Rattle.sessionlaws.proofs.FollowLaws.{follows_pages, follows_positions, follows_invalid, follows_seam}
use Rattle.sessionlaws.proofs.FollowLaws.{follows_last, none_follow, follow_told}
use Rattle.following.proofs.follow_word.Goals as goal

pub overflow_sub-pages_left : goal.overflow_sub-pages_left
overflow_sub-pages_left c = (live_parts c.args.s c.requires).laid_le

pub returns-then-pages_left-pages : goal.returns-then-pages_left-pages
returns-then-pages_left-pages c =
    let a = c.args in
    let t = lent_word a.pages.now a.counts.now a.positions.now in
    none_follow a.s t
    (follows_pages a.s t (omega (arith, (live_parts a.s c.requires).laid_le, c.if-pages_left-pages.true)))

pub overflow_sub-positions_left : goal.overflow_sub-positions_left
overflow_sub-positions_left c = (live_parts c.args.s c.requires).filled_le

pub returns-then-positions_left-positions : goal.returns-then-positions_left-positions
returns-then-positions_left-positions c =
    let a = c.args in
    let t = lent_word a.pages.now a.counts.now a.positions.now in
    none_follow a.s t
    (follows_positions a.s t (omega (arith, (live_parts a.s c.requires).filled_le, c.if-positions_left-positions.true)))

pub returns-in_err-reach : goal.returns-in_err-reach
returns-in_err-reach c =
    let a = c.args in
    let t = lent_word a.pages.now a.counts.now a.positions.now in
    rw c.from_residual.ensures (none_follow a.s t (follows_invalid a.s t (none_told _ _ c.in_err-reach.ensures)))

pub returns-then-not-above : goal.returns-then-not-above
returns-then-not-above c =
    let a = c.args in
    let t = lent_word a.pages.now a.counts.now a.positions.now in
    let w = some_told _ _ c.in_ok-reach.reach c.in_ok-reach.ensures in
    none_follow a.s t (follows_seam a.s t w.0 (sym c.above.ensures ∙ c.if-not-above.true))

pub returns : goal.returns
returns c =
    let a = c.args in
    let t = lent_word a.pages.now a.counts.now a.positions.now in
    let l = live_parts a.s c.requires in
    let r = c.in_ok-reach.reach in
    let w = some_told _ _ r c.in_ok-reach.ensures in
    rw c.then_some.ensures (follow_told a.s t l.announced.reach r w.1
    (follows_last a.s t w.0 (sym c.above.ensures ∙ c.if-not-above.false)
    (omega (arith, l.laid_le, c.if-pages_left-pages.false))
    (omega (arith, l.filled_le, c.if-positions_left-positions.false))))
