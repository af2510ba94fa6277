-- `put_screen` refuses before it writes; the counts are put first, and then the pages.
use mathlib.Core.List.{[], ◌∷◌}
use native.Mathlib.Omega.{arith}
use lib.Seq.{length-take-le}
use Rattle.rules.specs.Screen.{unshown}
use Rattle.panel.proofs.ScreenLaws.{short_pages, short_counts, both_fit, wrote_none, wrote_whole}
use Rattle.panel.proofs.ScreenLaws.{wrote_front}
use Rattle.panel.proofs.put_screen.Goals as goal

pub returns-then-pages-found : goal.returns-then-pages-found
unfolding unshown
returns-then-pages-found c =
    let a = c.args in
    let sized = length-take-le a.listed.found a.list.now (omega (arith, c.requires)) in
    (short_pages _ _ _ _ _ (omega (arith, sized, c.if-pages-found.true)))

pub returns-then-is_none : goal.returns-then-is_none
unfolding unshown
returns-then-is_none c =
    let a = c.args in
    let sized = length-take-le a.listed.found a.list.now (omega (arith, c.requires)) in
    let w = wrote_none (a.listed.seeks ∷ a.listed.looks ∷ []) a.counts.now c.put.new.room c.put.result c.if-is_none.ensures c.put.ensures in
    rw w.1
    (short_counts _ _ _ _ _ (omega (arith, sized, c.if-pages-found.false)) (omega (arith, w.0)))

pub returns : goal.returns
returns c =
    let a = c.args in
    let sized = length-take-le a.listed.found a.list.now (omega (arith, c.requires)) in
    let n = wrote_whole (a.listed.seeks ∷ a.listed.looks ∷ []) a.counts.now c.put.new.room c.put.result c.if-is_none.ensures c.put.ensures in
    let p = wrote_front a.listed.found a.list.now _ _ _ (omega (arith, sized, c.if-pages-found.false)) c.put-2.ensures in
    both_fit _ _ _ _ _ (omega (arith, sized, c.if-pages-found.false)) n.0 c.shown.result c.shown.ensures _ _ p n.1
