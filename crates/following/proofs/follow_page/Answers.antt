-- `follow_page` answers with the first test that fails; where none does, the base behind the page is the last position
-- plus 1 above the session's.
use mathlib.Core.Path.{sym, ◌∙◌}
use mathlib.Core.Bool.{false≢true}
use native.Mathlib.Omega.{arith}
use Rattle.sessionlaws.proofs.LiveLaws.{live_parts}
use Rattle.sessionlaws.proofs.OnePageLaws.{PageFollows, page_refused, page_follows}
use Rattle.following.proofs.follow_page.Goals as goal

pub returns-then-s : goal.returns-then-s
returns-then-s c =
    let a = c.args in
    page_refused a.s a.pages.now a.counts.now a.positions.now c.requires.1 (λ p. omega (arith, p.pages, c.if-s.true))

pub overflow_sub-positions_left : goal.overflow_sub-positions_left
overflow_sub-positions_left c = (live_parts c.args.s c.requires.0).filled_le

pub returns-then-positions_left-positions : goal.returns-then-positions_left-positions
returns-then-positions_left-positions c =
    let a = c.args in
    page_refused a.s a.pages.now a.counts.now a.positions.now c.requires.1
    (λ p. omega (arith, p.positions, c.if-positions_left-positions.true))

pub returns-then-counts-ne1 : goal.returns-then-counts-ne1
returns-then-counts-ne1 c =
    let a = c.args in
    page_refused a.s a.pages.now a.counts.now a.positions.now c.requires.1
    (λ p. omega (arith, p.counts, c.if-counts-ne1.true))

pub returns-then-counts-positions : goal.returns-then-counts-positions
returns-then-counts-positions c =
    let a = c.args in
    page_refused a.s a.pages.now a.counts.now a.positions.now c.requires.1
    (λ p. omega (arith, p.count, c.if-counts-positions.true))

pub returns-in_err-last : goal.returns-in_err-last
returns-in_err-last c =
    let a = c.args in
    rw c.from_residual.ensures (page_refused a.s a.pages.now a.counts.now a.positions.now c.requires.1
    (λ p. omega (arith, p.some, c.in_err-last.ensures.item)))

pub returns-then-pages-s : goal.returns-then-pages-s
returns-then-pages-s c =
    let a = c.args in
    page_refused a.s a.pages.now a.counts.now a.positions.now c.requires.1
    (λ p. omega (arith, p.seam, c.if-pages-s.true))

pub returns-then-s-pages : goal.returns-then-s-pages
returns-then-s-pages c =
    let a = c.args in
    page_refused a.s a.pages.now a.counts.now a.positions.now c.requires.1
    (λ p. omega (arith, p.below, c.if-s-pages.true))

pub returns-then-s-2 : goal.returns-then-s-2
returns-then-s-2 c =
    let a = c.args in
    page_refused a.s a.pages.now a.counts.now a.positions.now c.requires.1
    (λ p. omega (arith, p.base, c.if-s-2.true))

pub returns-then-not-rises : goal.returns-then-not-rises
returns-then-not-rises c =
    let a = c.args in
    page_refused a.s a.pages.now a.counts.now a.positions.now c.requires.1
    (λ p. false≢true (sym (c.if-not-rises.true) ∙ c.rises.ensures ∙ p.rises))

pub returns : goal.returns
returns c =
    let a = c.args in
    let l = live_parts a.s c.requires.0 in
    let z = c.in_ok-last.ensures.item.3 in
    let p : PageFollows a.s a.pages.now a.counts.now a.positions.now = record {
      pages = omega (arith, l.laid_le, c.if-s.false);
      positions = omega (arith, l.filled_le, c.if-positions_left-positions.false);
      counts = omega (arith, c.if-counts-ne1.false);
      count = omega (arith, c.if-counts-positions.false);
      some = z.0;
      seam = omega (arith, c.if-pages-s.false);
      below = omega (arith, c.if-s-pages.false);
      base = omega (arith, c.if-s-2.false);
      rises = sym c.rises.ensures ∙ c.if-not-rises.false;
    } in
    rw (z.1 0) (page_follows a.s a.pages.now a.counts.now a.positions.now c.requires.1 p)
