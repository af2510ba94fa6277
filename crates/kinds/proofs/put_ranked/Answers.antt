-- `put_ranked` puts the element of that rank, or none.
use native.Mathlib.Omega.{arith}
use Rattle.rules.specs.ReadList.{form_at, decode}
use Rattle.readlaws.proofs.FormLaws.{form_length}
use Rattle.kinds.proofs.KindLaws.{rank_none, rank_some, element_below}
use Rattle.kinds.proofs.put_ranked.Goals as goal

pub returns-then-g-rank : goal.returns-then-g-rank
returns-then-g-rank c =
    let p = c in
    let h = p in
    let a = h in
    let s = a.args.pages.now in
    let l = form_length (form_at s) s h.shape_at-g.result h.shape_at-g.ensures.0 in
    rw (rank_none (decode s) a.args.rank
    (omega (arith, p.if-g-rank.true))) p.put.ensures

pub overflow_cast-page : goal.overflow_cast-page
overflow_cast-page c =
    let h = c in
    let a = h in
    let s = a.args.pages.now in
    let b =
    element_below (form_at s) s h.shape_at-g.result h.shape_at-g.ensures.0 a.args.rank c.if-g-rank.false in
    omega (arith, c.element_at-page.ensures)

pub returns : goal.returns
returns c =
    let p = c in
    let e = p in
    let h = e in
    let a = h in
    let s = a.args.pages.now in
    let l = form_length (form_at s) s h.shape_at-g.result h.shape_at-g.ensures.0 in
    rw (
      rank_some (decode s) a.args.rank (omega (arith, e.if-g-rank.false)),
      ← e.element_at-page.ensures,
    ) p.put-2.ensures
