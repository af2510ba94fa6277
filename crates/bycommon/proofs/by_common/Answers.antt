-- `by_common` writes the answer where the shortest list's length leaves room for it, and counts its pages first elsewhere.
use mathlib.Core.Path.{refl}
use native.Mathlib.Omega.{arith}
use lib.ListN.{length}
use Rattle.querylaws.specs.Listings.{whole_in}
use Rattle.wordlists.specs.Opened.{OpenedPages}
use Rattle.openlists.proofs.FewLaws.{whole_few}
use Rattle.bycommon.proofs.TallyLaws.{opened_answer, length_tallied}
use Rattle.bycommon.proofs.by_common.Lts
use Rattle.bycommon.proofs.by_common.Reads
use Rattle.bycommon.proofs.by_common.Tie
use Rattle.bycommon.proofs.by_common.Goals as goal

abbrev After-open_pages : Type 0
After-open_pages = Lts.After-open_pages Tie.the-claims Reads.Pre Reads.Post

-- the words' lists are opened
opened : (c : After-open_pages)
    → OpenedPages c.args.card.now
    c.args.terms.now c.open_pages.new.shapes
opened c = c.open_pages.ensures.1

pub overflow_add-number : goal.overflow_add-number
overflow_add-number c =
    let p = c in
    let a = p.args in
    let r = p.open_pages.new.shapes in
    omega (arith, c.number.ensures, (whole_few a.card.now r (length a.terms.now) (opened p.before.before.before.before).lists).1)

pub put_common-requires : goal.put_common-requires
put_common-requires c =
    let p = c in
    let a = p.args in
    let r = p.open_pages.new.shapes in
    let w = whole_few a.card.now r (length a.terms.now) (opened p.before.before.before.before.before.before.before).lists in (
      (opened p.before.before.before.before.before.before.before).lists,
      omega (arith, c.number.ensures, c.if-number-room.true),
    )

pub returns-then-number-room : goal.returns-then-number-room
returns-then-number-room c =
    let p = c in
    let a = p.args in
    let r = p.open_pages.new.shapes in
    rw (← opened_answer a.card.now a.terms.now r (opened p.before.before.before.before.before.before.before.before.before.before)) c.put_common.ensures

pub overflow_add-counted : goal.overflow_add-counted
overflow_add-counted c =
    let p = c in
    let a = p.args in
    let r = p.open_pages.new.shapes in
    let w = whole_few a.card.now r (length a.terms.now) (opened p.before.before.before.before.before.before.before.before.before.before).lists in
    omega (arith, c.list_common-counted.ensures.0.found)

pub returns-then-room-counted : goal.returns-then-room-counted
returns-then-room-counted c =
    let p = c in
    let a = p.args in
    let r = p.open_pages.new.shapes in
    let l = length_tallied (whole_in a.card.now r (length a.terms.now)) in
    rw (← opened_answer a.card.now a.terms.now r (opened p.before.before.before.before.before.before.before.before.before.before.before))
    (omega (arith, c.list_common-counted.ensures.0.found, c.if-room-counted.true), refl)

pub put_common-requires-2 : goal.put_common-requires-2
put_common-requires-2 c =
    let p = c in
    let a = p.args in
    let r = p.open_pages.new.shapes in (
      (opened p.before.before.before.before.before.before.before.before.before.before.before.before.before).lists,
      omega (
        arith,
        c.list_common-counted.ensures.0.found,
        c.if-room-counted.false,
      ),
    )

pub returns : goal.returns
returns c =
    let p = c in
    let a = p.args in
    let r = p.open_pages.new.shapes in
    rw (← opened_answer a.card.now a.terms.now r (opened p.before.before.before.before.before.before.before.before.before.before.before.before.before.before.before.before)) c.put_common-2.ensures
