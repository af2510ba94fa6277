-- `put_common` lists the pages behind the answer's first three numbers.
use native.Mathlib.Omega.{arith}
use lib.ListN.{length-set}
use Rattle.querylaws.specs.Listings.{whole_in}
use Rattle.openlists.proofs.FewLaws.{whole_few}
use Rattle.bycommon.proofs.TallyLaws.{put_tally}
use borrow.Author.Rules.{rules}
use Rattle.bycommon.proofs.put_common.Goals as goal

pub overflow_cast-room : goal.overflow_cast-room
overflow_cast-room c =
    let l = c in
    let b = l in
    let w = whole_few b.args.card.now b.args.shapes.now b.args.k b.requires.0 in
    omega (arith, l.list_common-listed.ensures.0.found)

pub bounds-room-1 : goal.bounds-room-1
bounds-room-1 c = rw length-set (search rules)

pub bounds-room-2 : goal.bounds-room-2
bounds-room-2 c = rw (length-set, length-set) (search rules)

pub returns : goal.returns
returns c =
    let l = c in
    let b = l in
    put_tally (whole_in b.args.card.now b.args.shapes.now b.args.k) b.args.room.now
    l.list_common-listed.new.room
    l.list_common-listed.result.found l.list_common-listed.result.seeks l.list_common-listed.result.looks b.requires.1
    l.list_common-listed.ensures.1 l.list_common-listed.ensures.0.found l.list_common-listed.ensures.0.seeks
    l.list_common-listed.ensures.0.looks
