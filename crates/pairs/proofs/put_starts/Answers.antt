-- `put_starts` counts what there is, and lists it where it fits.
use mathlib.Core.Path.{sym, ◌∙◌}
use mathlib.Core.List.{List}
use Prim.Native.Nat.{ℕ, ◌<◌}
use native.Mathlib.Omega.{arith}
use borrow.Author.Tests.{ltb-true}
use lib.ListN.{length}
use Rattle.triallaws.specs.Asked.{found_by}
use Rattle.triallaws.proofs.AnswerLaws.{found_none, found_whole, laid_some}
use Rattle.pairs.proofs.put_starts.Lts
use Rattle.pairs.proofs.put_starts.Reads
use Rattle.pairs.proofs.put_starts.Tie
use Rattle.pairs.proofs.put_starts.Goals as goal

abbrev Start : Type 0
Start = Lts.Start Tie.the-claims Reads.Pre Reads.Post

abbrev Else-not-fits : Type 0
Else-not-fits = Lts.Else1 Tie.the-claims Reads.Pre Reads.Post

-- what the phrase finds
abbrev found : Start → List ℕ
found c = found_by c.args.card.now c.args.terms.now c.args.lists.now

pub returns-then-not-fits : goal.returns-then-not-fits
returns-then-not-fits c =
    let b = c in
    found_none (found b.before.before.before.before.before.before.before) b.args.room.now (sym c.fits.ensures ∙ c.if-not-fits.true)

-- it fits the room
fitting : (c : Else-not-fits) → length (found c.before.before.before.before.before.before) < length c.args.room.now
fitting c =
    let b = c in
    ltb-true (length (found b.before.before.before.before.before.before)) (length b.args.room.now)
    (sym c.fits.ensures ∙ c.if-not-fits.false)

pub bounds-room-0 : goal.bounds-room-0
bounds-room-0 c =
    let t = c in
    let b = t in
    let l = t.list_starts-found.ensures in
    rw (l.2 (omega (arith, l.0, fitting t.before.before.before.before.before))) (laid_some (found b.before.before.before.before.before.before.before.before.before.before.before) b.args.room.now)

pub returns : goal.returns
returns c =
    let t = c in
    let b = t in
    let l = t.list_starts-found.ensures in
    let f : t.list_starts-found.result < length b.args.room.now = omega (arith, l.0, fitting t.before.before.before.before.before) in
    found_whole (found b.before.before.before.before.before.before.before.before.before.before.before) b.args.room.now t.list_starts-found.result _ l.0 f (l.2 f)

pub list_starts-found-requires : goal.list_starts-found-requires
list_starts-found-requires c =
    let e = c in
    (e.requires, omega (arith, fitting e.before.before))
