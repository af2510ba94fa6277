-- `end_term` answers with the first test that fails, and writes the pointers where none does.
use mathlib.Core.Path.{◌≡◌, refl, sym, ap, ◌∙◌}
use mathlib.Core.Bool.{true}
use native.Mathlib.Omega.{arith}
use lib.ListN.{replicate}
use Rattle.std.specs.Prelude.{Ok, Err}
use Rattle.rules.specs.declared.Refusal.TheVariants.{Lists}
use Rattle.rules.specs.Write.{laid}
use Rattle.rules.specs.Stream.{over, live, size_of, pointed_word}
use Rattle.sessionlaws.specs.Session.{Live}
use Rattle.sessionlaws.specs.Layout.{Housed}
use Rattle.sessionlaws.proofs.LiveLaws.{live_parts}
use Rattle.sessionlaws.proofs.LayoutLaws.{size_is, housed}
use Rattle.sessionlaws.proofs.AnswerLaws.{streamed_is, end_dead, end_short, end_spoilt, end_whole, pointed_told}
use Rattle.endterm.proofs.end_term.Goals as goal
use Rattle.endterm.proofs.end_term.Goals.{Else-not-is_live, After-layout_of-g, Else-room-size}

pub returns-then-not-is_live : goal.returns-then-not-is_live
returns-then-not-is_live c =
    let a = c.args in
    streamed_is c.ended.result a.room.now (Err Lists) over a.room.now c.ended.ensures refl
    ∙ sym (end_dead a.s a.room.now (sym c.is_live.ensures ∙ c.if-not-is_live.true))

-- the session goes on
goes_on : (c : Else-not-is_live) → live c.args.s ≡ true
goes_on c = sym c.is_live.ensures ∙ c.if-not-is_live.false

-- the block's length
long : (c : After-layout_of-g) → Live c.args.s → c.layout_of-g.result.size ≡ size_of c.args.s
unfolding size_of
long c p =
    let s = c.args.s in
    size_is s.version s.n s.pages s.positions s.u p.announced c.layout_of-g.result c.layout_of-g.ensures

pub returns-then-room-size : goal.returns-then-room-size
returns-then-room-size c =
    let a = c.args in
    let p = goal.at.returns-then-room-size c in
    let h = goes_on p.Else-not-is_live in
    sym (end_short a.s a.room.now h (omega (arith, long p.After-layout_of-g (live_parts a.s h), c.if-room-size.true)))

pub returns-then-not-is_complete : goal.returns-then-not-is_complete
returns-then-not-is_complete c =
    let a = c.args in
    let p = goal.at.returns-then-not-is_complete c in
    let h = goes_on p.Else-not-is_live in
    let n = long p.After-layout_of-g (live_parts a.s h) in
    streamed_is c.ended-then-not-is_complete.result c.clear.new.room (Err Lists) over
    (laid (replicate (size_of a.s) 0) a.room.now)
    c.ended-then-not-is_complete.ensures
    (c.clear.ensures ∙ ap (λ k. laid (replicate k 0) a.room.now) n)
    ∙ sym (end_spoilt a.s a.room.now h (omega (arith, n, c.if-room-size.false))
    (sym c.is_complete.ensures ∙ c.if-not-is_complete.true))

-- the layout is that of the session, and the room holds its block
house : (c : Else-room-size)
    → let a = c.args in
    Live a.s → Housed a.s.version c.layout_of-g.result a.room.now
house c p =
    let a = c.args in
    housed a.s.version a.s.n a.s.pages a.s.positions a.s.u p.accepts c.layout_of-g.result c.layout_of-g.ensures a.room.now
    c.if-room-size.false

pub point_lists-requires : goal.point_lists-requires
point_lists-requires c =
    let p = goal.at.point_lists-requires c in
    record {
      version = c.args.s.version;
      house = house p.Else-room-size (live_parts c.args.s (goes_on p.Else-not-is_live));
    }

pub returns : goal.returns
returns c =
    let a = c.args in
    let p = goal.at.returns c in
    let h = goes_on p.Else-not-is_live in
    let l = live_parts a.s h in
    let n = long p.After-layout_of-g l in
    streamed_is c.ended-2.result c.point_lists.new.room (Ok (size_of a.s)) over (pointed_word a.s a.room.now)
    (c.ended-2.ensures.0 ∙ ap Ok n, c.ended-2.ensures.1)
    (c.point_lists.ensures a.s.version (house p.Else-room-size l)
    ∙ pointed_told a.s a.room.now l.announced c.layout_of-g.result c.layout_of-g.ensures)
    ∙ sym (end_whole a.s a.room.now h (omega (arith, n, c.if-room-size.false))
    (sym c.is_complete.ensures ∙ c.if-not-is_complete.false))
