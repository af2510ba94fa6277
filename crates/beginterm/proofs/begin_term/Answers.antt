-- `begin_term` answers with the announcement's refusal, or that the room is too small, or opens the session.
use mathlib.Core.Path.{◌≡◌, refl, sym, ap, ap₂, ◌∙◌}
use mathlib.Core.List.{List}
use Prim.Native.Nat.{ℕ}
use native.Mathlib.Omega.{arith}
use Rattle.std.specs.Prelude.{Err}
use Rattle.rules.specs.declared.Refusal.TheVariants.{Room}
use Rattle.rules.specs.Verdict.{Verdict, Accepted}
use Rattle.rules.specs.Refusal.{accepted}
use Rattle.rules.specs.Write.{laid}
use Rattle.rules.specs.Stream.{announce_refusal, over, goes, stream_size}
use Rattle.laws.proofs.RefusalLaws.{refusal_told}
use Rattle.sessionlaws.specs.Session.{Announced}
use Rattle.sessionlaws.specs.Layout.{layout_of, Housed}
use Rattle.sessionlaws.proofs.AnnounceLaws.{announced_parts}
use Rattle.sessionlaws.proofs.AnswerLaws.{streamed_is, begin_refused, begin_short, begin_opened}
use Rattle.sessionlaws.proofs.LayoutLaws.{housed, size_is}
use Rattle.sessionlaws.proofs.FrameLaws.{announced_told}
use Rattle.beginterm.proofs.begin_term.Goals as goal
use Rattle.beginterm.proofs.begin_term.Goals.{Start, In_default, After-layout-g, Else-room-g}

abbrev refusal : Start → Verdict
refusal s = announce_refusal s.args.version s.args.n s.args.pages s.args.positions s.args.u

pub returns-in-Err : goal.returns-in-Err
returns-in-Err c =
    let a = c.args in
    let e = sym c.announce-announced.ensures ∙ c.in-Err.is in
    streamed_is c.ended.result a.room.now (Err c.in-Err.refusal) over a.room.now c.ended.ensures refl
    ∙ ap (λ (r : Verdict). goes r over a.room.now) (sym e)
    ∙ sym (begin_refused a.version a.n a.pages a.positions a.u a.room.now (ap accepted e ∙ refusal_told c.in-Err.refusal))

-- the announcement is accepted, and so bounded
told : (c : In_default)
    → let a = c.args in
    announce_refusal a.version a.n a.pages a.positions a.u ≡ Accepted
told c = sym c.announce-announced.ensures ∙ c.in_default.is

bounds : (c : In_default) → let a = c.args in Announced a.n a.pages a.positions a.u
bounds c =
    let a = c.args in
    announced_parts a.version a.n a.pages a.positions a.u (told c)

pub pages_shape-first-requires : goal.pages_shape-first-requires
pages_shape-first-requires c = ((bounds c).pages, (bounds c).within)

pub shape_of-counts-requires : goal.shape_of-counts-requires
shape_of-counts-requires c =
    let r = bounds (goal.at.shape_of-counts-requires c).In_default in
    (r.counts, omega (arith, r.positions, r.reach))

pub shape_of-last-requires : goal.shape_of-last-requires
shape_of-last-requires c =
    let r = bounds (goal.at.shape_of-last-requires c).In_default in
    (r.positions, r.reach)

-- the layout is that of the announcement
layout_is : (c : After-layout-g)
    → let a = c.args in
    c.layout-g.result ≡ layout_of a.version a.n a.pages a.positions a.u
layout_is c =
    let a = c.args in
    c.layout-g.ensures a.version a.n a.pages a.positions a.u c.pages_shape-first.ensures c.shape_of-counts.ensures
    c.shape_of-last.ensures

-- and its size that of the announced block
size_at : (c : After-layout-g)
    → let a = c.args in
    Announced a.n a.pages a.positions a.u → c.layout-g.result.size ≡ stream_size a.version a.n a.pages a.positions a.u
size_at c r =
    let a = c.args in
    size_is a.version a.n a.pages a.positions a.u r c.layout-g.result (layout_is c)

pub returns-then-room-g : goal.returns-then-room-g
returns-then-room-g c =
    let a = c.args in
    let p = goal.at.returns-then-room-g c in
    streamed_is c.ended-then-room-g.result a.room.now (Err Room) over a.room.now c.ended-then-room-g.ensures refl
    ∙ sym (begin_short a.version a.n a.pages a.positions a.u a.room.now (told p.In_default)
    (omega (arith, c.if-room-g.true, size_at p.After-layout-g (bounds p.In_default))))

-- and the room holds its block
house : (c : Else-room-g)
    → let a = c.args in
    announce_refusal a.version a.n a.pages a.positions a.u ≡ Accepted → c.layout-g.result ≡ layout_of a.version a.n a.pages a.positions a.u
    → Housed a.version c.layout-g.result a.room.now
house c t l =
    let a = c.args in
    housed a.version a.n a.pages a.positions a.u t c.layout-g.result l a.room.now c.if-room-g.false

pub put_frames-requires : goal.put_frames-requires
put_frames-requires c =
    let p = goal.at.put_frames-requires c in
    record { version = c.args.version; house = house p.Else-room-g (told p.In_default) (layout_is p.After-layout-g) }

pub returns : goal.returns
returns c =
    let a = c.args in
    let p = goal.at.returns c in
    let t = told p.In_default in
    let r = bounds p.In_default in
    let l = layout_is p.After-layout-g in
    let e = announced_told a.version a.n a.pages a.positions a.u r c.layout-g.result l in
    ap₂ (goes Accepted) c.opened.ensures
    (c.put_frames.ensures a.version (house p.Else-room-g t l) ∙ ap (λ (b : List ℕ). laid b a.room.now) e)
    ∙ sym (begin_opened a.version a.n a.pages a.positions a.u a.room.now t
    (omega (arith, c.if-room-g.false, size_at p.After-layout-g r)))
