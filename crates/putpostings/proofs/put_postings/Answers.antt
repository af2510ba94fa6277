-- `put_postings` answers with the first test that fails, and lays the postings where none does.
use mathlib.Core.Bool.{true}
use mathlib.Core.Path.{◌≡◌, refl, sym, ap, ◌∙◌}
use native.Mathlib.Omega.{arith}
use lib.ListN.{replicate}
use Rattle.std.specs.Prelude.{Ok, Err}
use Rattle.rules.specs.declared.Stream.{Stream}
use Rattle.rules.specs.declared.Refusal.TheVariants.{Lists}
use Rattle.rules.specs.Write.{laid}
use Rattle.rules.specs.Term.{lent_word}
use Rattle.rules.specs.Stream.{over, live, added_word, advanced, size_of}
use Rattle.sessionlaws.specs.declared.Layout.{Layout}
use Rattle.sessionlaws.specs.Layout.{layout_of}
use Rattle.sessionlaws.specs.Follow.{Laying}
use Rattle.wordlaws.proofs.WordLaws.{some_told, none_told}
use Rattle.sessionlaws.proofs.LiveLaws.{live_parts}
use Rattle.sessionlaws.proofs.LayoutLaws.{announcing, size_is}
use Rattle.sessionlaws.proofs.AnswerLaws.{streamed_is}
use Rattle.sessionlaws.proofs.PutLaws.{run_follows, ask_advance, advanced_told}
use Rattle.sessionlaws.proofs.PutLaws.{put_dead, put_short, put_spoilt, put_laid}
use Rattle.putpostings.proofs.put_postings.Goals as goal

-- the block's length
long : (s : Stream) → live s ≡ true → (g : Layout) → g ≡ layout_of s.version s.n s.pages s.positions s.u
    → g.size ≡ size_of s
unfolding size_of
long s goes_on g e = size_is s.version s.n s.pages s.positions s.u (live_parts s goes_on).announced g e

pub returns-then-not-is_live : goal.returns-then-not-is_live
returns-then-not-is_live c =
    let a = c.args in
    let t = lent_word a.pages.now a.counts.now a.positions.now in
    streamed_is c.ended.result a.room.now (Err Lists) over a.room.now c.ended.ensures refl
    ∙ sym (put_dead a.s t a.room.now (sym c.is_live.ensures ∙ c.if-not-is_live.true))

pub pages_shape-first-requires : goal.pages_shape-first-requires
pages_shape-first-requires c =
    let a = (live_parts c.args.s (sym c.is_live.ensures ∙ c.if-not-is_live.false)).announced in
    (a.pages, a.within)

pub shape_of-summed-requires : goal.shape_of-summed-requires
shape_of-summed-requires c =
    let a = (live_parts c.args.s (sym c.is_live.ensures ∙ c.if-not-is_live.false)).announced in
    (a.counts, omega (arith, a.positions, a.reach))

pub shape_of-last-requires : goal.shape_of-last-requires
shape_of-last-requires c =
    let a = (live_parts c.args.s (sym c.is_live.ensures ∙ c.if-not-is_live.false)).announced in
    (a.positions, a.reach)

pub layout-g-requires : goal.layout-g-requires
layout-g-requires c =
    let s = c.args.s in
    announcing s.version s.n s.pages s.positions s.u
    (live_parts s (sym c.is_live.ensures ∙ c.if-not-is_live.false)).accepts
    c.pages_shape-first.ensures c.shape_of-summed.ensures c.shape_of-last.ensures

pub returns-then-room-size : goal.returns-then-room-size
returns-then-room-size c =
    let a = c.args in
    let s = a.s in
    let goes_on = sym c.is_live.ensures ∙ c.if-not-is_live.false in
    let e = c.layout-g.ensures s.version s.n s.pages s.positions s.u c.pages_shape-first.ensures
    c.shape_of-summed.ensures c.shape_of-last.ensures in
    sym (put_short s (lent_word a.pages.now a.counts.now a.positions.now) a.room.now goes_on
    (omega (arith, long s goes_on c.layout-g.result e, c.if-room-size.true)))

pub returns-in_default : goal.returns-in_default
returns-in_default c =
    let a = c.args in
    let s = a.s in
    let goes_on = sym c.is_live.ensures ∙ c.if-not-is_live.false in
    let n = long s goes_on c.layout-g.result (c.layout-g.ensures s.version s.n s.pages s.positions s.u
    c.pages_shape-first.ensures c.shape_of-summed.ensures c.shape_of-last.ensures) in
    streamed_is c.ended-in_default.result c.clear.new.room (Err Lists) over (laid (replicate (size_of s) 0) a.room.now)
    c.ended-in_default.ensures (c.clear.ensures ∙ ap (λ k. laid (replicate k 0) a.room.now) n)
    ∙ sym (put_spoilt s (lent_word a.pages.now a.counts.now a.positions.now) a.room.now goes_on
    (omega (arith, n, c.if-room-size.false)) (none_told _ _ c.in_default.ensures))

pub follow-requires : goal.follow-requires
follow-requires c = sym c.is_live.ensures ∙ c.if-not-is_live.false

pub add_run-requires : goal.add_run-requires
add_run-requires c =
    let s = c.args.s in
    record {
      layout = c.layout-g.ensures s.version s.n s.pages s.positions s.u c.pages_shape-first.ensures
          c.shape_of-summed.ensures c.shape_of-last.ensures;
      goes_on = sym c.is_live.ensures ∙ c.if-not-is_live.false;
      may = (some_told _ _ c.in-Some.base c.in-Some.ensures).0;
      fits = c.if-room-size.false;
    }

pub advance-requires : goal.advance-requires
advance-requires c =
    let a = c.args in
    let s = a.s in
    let w = some_told _ _ c.in-Some.base c.in-Some.ensures in
    let l : Laying c.layout-g.result s (lent_word a.pages.now a.counts.now a.positions.now) a.room.now = record {
      layout = c.layout-g.ensures s.version s.n s.pages s.positions s.u c.pages_shape-first.ensures
          c.shape_of-summed.ensures c.shape_of-last.ensures;
      goes_on = sym c.is_live.ensures ∙ c.if-not-is_live.false;
      may = w.0;
      fits = c.if-room-size.false;
    } in
    let f = run_follows l in
    let k = ask_advance l in
    (k.0, k.1, f.pages, f.positions, omega (arith, w.1, f.ends, k.2))

pub returns : goal.returns
returns c =
    let a = c.args in
    let s = a.s in
    let t = lent_word a.pages.now a.counts.now a.positions.now in
    let w = some_told _ _ c.in-Some.base c.in-Some.ensures in
    let l : Laying c.layout-g.result s t a.room.now = record {
      layout = c.layout-g.ensures s.version s.n s.pages s.positions s.u c.pages_shape-first.ensures
          c.shape_of-summed.ensures c.shape_of-last.ensures;
      goes_on = sym c.is_live.ensures ∙ c.if-not-is_live.false;
      may = w.0;
      fits = c.if-room-size.false;
    } in
    streamed_is (record { size = Ok 0; stream = c.advance.result }) c.add_run.new.room (Ok 0)
    (advanced s t) (added_word s t a.room.now)
    (refl, c.advance.ensures ∙ advanced_told l c.in-Some.base w.1) c.add_run.ensures
    ∙ sym (put_laid s t a.room.now l.goes_on
    (omega (arith, long s l.goes_on c.layout-g.result l.layout, c.if-room-size.false)) l.may)
