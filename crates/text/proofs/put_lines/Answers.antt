-- `put_lines` lays the lines: those of the answers from place `from` on are still to be laid.
use mathlib.Core.Path.{refl, ◌∙◌}
use Prim.Native.Nat.{◌<◌}
use native.Mathlib.Omega.{arith}
use lib.ListN.{length}
use Rattle.rules.specs.Program.{line, lines}
use Rattle.files.specs.Laid.{Put}
use Rattle.files.proofs.PutLaws.{put_length, partly_none, partly_same, partly_more, partly_all}
use Rattle.text.specs.Answers.{answers_in}
use Rattle.text.proofs.LineLaws.{answer_at, counted_fits, counted_rest, counted_some, lines_at, lines_length}
use Rattle.text.proofs.LineLaws.{lines_none}
use Rattle.text.proofs.put_lines.Goals as goal

pub loop-from-init : goal.loop-from-init
loop-from-init c =
    let s = c in (
      omega arith,
      s.requires.0,
      refl,
      s.requires.1,
      partly_none (lines (answers_in s.args.numbers.now)) s.args.at
          s.args.text.now,
    )

pub overflow_cast-to : goal.overflow_cast-to
overflow_cast-to c = omega (arith, c.shared_slice_known-in-loop-from-1.given c.loop-from.from)

pub overflow_add-to-in-loop-from : goal.overflow_add-to-in-loop-from
overflow_add-to-in-loop-from c =
    let l = c in
    omega (
      arith,
      counted_fits l.args.numbers.now l.loop-from.from (omega arith)
          l.loop-from.invariant.1,
    )

pub slice_bounds-put_line-end : goal.slice_bounds-put_line-end
slice_bounds-put_line-end c =
    let l = c in
    counted_fits l.args.numbers.now l.loop-from.from (omega arith) l.loop-from.invariant.1

pub put_line-next-requires : goal.put_line-next-requires
put_line-next-requires c =
    let l = c in
    let ns = l.args.numbers.now in
    let i = l.loop-from.from in
    let h : i < length ns = omega arith in
    (counted_some ns i h l.loop-from.invariant.1, omega (arith, l.loop-from.invariant.3, lines_length ns i h l.loop-from.invariant.1))

pub loop-from-smaller : goal.loop-from-smaller
loop-from-smaller c = omega arith

pub loop-from-preserved : goal.loop-from-preserved
loop-from-preserved c =
    let k = c in
    let l = k in
    let ns = l.args.numbers.now in
    let i = l.loop-from.from in
    let h : i < length ns = omega arith in
    let w = l.loop-from.invariant.1 in
    let p : Put (line (answer_at ns i)) l.loop-from.next k.put_line-next.result l.loop-from.text k.put_line-next.new.text =
    k.put_line-next.ensures in (
      counted_fits ns i h w,
      counted_rest ns i h w,
      put_length p ∙ l.loop-from.invariant.2,
      omega (arith, lines_length ns i h w, put_length p, p.next, l.loop-from.invariant.3),
      partly_more (partly_same (lines_at ns i h w) l.loop-from.invariant.4) p,
    )

pub returns : goal.returns
returns c =
    let l = c in
    let ns = l.args.numbers.now in
    partly_all (partly_same (lines_none ns l.loop-from.from (omega arith)) l.loop-from.invariant.4)

pub overflow_add-to : goal.overflow_add-to
overflow_add-to c = omega arith

pub offset_bounds-numbers-from : goal.offset_bounds-numbers-from
offset_bounds-numbers-from c = omega arith

pub bounds-numbers-from : goal.bounds-numbers-from
bounds-numbers-from c = omega arith

pub offset_bounds-numbers-from-in-loop-from : goal.offset_bounds-numbers-from-in-loop-from
offset_bounds-numbers-from-in-loop-from c = omega arith

pub slice_bounds-put_line-count : goal.slice_bounds-put_line-count
slice_bounds-put_line-count c = omega arith

pub slice_bounds-put_line-start : goal.slice_bounds-put_line-start
slice_bounds-put_line-start c = omega arith

pub shape_of-text : goal.shape_of-text
shape_of-text c = c.loop-from.invariant.2
