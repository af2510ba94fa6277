-- `put_line` lays the line: what is behind the numbers laid so far is still to be laid.
use mathlib.Core.Path.{◌≡◌, ap}
use mathlib.Core.List.{◌∷◌}
use Prim.Native.Nat.{◌<◌}
use native.Mathlib.Omega.{arith}
use lib.ListN.{length, get_or, length-set}
use Rattle.rules.specs.Program.{digits}
use Rattle.files.specs.Laid.{Put}
use Rattle.files.proofs.PutLaws.{put_one, put_same, put_cat, put_length, partly_none, partly_same, partly_more}
use Rattle.files.proofs.PutLaws.{partly_end}
use Rattle.text.proofs.LineLaws.{ending, further, further_long, line_first, first_length, ending_at, ending_length}
use Rattle.text.proofs.LineLaws.{ending_last}
use Rattle.text.proofs.put_line.Goals as goal

pub put_number-next-requires : goal.put_number-next-requires
put_number-next-requires c = omega (arith, first_length c.args.numbers.now c.requires.0)

pub loop-n-init : goal.loop-n-init
loop-n-init c =
    let ns = c.args.numbers.now in
    let first = c.put_number-next in
    record {
      room = omega (arith, first_length ns c.requires.0, first.ensures.next);
      laid = partly_none (ending (further ns)) first.result first.new.text;
    }

pub bounds-text-next : goal.bounds-text-next
bounds-text-next c =
    let ns = further c.args.numbers.now in
    let i = c.loop-n.n-index in
    let h : i < length ns = rw further_long (omega arith) in
    omega (arith, ending_length ns i h)

pub put_number-next-requires-in-loop-n : goal.put_number-next-requires-in-loop-n
put_number-next-requires-in-loop-n c =
    let ns = further c.args.numbers.now in
    let i = c.loop-n.n-index in
    let h : i < length ns = rw further_long (omega arith) in
    rw length-set (omega (arith, ending_length ns i h))

pub loop-n-preserved : goal.loop-n-preserved
loop-n-preserved c =
    let ns = further c.args.numbers.now in
    let i = c.loop-n.n-index in
    let next = c.put_number-next-in-loop-n in
    let h : i < length ns = rw further_long (omega arith) in
    let p : Put (32 ∷ digits (get_or ns i 0)) c.loop-n.next next.result c.loop-n.text next.new.text =
    put_cat (put_one 32 c.loop-n.next c.loop-n.text) next.ensures in
    record {
      room = omega (arith, ending_length ns i h, put_length p, p.next);
      laid = partly_more (partly_same (ending_at ns i h) c.loop-n.invariant.laid) p;
    }

pub bounds-text-next-2 : goal.bounds-text-next-2
bounds-text-next-2 c =
    let ns = further c.args.numbers.now in
    let e : c.loop-n.n-index ≡ length ns = rw further_long (omega arith) in
    omega (arith, ap length (ending_last ns c.loop-n.n-index e))

pub returns : goal.returns
returns c =
    let ns = c.args.numbers.now in
    let e : c.loop-n.n-index ≡ length (further ns) = rw further_long (omega arith) in
    let p =
    partly_end (partly_same (ending_last (further ns) c.loop-n.n-index e) c.loop-n.invariant.laid)
    (put_one 10 c.loop-n.next c.loop-n.text) in
    put_same (line_first ns c.requires.0) (put_cat c.put_number-next.ensures p)
