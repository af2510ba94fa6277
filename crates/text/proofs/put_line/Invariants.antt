-- `put_line` lays the line: what is behind the numbers laid so far is still to be laid.
use Prim.Native.Nat.{◌+◌, ◌≤◌}
use lib.ListN.{length, drop}
use Rattle.files.specs.Laid.{Partly}
use Rattle.text.proofs.LineLaws.{ending}
use Rattle.text.proofs.put_line.Given as goal

abbrev pub invariant-loop-n : goal.invariant-loop-n
invariant-loop-n l = record {
  room : l.next + length (ending (drop l.n-index l.n-items)) ≤ length l.text;
  laid : Partly (ending l.n-items) (ending (drop l.n-index l.n-items)) l.initial.next l.next l.initial.text l.text;
}
