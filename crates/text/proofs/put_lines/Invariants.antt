-- `put_lines` lays the lines: those of the answers from place `from` on are still to be laid.
use mathlib.Core.Path.{◌≡◌}
use Prim.Native.Nat.{◌+◌, ◌-◌, ◌≤◌}
use lib.ListN.{length, drop}
use Rattle.rules.specs.Program.{lines}
use Rattle.files.specs.Laid.{Partly}
use Rattle.text.specs.Answers.{answers_in, Counted}
use Rattle.text.proofs.put_lines.Given as goal

abbrev pub invariant-loop-from : goal.invariant-loop-from
invariant-loop-from l =
    (l.from ≤ length l.numbers) × Counted (answers_in (drop l.from l.numbers)) × (length l.text ≡ length l.initial.text)
    × (l.next + length (lines (answers_in (drop l.from l.numbers))) ≤ length l.text)
    × Partly (lines (answers_in l.numbers)) (lines (answers_in (drop l.from l.numbers))) l.at l.next l.initial.text l.text

abbrev pub decreases-loop-from : goal.decreases-loop-from
decreases-loop-from l = length l.numbers - l.from
