-- `read_file` reads into the room behind the bytes that it has: `done` counts them.
use Rattle.std.proofs.Common.{length, ◌-◌, ◌≤◌}
use Rattle.lookup.proofs.read_file.Given as goal

abbrev pub invariant-loop-done : goal.invariant-loop-done
invariant-loop-done l = l.done ≤ length l.buf

abbrev pub decreases-loop-done : goal.decreases-loop-done
decreases-loop-done l = length l.initial.buf - l.done
