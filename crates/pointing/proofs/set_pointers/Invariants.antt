-- `set_pointers` writes the pointers: those below number q stand in the block, and the words passed have fewer zeros.
use Prim.Native.Nat.{◌-◌, ◌*◌, ◌≤◌}
use Rattle.rules.specs.Bytes.{Bytes}
use Rattle.rules.specs.Runs.{words_for}
use Rattle.filllaws.specs.Filling.{Stored}
use Rattle.pointlaws.specs.Pointing.{Before}
use Rattle.pointlaws.proofs.PointedLaws.{run_number, pointer_in}
use Rattle.pointing.proofs.set_pointers.Given as goal

abbrev pub invariant-loop-q : goal.invariant-loop-q
invariant-loop-q l =
    (1 ≤ l.q) × (l.q ≤ l.end) × Stored 4 9 (pointer_in l.g l.initial.block) 1 l.q l.initial.block l.block
    × Before (run_number l.g l.initial.block) (words_for l.g.bits) (256 * l.q) l.at × Bytes l.block

abbrev pub decreases-loop-q : goal.decreases-loop-q
decreases-loop-q l = l.end - l.q
