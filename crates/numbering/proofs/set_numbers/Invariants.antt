-- `set_numbers` writes the numbers: those up to number i stand in the block, and the count is number i.
use Rattle.std.proofs.Common.{◌≡◌, ◌+◌}
use Rattle.rules.specs.Bytes.{Bytes}
use Rattle.filllaws.specs.Filling.{Stored}
use Rattle.pointlaws.proofs.NumberedLaws.{number_in}
use Rattle.numbering.proofs.set_numbers.Given as goal

pub record Counting (l : goal.Live-loop-i) : Type 0 where
  pub stored : Stored 4 9 (number_in l.g l.initial.block) 1 (l.i + 1) l.initial.block l.block
  pub counted : l.count ≡ number_in l.g l.initial.block l.i
  pub began : Bytes l.initial.block
  pub bytes : Bytes l.block

abbrev pub invariant-loop-i : goal.invariant-loop-i
invariant-loop-i l = Counting l
