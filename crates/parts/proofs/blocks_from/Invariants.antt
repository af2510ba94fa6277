-- `blocks_from` walks: `rest` are the bytes behind as many blocks as were passed.
use mathlib.Core.Path.{◌≡◌}
use lib.ListN.{drop}
use Rattle.laws.specs.Blocks.{block_at}
use Rattle.parts.proofs.blocks_from.Given as goal

abbrev pub invariant-loop : goal.invariant-loop
invariant-loop l = l.rest ≡ drop (block_at l.from l.counter l.s) l.s
