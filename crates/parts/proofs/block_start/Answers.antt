-- `block_start` tells how much lies before the bytes from the block on.
use mathlib.Core.Path.{◌≡◌}
use Prim.Native.Nat.{◌+◌}
use native.Mathlib.Omega.{arith}
use lib.ListN.{length}
use Rattle.laws.specs.Blocks.{block_at}
use Rattle.parts.proofs.PlaceLaws.{after_length}
use Rattle.parts.proofs.block_start.Lts
use Rattle.parts.proofs.block_start.Reads
use Rattle.parts.proofs.block_start.Tie
use Rattle.parts.proofs.block_start.Goals as goal

abbrev After-blocks_from : Type 0
After-blocks_from = Lts.After-blocks_from Tie.the-claims Reads.Pre Reads.Post

before : (c : After-blocks_from) →
    let a = c.args in
    block_at a.from a.k a.s.now + length c.blocks_from.result.now ≡ length a.s.now
before c =
    let b = c.before.before in
    rw c.blocks_from.ensures (after_length b.args.from b.args.k b.args.s.now b.requires)

pub overflow_sub-result : goal.overflow_sub-result
overflow_sub-result c = omega (arith, before c.before)

pub returns : goal.returns
returns c = omega (arith, before c.before)
