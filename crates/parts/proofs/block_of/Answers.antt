-- `block_of` gives the part at the block's start.
use mathlib.Core.Path.{sym, ap, ◌∙◌}
use Prim.Native.Nat.{ℕ}
use lib.ListN.{take, drop}
use Rattle.rules.specs.Bytes.{be_at}
use Rattle.laws.proofs.PartLaws.{part_at}
use Rattle.parts.proofs.PlaceLaws.{walk_held}
use Rattle.parts.proofs.block_of.Goals as goal

pub part_at-requires : goal.part_at-requires
part_at-requires c =
    let b = c.before.before.before in
    walk_held b.args.from b.args.k b.args.s.now c.block_start.result b.requires c.block_start.ensures

pub returns : goal.returns
returns c =
    let w = c.before.before in
    let a = w.args in
    c.part_at.ensures
    ∙ ap (λ (p : ℕ). take (be_at 4 a.s.now p) (drop p a.s.now)) w.block_start.ensures
    ∙ sym (part_at a.from a.s.now a.k)
