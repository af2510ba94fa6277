-- `value_at` gives the element: the zeros below its one are its high part.
use mathlib.Core.Path.{sym, ap₂, ◌∙◌}
use Prim.Native.Nat.{ℕ, ◌+◌}
use native.Mathlib.Omega.{arith}
use Rattle.readlaws.proofs.ReadLaws.{Ranked, open_reads, one_ranks}
use Rattle.reading.proofs.value_at.Lts
use Rattle.reading.proofs.value_at.Reads
use Rattle.reading.proofs.value_at.Tie
use Rattle.reading.proofs.value_at.Goals as goal

abbrev Start : Type 0
Start = Lts.Start Tie.the-claims Reads.Pre Reads.Post

-- at the entry
ranked : (c : Start) → Ranked c.args.block.now c.args.g c.args.place c.args.rank
ranked c = one_ranks c.args.block.now c.args.g c.requires.0 c.args.place c.args.rank c.requires.1

pub low_at-low-requires : goal.low_at-low-requires
low_at-low-requires c = (c.requires.0, (ranked c.before.before).number)

pub overflow_sub-result : goal.overflow_sub-result
overflow_sub-result c = (ranked c.before.before.before).behind

pub overflow_shl-result : goal.overflow_shl-result
overflow_shl-result c =
    let start = c.before.before.before.before in
    let r = open_reads start.args.block.now start.args.g start.requires.0 in
    omega arith

pub overflow_add-result : goal.overflow_add-result
overflow_add-result c =
    let start = c.before.before.before.before in
    let r = open_reads start.args.block.now start.args.g start.requires.0 in
    let k = ranked start in
    record { fits = omega arith }

pub returns : goal.returns
returns c =
    let k = ranked c.before.before.before.before in
    ap₂ (λ (x y : ℕ). x + y) k.shifted c.low_at-low.ensures.0 ∙ sym k.value
