-- `page_at` gives the element: the zeros below its one are its high part.
use mathlib.Core.Path.{sym, ap₂, ◌∙◌}
use Prim.Native.Nat.{ℕ, ◌+◌}
use native.Mathlib.Omega.{arith}
use Rattle.readlaws.proofs.ReadLaws.{Ranked, open_reads, one_ranks}
use Rattle.landing.proofs.page_at.Lts
use Rattle.landing.proofs.page_at.Reads
use Rattle.landing.proofs.page_at.Tie
use Rattle.landing.proofs.page_at.Goals as goal

abbrev Start : Type 0
Start = Lts.Start Tie.the-claims Reads.Pre Reads.Post

-- at the entry
ranked : (c : Start) → Ranked c.args.s.now c.args.g c.args.bit c.args.rank
ranked c = one_ranks c.args.s.now c.args.g c.requires.0 c.args.bit c.args.rank c.requires.1

pub overflow_sub-result : goal.overflow_sub-result
overflow_sub-result c = (ranked c.before.before).behind

pub overflow_shl-result : goal.overflow_shl-result
overflow_shl-result c =
    let start = c in
    let r = open_reads start.args.s.now start.args.g start.requires.0 in
    omega arith

pub low_part-requires : goal.low_part-requires
low_part-requires c =
    let start = c in
    (start.requires.0, (ranked start.before.before.before).number)

pub overflow_add-result : goal.overflow_add-result
overflow_add-result c =
    let start = c in
    let r = open_reads start.args.s.now start.args.g start.requires.0 in
    let k = ranked start.before.before.before.before in
    record { fits = omega arith }

pub returns : goal.returns
returns c =
    let k = ranked c.before.before.before.before in
    ap₂ (λ (x y : ℕ). x + y) k.shifted c.low_part.ensures.0 ∙ sym k.value
