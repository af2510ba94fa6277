-- `place_of` goes on from where the last number leads that has at most `rank` ones before it, or from the run's start.
use mathlib.Core.Path.{refl}
use Prim.Native.Nat.{ℕ, ◌-◌, ◌*◌}
use native.Mathlib.Omega.{arith}
use Rattle.rules.specs.Counts.{ones_below}
use Rattle.readlaws.specs.Open.{number_at, jump_from, Sought, JumpsIn}
use Rattle.readlaws.proofs.NearLaws.{zeros_small, compares_lower}
use Rattle.readlaws.proofs.PartLaws.{run_ahead, run_one}
use Rattle.byrank.proofs.place_of.Lts
use Rattle.byrank.proofs.place_of.Reads
use Rattle.byrank.proofs.place_of.Tie
use Rattle.byrank.proofs.place_of.Goals as goal

abbrev After-zeros_per-zeros : Type 0
After-zeros_per-zeros = Lts.After-zeros_per Tie.the-claims Reads.Pre Reads.Post

pub one_past-requires : goal.one_past-requires
unfolding ones_below
one_past-requires c =
    let start = c in
    let a = start.args in
    run_ahead a.block.now a.upper a.n start.requires.1.run _ refl 0 0 a.rank refl (omega arith)
    start.requires.0.below

pub returns-then-last-eq0 : goal.returns-then-last-eq0
returns-then-last-eq0 c =
    let start = c in
    let a = start.args in
    run_one a.block.now a.upper a.n start.requires.1.run _ refl a.rank c.one_past.result
    c.one_past.ensures.0 c.one_past.ensures.1

-- what is required, with the zeros that were read
known : (c : After-zeros_per-zeros)
    → let a = c.args in
    Sought a.block.now a.last a.n c.zeros_per-zeros.result a.rank
    × JumpsIn a.block.now a.upper a.n a.last c.zeros_per-zeros.result
known c =
    let p = c.requires in
    rw c.zeros_per-zeros.ensures (p.0, p.1)

pub overflow_mul-zeros : goal.overflow_mul-zeros
overflow_mul-zeros c =
    let found = c in
    let a = found.args in
    let s = a.block.now in
    let i : ℕ = found.number_before-i.result in
    let zeros : ℕ = found.zeros_per-zeros.result in
    let p = compares_lower s a.last zeros a.rank (known found.before.before.before.before.before).0.compares i
    found.number_before-i.ensures.ends.within in
    record { fits = omega (arith, zeros_small s i zeros a.rank p) }

pub overflow_sub-v : goal.overflow_sub-v
overflow_sub-v c =
    let found = c in
    let last = found.number_before-i in
    rw c.number_in-v.ensures
    ((known found.before.before.before.before.before).1.zeros_before last.result last.ensures.ends.within)

pub one_past-requires-2 : goal.one_past-requires-2
one_past-requires-2 c =
    let found = c in
    let start = found in
    let a = start.args in
    let s = a.block.now in
    let i : ℕ = found.number_before-i.result in
    let zeros : ℕ = found.zeros_per-zeros.result in
    let last = found.number_before-i.ensures in
    let k = known found.before.before.before.before.before in
    rw (c.led_to-start.ensures, c.number_in-v.ensures)
    (run_ahead s a.upper a.n k.1.run _ refl (jump_from zeros (number_at s i) i)
    (number_at s i - zeros * i) a.rank (k.1.ones_before i last.ends.within)
    (omega (arith, last.before)) k.0.below)

pub returns : goal.returns
returns c =
    let start = c in
    let a = start.args in
    run_one a.block.now a.upper a.n start.requires.1.run _ refl a.rank c.one_past-2.result
    c.one_past-2.ensures.0 c.one_past-2.ensures.1

pub number_before-i-requires : goal.number_before-i-requires
number_before-i-requires c = (known c.before).0
