-- `place_near` goes on from the place where that is near, else from a pointer.
use mathlib.Core.Path.{◌≡◌}
use Prim.Native.Nat.{◌-◌}
use native.Mathlib.Omega.{arith}
use lib.ListN.{length, take, drop}
use Rattle.rules.specs.ReadList.{form_at}
use Rattle.readlaws.proofs.FormLaws.{FormReading, form_reads, form_run, form_sought, runs_open}
use Rattle.readlaws.proofs.PartLaws.{run_ahead, run_one}
use Rattle.byrank.proofs.place_near.Lts
use Rattle.byrank.proofs.place_near.Reads
use Rattle.byrank.proofs.place_near.Tie
use Rattle.byrank.proofs.place_near.Goals as goal

abbrev Start : Type 0
Start = Lts.Start Tie.the-claims Reads.Pre Reads.Post

abbrev After-upper_of : Type 0
After-upper_of = Lts.After-upper_of Tie.the-claims Reads.Pre Reads.Post

-- at the entry
reads : (c : Start) → FormReading c.args.block.now c.args.g
reads c =
    let a = c.args in
    form_reads (form_at a.block.now) a.block.now a.g (runs_open a.block.now a.g c.requires.0)

pub overflow_add-before : goal.overflow_add-before
overflow_add-before c =
    let r = reads c.before.before in
    omega (arith, c.requires)

pub last_number-requires : goal.last_number-requires
last_number-requires c = (reads c.before.before.before).headed

pub place_of-requires : goal.place_of-requires
place_of-requires c =
    let start = c in
    let a = start.args in
    let s = a.block.now in
    let l = c.last_number in
    form_sought (form_at s) s a.g (runs_open s a.g start.requires.0) l.result a.rank l.ensures
    start.requires.1

-- the upper run is the rest of the block
rest : (c : After-upper_of)
    → let a = c.args in
    c.upper_of.result.now ≡ take (length a.block.now - a.g.upper) (drop a.g.upper a.block.now)
rest c = rw (reads c.before.before.before).ends at c.upper_of.ensures

pub one_past-requires : goal.one_past-requires
one_past-requires c =
    let start = c in
    let a = start.args in
    let s = a.block.now in
    let p = start.requires in
    run_ahead s a.g.upper a.g.n (form_run s a.g (reads start.before.before.before.before)) c.upper_of.result.now (rest c.before)
    a.start a.before a.rank p.2 p.3 p.1

pub returns : goal.returns
returns c =
    let start = c in
    let a = start.args in
    let s = a.block.now in
    run_one s a.g.upper a.g.n (form_run s a.g (reads start.before.before.before.before.before)) c.upper_of.result.now
    (rest c.before.before) a.rank c.one_past.result c.one_past.ensures.0 c.one_past.ensures.1
