-- `last_of` reads the element of the last one: all n ones of the upper run lie in its words.
use mathlib.Core.Path.{◌≡◌}
use mathlib.Core.List.{List}
use Prim.Native.Nat.{ℕ, ◌-◌}
use lib.ListN.{length, take, drop}
use Rattle.rules.specs.ReadList.{form_at}
use Rattle.readlaws.specs.Open.{RunOf}
use Rattle.readlaws.proofs.FormLaws.{form_reads, form_run, runs_open}
use Rattle.readlaws.proofs.PartLaws.{run_total, run_short, run_one}
use Rattle.nearones.proofs.last_of.Lts
use Rattle.nearones.proofs.last_of.Reads
use Rattle.nearones.proofs.last_of.Tie
use Rattle.nearones.proofs.last_of.Goals as goal

abbrev After-upper_of : Type 0
After-upper_of = Lts.After-upper_of Tie.the-claims Reads.Pre Reads.Post

-- the upper run, which is the rest of the block
upper_run : (c : After-upper_of)
    → let a = c.args in
    RunOf a.block.now a.g.upper a.g.n
    × (c.upper_of.result.now ≡ take (length a.block.now - a.g.upper) (drop a.g.upper a.block.now))
upper_run c =
    let start = c.before.before in
    let a = start.args in
    let s = a.block.now in
    let r = form_reads (form_at s) s a.g (runs_open s a.g start.requires.0) in
    (form_run s a.g r, rw r.ends at c.upper_of.ensures)

pub last_one-place-requires : goal.last_one-place-requires
last_one-place-requires c =
    let start = c.before.before.before in
    let a = start.args in
    let s = a.block.now in
    let run : List ℕ = c.upper_of.result.now in
    let u = upper_run c.before in
    record {
      some = rw (run_total s a.g.upper a.g.n u.0 run u.1) start.requires.1;
      short = run_short s a.g.upper a.g.n u.0 run u.1;
    }

pub value_at-requires : goal.value_at-requires
value_at-requires c =
    let up = c.before.before.before in
    let start = up.before.before in
    let a = start.args in
    let s = a.block.now in
    let run : List ℕ = up.upper_of.result.now in
    let u = upper_run up in
    let e = c.last_one-place.ensures in
    let one = rw (run_total s a.g.upper a.g.n u.0 run u.1) at e.one in (
      start.requires.0,
      run_one s a.g.upper a.g.n u.0 run u.1 (a.g.n - 1) c.last_one-place.result one e.inside,
    )
