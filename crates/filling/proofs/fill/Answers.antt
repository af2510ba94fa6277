-- `fill` writes the header, lays all elements and writes what is then in hand.
use mathlib.Core.List.{[]}
use native.Mathlib.Omega.{arith}
use lib.Seq.{take-length}
use Rattle.filllaws.specs.Filling.{Partly, Follows}
use Rattle.filling.proofs.fill.Lts
use Rattle.filling.proofs.fill.Reads
use Rattle.filling.proofs.fill.Tie
use Rattle.filling.proofs.fill.Goals as goal

abbrev Start : Type 0
Start = Lts.Start Tie.the-claims Reads.Pre Reads.Post

abbrev After-lay-f : Type 0
After-lay-f = Lts.After-lay Tie.the-claims Reads.Pre Reads.Post

-- all elements may follow none
follows : (s : Start) → Follows s.args.g [] s.args.list.now
follows s = record { few = omega (arith, s.requires.1); rises = s.requires.2 }

pub lay-f-requires : goal.lay-f-requires
lay-f-requires c =
    let b = c in
    let s = b in
    record { xs = []; before = s.args.room.now; partly = b.begin-start.ensures; follows = follows s.before.before.before.before.before.before.before.before }

all_laid : (c : After-lay-f)
    → let a = c.args in
    Partly a.g a.list.now c.lay-f.result a.room.now c.lay-f.new.room
all_laid c =
    let b = c in
    let s = b in
    let xs = s.args.list.now in
    rw (take-length xs) at (c.lay-f.ensures [] s.args.room.now b.begin-start.ensures (follows s.before.before.before.before.before.before.before.before))

pub finish-requires : goal.finish-requires
finish-requires c =
    let l = c in
    let s = l in
    record {
      xs = s.args.list.now;
      before = s.args.room.now;
      partly = all_laid l.before.before.before.before;
      all = s.requires.1;
    }

pub returns : goal.returns
returns c =
    let f = c in
    let l = f in
    let s = l in
    f.finish.ensures s.args.list.now s.args.room.now (all_laid l.before.before.before.before.before.before.before) s.requires.1
