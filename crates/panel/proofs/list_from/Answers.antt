-- `list_from` opens the words' lists and goes over them by the one loop of seeks, into as many numbers as a screen has.
use Prim.Native.Nat.{◌-◌, ◌<◌}
use native.Mathlib.Omega.{arith}
use borrow.Rule.Slice.PartMut.{mid_of, mid_len, same_len_mid}
use lib.ListN.{length}
use Rattle.querylaws.proofs.NewLaws.{new_running}
use Rattle.querylaws.proofs.BatchLaws.{batched_long}
use Rattle.querylaws.proofs.ListingLaws.{batched_narrow}
use Rattle.panel.proofs.ListLaws.{lists_screen}
use Rattle.panel.proofs.list_from.Lts
use Rattle.panel.proofs.list_from.Reads
use Rattle.panel.proofs.list_from.Tie
use Rattle.panel.proofs.list_from.Goals as goal

abbrev Start : Type 0
Start = Lts.Start Tie.the-claims Reads.Pre Reads.Post

-- the numbers that the pages are listed into are some
some : (c : Start) → 0 < length (mid_of 0 (c.args.size - 0) c.args.list.now)
some c = omega (arith, mid_len 0 c.args.size c.args.list.now c.requires.3, c.requires.2)

pub batch-turn-requires : goal.batch-turn-requires
batch-turn-requires c =
    let o = c.open_pages.ensures.1 in (
      rw c.new.ensures (new_running _ _ _ o.lists _),
      some c.before.before.before.before.before.before.before.before.before.before.before.before,
    )

pub totals-requires : goal.totals-requires
totals-requires c =
    let k = c in
    batched_narrow _ _ _ _ _ _ _ _
    (some k.before.before.before.before.before.before.before.before.before.before.before.before.before.before.before.before)
    k.batch-turn.ensures

pub returns : goal.returns
returns c =
    let k = c in
    let o = k in
    let start = o in
    let x = rw k.new.ensures at k.batch-turn.ensures in (
      lists_screen _ _ _ start.requires.0 o.open_pages.ensures.1 start.args.bound start.args.size
          start.requires.2 start.args.list.now start.requires.3 k.batch-turn.result _ x _ _ _ c.totals.ensures,
      same_len_mid 0 (start.args.size - 0) start.args.list.now k.batch-turn.new.room
          (batched_long _ _ _ _ _ _ _ _ k.batch-turn.ensures),
    )
