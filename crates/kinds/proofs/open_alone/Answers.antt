-- `open_alone` takes the numbers of the list from its first byte to its last.
use Prim.Native.Nat.{◌^◌, ◌<◌}
use native.Mathlib.Omega.{arith}
use lib.ListN.{length}
use Rattle.laws.proofs.PartLaws.{stated_lt}
use Rattle.kinds.proofs.AloneLaws.{all_bytes, alone_opened}
use Rattle.kinds.proofs.open_alone.Goals as goal

pub numbers_at-requires : goal.numbers_at-requires
numbers_at-requires c =
    let b = c in
    let s = b.args.pages.now in
    let short : length s < 2 ^ 32 =
    rw b.requires.framed.length_stated at
    (stated_lt s (λ i. (c.shared_slice_known-1.given i).fits)) in
    (record { starts = omega arith; ends = omega arith; short = short }, rw (all_bytes s) b.requires)

pub returns : goal.returns
returns c =
    let b = c in
    rw (c.numbers_at.ensures, all_bytes b.args.pages.now) (alone_opened b.args.pages.now b.requires)
