-- `next_low` takes the next low part off what is left, or off that and the next word.
use Prim.Native.Nat.{◌+◌, ◌≤◌}
use native.Mathlib.Omega.{arith}
use lib.ListN.{length}
use Rattle.checklaws.proofs.LowLaws.{mask_pos, low_near, low_far}
use Rattle.checkparts.proofs.next_low.Lts
use Rattle.checkparts.proofs.next_low.Reads
use Rattle.checkparts.proofs.next_low.Tie
use Rattle.checkparts.proofs.next_low.Goals as goal

abbrev Else-w-held : Type 0
Else-w-held = Lts.Else1 Tie.the-claims Reads.Pre Reads.Post Tie.handed_clauses

pub returns-then-w-held : goal.returns-then-w-held
returns-then-w-held c =
    let b = c.before.before.before in
    low_near b.args.s.now b.args.low b.args.w (omega (arith, b.requires.held_fits)) c.if-w-held.true

-- the next word is there
room : (c : Else-w-held) → c.args.low.at + 8 ≤ length c.args.s.now
room c = c.requires.has_word (omega (arith, c.if-w-held.false))

pub returns : goal.returns
returns c =
    let r = c.before.before in
    let b = r.before.before in
    low_far b.args.s.now b.args.low b.args.w c.read_u64-next.result c.read_u64-next.ensures
    (omega (arith, b.requires.held_fits)) b.requires.held_fits.1 (omega (arith, r.if-w-held.false))

pub overflow_sub-mask : goal.overflow_sub-mask
overflow_sub-mask c = mask_pos c.args.w (omega (arith, c.requires.held_fits))

pub read_u64-next-requires : goal.read_u64-next-requires
read_u64-next-requires c = omega (arith, room c.before)

pub overflow_add-result-2 : goal.overflow_add-result-2
overflow_add-result-2 c = omega (arith, room c.before.before)
