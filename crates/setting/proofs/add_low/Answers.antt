-- `add_low` lays the low bits of x above those in hand, or sets the ones of the word that they fill and keeps the rest.
use native.Mathlib.Nat.{mod-lt}
use native.Mathlib.Omega.{arith}
use lib.Pow.{pow_pos}
use Rattle.laws.proofs.BitLaws.{one_shl, masked}
use Rattle.addlaws.proofs.LowLaws.{low_near, low_far}
use Rattle.setting.proofs.add_low.Goals as goal

pub overflow_sub-low : goal.overflow_sub-low
overflow_sub-low c =
    let w = c.args.w in
    rw (one_shl w (omega arith)) (pow_pos w)

pub returns-then-a-w-lt64 : goal.returns-then-a-w-lt64
returns-then-a-w-lt64 c =
    let s = c in
    let a = s.args in
    low_near a.w a.a a.x s.requires.1 s.requires.0 s.requires.2 c.if-a-w-lt64.true a.run.now

pub place-p-requires : goal.place-p-requires
place-p-requires c =
    let s = c in
    let a = s.args in
    let p = s.requires in
    (p.0, p.1, rw (masked a.x a.w (omega arith)) (mod-lt a.x (pow_pos a.w)), p.2)

pub returns : goal.returns
returns c =
    let u = c in
    let k = u in
    let s = k in
    let a = s.args in
    let r = k.place-p.result in
    low_far a.w a.a a.x s.requires.1 s.requires.0 s.requires.2 r.hi r.lo a.run.now
    u.set_ones.new.run k.place-p.ensures k.place-p.type_inv.1.1.0.1 k.if-a-w-lt64.false u.set_ones.ensures
