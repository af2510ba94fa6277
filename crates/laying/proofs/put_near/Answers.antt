-- `put_near` lays one element whose one falls into the word in hand: it writes nothing but a low part.
use native.Mathlib.Omega.{arith}
use Rattle.filllaws.proofs.PartLaws.{ready_step, near_acc, partly_near}
use Rattle.laying.proofs.put_near.Goals as goal

pub put_low-lows-requires : goal.put_low-lows-requires
put_low-lows-requires c =
    let s = ready_step c.requires.0 in
    (s.short, omega arith, s.in_hand, omega arith)

pub overflow_shr-place : goal.overflow_shr-place
overflow_shr-place c =
    let s = ready_step c.requires.0 in
    omega arith

pub returns : goal.returns
returns c xs before p m =
    let l = c in
    let s = l in
    let a = s.args in
    rw (near_acc a.g xs a.f before a.room.now p a.x m s.requires.1)
    (partly_near a.g xs a.f before a.room.now p a.x m s.requires.1 l.put_low-lows.result
    l.put_low-lows.new.room l.put_low-lows.ensures)
