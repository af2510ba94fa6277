-- `finish` writes what is in hand: its steps lie within the block's parts, and what they leave is the block.
use native.Mathlib.Omega.{arith}
use Rattle.filllaws.proofs.FinishLaws.{full_last, finished}
use Rattle.filling.proofs.finish.Goals as goal

pub put_words-requires : goal.put_words-requires
put_words-requires c =
    let s = full_last c.requires in
    (s.low_le, omega arith)

pub put_pointers-requires : goal.put_pointers-requires
put_pointers-requires c =
    let s = full_last c.requires in
    (s.next_some, s.next_le, omega arith, omega arith)

pub overflow_sub-g-3 : goal.overflow_sub-g-3
overflow_sub-g-3 c =
    let q = c in
    (full_last q.requires).upper_end

pub put_words-requires-2 : goal.put_words-requires-2
put_words-requires-2 c =
    let q = c in
    let s = full_last q.requires in
    (s.up_le, omega arith)

pub returns : goal.returns
returns c xs before p all =
    let u = c in
    let q = u in
    let l = q in
    let a = l.args in
    finished a.g xs a.f before a.room.now p all l.put_words.new.room q.put_pointers.new.room
    u.put_words-2.new.room
    l.put_words.result u.put_words-2.result l.put_words.ensures
    (rw q.put_pointers.ensures.0 at q.put_pointers.ensures.1) u.put_words-2.ensures
    (λ i. (c.slice_known-4-1.given i).fits)

pub overflow_sub-g : goal.overflow_sub-g
overflow_sub-g c = (full_last c.requires).lower_upper

pub overflow_sub-g-2 : goal.overflow_sub-g-2
overflow_sub-g-2 c = (full_last c.requires).many
