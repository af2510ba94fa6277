-- `next_pointer` gives the next number:
-- the same where the word decides no pointer, else one more, or none where that pointer is wrong or there are too many ones.
use Prim.Native.Nat.{◌*◌}
use native.Mathlib.Omega.{arith}
use lib.Count.{ones}
use Rattle.checklaws.proofs.PointerLaws.{stands_after, after_stands, pointed_next}
use Rattle.checklaws.proofs.HoldLaws.{refuse_many}
use Rattle.checklaws.proofs.StateLaws.{small}
use Rattle.checkparts.proofs.next_pointer.Goals as goal

pub returns-then-g-through-clause-refuses : goal.returns-then-g-through-clause-refuses
returns-then-g-through-clause-refuses c =
    let a = c.args in
    refuse_many a.s.now a.g a.k a.i a.next a.x c.requires (omega arith) c.if-g-through.true

pub overflow_mul-k : goal.overflow_mul-k
overflow_mul-k c = let a = c.args in omega (arith, (small a.s.now a.g a.k a.i a.next a.x c.requires (omega arith)).place)

pub overflow_add-k : goal.overflow_add-k
overflow_add-k c = let a = c.args in omega (arith, (small a.s.now a.g a.k a.i a.next a.x c.requires (omega arith)).place)

pub returns-then-not-pointer_ok-clause-refuses : goal.returns-then-not-pointer_ok-clause-refuses
returns-then-not-pointer_ok-clause-refuses c h =
    let a = c.args in
    let p = c.requires in
    c.pointer_ok.ensures.1 c.if-not-pointer_ok.true
    (after_stands a.s.now a.g.upper a.k a.x a.i p.word_is p.counted (256 * a.next) _ (omega arith)
    (h.pointers_are a.next p.pointed.first (omega arith)) (p.pointed.ahead (omega arith)) (omega arith))

pub returns-clause-goes_on : goal.returns-clause-goes_on
returns-clause-goes_on c =
    let a = c.args in
    let p = c.requires in (
      c.if-g-through.false,
      pointed_next a.s.now a.g a.k a.i a.next (ones a.x) p.pointed p.laid (omega arith)
          (stands_after a.s.now a.g.upper a.k a.x a.i p.word_is p.counted (256 * a.next) _
          (c.pointer_ok.ensures.0 c.if-not-pointer_ok.false)),
    )
