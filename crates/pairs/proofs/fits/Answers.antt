-- `fits` takes two numbers for each page of the lead, or counts with room for no pair.
use mathlib.Core.Path.{sym}
use native.Mathlib.Omega.{arith}
use borrow.Author.Tests.{lt-ltb}
use lib.ListN.{length}
use Rattle.triallaws.specs.Asked.{found_in, offsets_in}
use Rattle.triallaws.proofs.PairLaws.{found_few}
use Rattle.pairs.proofs.fits.Goals as goal

pub overflow_mul-number : goal.overflow_mul-number
overflow_mul-number c =
    let b = c in
    omega (arith, c.number.ensures, (found_few _ _ _ _ _ _ b.requires.asked (offsets_in b.args.lists.now)).1)

pub returns-then-number-size : goal.returns-then-number-size
returns-then-number-size c =
    let b = c in
    let ds = offsets_in b.args.lists.now in
    let f = (found_few _ _ _ _ _ _ b.requires.asked ds).0 in
    sym (lt-ltb (length (found_in b.args.card.now b.args.terms.now ds)) b.args.size
    (omega (arith, c.if-number-size.true, c.number.ensures, f)))

pub returns : goal.returns
returns c = rw c.list_starts.ensures.0
