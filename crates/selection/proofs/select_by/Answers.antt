-- `select_by` finds the byte whose count passes j, and the one within it.
use Rattle.std.proofs.Common.{◌<◌, mod-eq_of_lt, arith}
use lib.Count.{ones-le, count_trailing_zeros}
use Rattle.fields.specs.Words.{place_of_one}
use Rattle.fields.proofs.WordLaws.{place_some}
use Rattle.selectlaws.proofs.SelectLaws.{OneInByte, one_in_byte}
use Rattle.selection.proofs.select_by.Lts
use Rattle.selection.proofs.select_by.Reads
use Rattle.selection.proofs.select_by.Tie
use Rattle.selection.proofs.select_by.Goals as goal

abbrev After-above : Type 0
After-above = Lts.After-above Tie.the-claims Reads.Pre Reads.Post

pub above-requires : goal.above-requires
above-requires c = omega (arith, c.requires.1, ones-le 64 c.args.x (omega arith))

-- what is known of the byte that holds the one
in_byte : (c : After-above)
    → OneInByte c.args.x c.args.j c.args.counts (count_trailing_zeros 64 c.above.result)
in_byte c =
    let a = c.args in
    one_in_byte a.x a.j a.counts c.above.result c.requires.0 c.above.ensures (omega arith)
    c.requires.1

pub overflow_sub-p : goal.overflow_sub-p
overflow_sub-p c = (in_byte c).least

pub overflow_cast-before : goal.overflow_cast-before
overflow_cast-before c = omega (arith, (in_byte c).most)

pub overflow_shr-before : goal.overflow_shr-before
overflow_shr-before c = omega (arith, (in_byte c).most)

pub overflow_cast-before-2 : goal.overflow_cast-before-2
overflow_cast-before-2 c = omega (arith, (in_byte c).below)

pub overflow_cast-p : goal.overflow_cast-p
overflow_cast-p c = omega (arith, (in_byte c).most)

pub overflow_shr-x : goal.overflow_shr-x
overflow_shr-x c = omega (arith, (in_byte c).most)

pub overflow_cast-x : goal.overflow_cast-x
overflow_cast-x c = omega (arith, (in_byte c).byte)

pub overflow_sub-j : goal.overflow_sub-j
overflow_sub-j c = omega (arith, (in_byte c).below)

pub one_of_byte-requires : goal.one_of_byte-requires
one_of_byte-requires c = (in_byte c).few

-- the place is in the word
inside : (c : After-above) → place_of_one 64 c.args.x c.args.j < 64
inside c =
    let a = c.args in
    place_some 64 a.x a.j (rw (mod-eq_of_lt c.ranges.x.fits) c.requires.1)

pub overflow_add-result : goal.overflow_add-result
overflow_add-result c =
    let e = (in_byte c.before).lands c.one_of_byte.result c.one_of_byte.ensures in
    omega (arith, e, inside c.before)

pub returns : goal.returns
returns c =
    let e = (in_byte c.before).lands c.one_of_byte.result c.one_of_byte.ensures in
    (e, omega (arith, e, inside c.before))
