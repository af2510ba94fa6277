-- `phrase_good` tests the number of numbers, the first offset, and then each pair.
use mathlib.Core.Logic.{inl, inr}
use mathlib.Core.Path.{sym, ◌∙◌}
use native.Mathlib.Omega.{arith}
use Rattle.offsets.specs.Pairs.{Even}
use Rattle.offsets.proofs.PairLaws.{pairs_few, phrase_odd, phrase_out, phrase_late, phrase_pairs}
use Rattle.offsets.proofs.phrase_good.Lts
use Rattle.offsets.proofs.phrase_good.Reads
use Rattle.offsets.proofs.phrase_good.Tie
use Rattle.offsets.proofs.phrase_good.Goals as goal

abbrev Else-pairs-ne0 : Type 0
Else-pairs-ne0 = Lts.Else3 Tie.the-claims Reads.Pre Reads.Post

-- no number is left over
even : (c : Else-pairs-ne0) → Even c.args.pairs.now
even c = omega (arith, c.if-pairs-ne0.false, pairs_few c.args.pairs.now)

pub returns-then-pairs-lt2 : goal.returns-then-pairs-lt2
returns-then-pairs-lt2 c =
    let a = c.args in
    sym (phrase_out a.t a.pairs.now (inl c.if-pairs-lt2.true))

pub returns-then-pairs : goal.returns-then-pairs
returns-then-pairs c =
    let a = c.args in
    sym (phrase_out a.t a.pairs.now (inr c.if-pairs.true))

pub returns-then-pairs-ne0 : goal.returns-then-pairs-ne0
returns-then-pairs-ne0 c =
    let a = c.args in
    sym (phrase_odd a.t a.pairs.now (λ e. c.if-pairs-ne0.true (omega arith)))

pub returns-then-pairs-ne0-2 : goal.returns-then-pairs-ne0-2
returns-then-pairs-ne0-2 c =
    let e = c.before.before.before in
    let a = e.args in
    sym (phrase_late a.t a.pairs.now (even e) e.if-pairs-lt2.false c.if-pairs-ne0-2.true)

pub returns : goal.returns
returns c =
    let e = c.before.before.before.before in
    let a = e.args in
    c.pairs_good.ensures
    ∙ sym (phrase_pairs a.t a.pairs.now (even e) e.if-pairs-lt2.false e.if-pairs.false
    c.if-pairs-ne0-2.false)

pub pairs_good-requires : goal.pairs_good-requires
pairs_good-requires c = even c.before.before.before
