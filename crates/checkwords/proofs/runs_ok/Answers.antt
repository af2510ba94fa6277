-- `runs_ok` tests the spare bits, and then the words with low parts or without.
use mathlib.Core.Bool.{false≢true}
use Rattle.checklaws.specs.Check.{Trimmed}
use Rattle.checkwords.proofs.runs_ok.Lts
use Rattle.checkwords.proofs.runs_ok.Reads
use Rattle.checkwords.proofs.runs_ok.Tie
use Rattle.checkwords.proofs.runs_ok.Goals as goal

abbrev Else-not-spare_clear-2 : Type 0
Else-not-spare_clear-2 = Lts.Else2 Tie.the-claims Reads.Pre Reads.Post

pub returns-then-not-spare_clear : goal.returns-then-not-spare_clear
returns-then-not-spare_clear c =
    let r = c.spare_clear in
    (λ e. absurd (false≢true e), λ _ h. r.ensures.1 (c.if-not-spare_clear.true) h.upper_spare)

pub returns-then-not-spare_clear-2 : goal.returns-then-not-spare_clear-2
returns-then-not-spare_clear-2 c =
    let r = c.spare_clear-2 in
    (λ e. absurd (false≢true e), λ _ h. r.ensures.1 (c.if-not-spare_clear-2.true) h.lower_spare)

-- both runs have no spare bit set
trimmed : (c : Else-not-spare_clear-2)
    → let a = c.args in
    Trimmed a.s.now a.g
trimmed c =
    let low = c.spare_clear-2 in
    let e = c in
    let up = e.spare_clear in
    record {
      laid = e.requires;
      upper_spare = up.ensures.0 (e.if-not-spare_clear.false);
      lower_spare = low.ensures.0 (c.if-not-spare_clear-2.false);
    }

pub spaced-requires : goal.spaced-requires
spaced-requires c = (trimmed c.before.before.before, c.if-g-eq0.true)

pub climbing-requires : goal.climbing-requires
climbing-requires c = trimmed c.before.before.before
