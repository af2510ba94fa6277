-- `check_word` asks for one clause of a valid word after the other.
use mathlib.Core.Path.{sym, ◌∙◌}
use lib.ListN.{length}
use Rattle.rules.specs.Term.{places}
use Rattle.wordlaws.proofs.WordLaws.{no_word, summing_parts, lengths_differ}
use Rattle.wordlaws.proofs.WordLaws.{pages_fall, counts_fail, positions_left}
use Rattle.testword.proofs.check_word.Goals as goal

pub returns-then-pages-counts : goal.returns-then-pages-counts
returns-then-pages-counts c =
    let a = c.args in
    no_word a.n _ a.pages.now a.counts.now a.positions.now
    (lengths_differ a.n a.pages.now a.counts.now a.positions.now c.if-pages-counts.true)

pub returns-then-not-rises : goal.returns-then-not-rises
returns-then-not-rises c =
    let a = c.args in
    no_word a.n _ a.pages.now a.counts.now a.positions.now
    (pages_fall a.n a.pages.now a.counts.now a.positions.now c.if-pages-counts.false
    (sym c.rises.ensures ∙ c.if-not-rises.true))

pub returns-then-not-counts_fit : goal.returns-then-not-counts_fit
returns-then-not-counts_fit c =
    let a = c.args in
    no_word a.n _ a.pages.now a.counts.now a.positions.now
    (counts_fail a.n a.pages.now a.counts.now a.positions.now
    c.if-pages-counts.false
    (sym c.rises.ensures
    ∙ c.if-not-rises.false)
    (sym c.counts_fit.ensures ∙ c.if-not-counts_fit.true))

pub positions_rise-requires : goal.positions_rise-requires
positions_rise-requires c =
    let a = c.args in
    summing_parts (length a.positions.now) a.counts.now
    (sym c.counts_fit.ensures ∙ c.if-not-counts_fit.false)

pub returns : goal.returns
unfolding places
returns c =
    let o = c in
    let a = o.args in
    let v = positions_left a.n a.pages.now a.counts.now a.positions.now
    o.if-pages-counts.false
    (sym o.rises.ensures
    ∙ o.if-not-rises.false)
    (sym o.counts_fit.ensures ∙ o.if-not-counts_fit.false) in
    rw v c.positions_rise.ensures
