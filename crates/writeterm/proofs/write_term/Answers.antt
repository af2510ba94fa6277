-- `write_term` answers with the first test that fails, and writes the word where none does.
use mathlib.Core.Path.{sym, ◌∙◌}
use native.Mathlib.Omega.{arith}
use Rattle.rules.specs.Term.{lent_word}
use Rattle.wordlaws.proofs.WordLaws.{some_told, none_told}
use Rattle.writeterm.proofs.AnswerLaws.{answer_version, answer_limit, answer_lists, answer_reach}
use Rattle.writeterm.proofs.write_term.Goals as goal

pub returns-then-not-known : goal.returns-then-not-known
returns-then-not-known c =
    let a = c.args in
    let t = lent_word a.pages.now a.counts.now a.positions.now in
    sym (answer_version a.version a.n t a.room.now (sym c.known.ensures ∙ c.if-not-known.true))

pub returns-then-n-gt-LIMIT : goal.returns-then-n-gt-LIMIT
returns-then-n-gt-LIMIT c =
    let a = c.args in
    let t = lent_word a.pages.now a.counts.now a.positions.now in
    sym (answer_limit a.version a.n t a.room.now (sym c.known.ensures ∙ c.if-not-known.false) c.if-n-gt-LIMIT.true)

pub returns-in_default : goal.returns-in_default
returns-in_default c =
    let a = c.args in
    let t = lent_word a.pages.now a.counts.now a.positions.now in
    sym (answer_lists a.version a.n t a.room.now (sym c.known.ensures ∙ c.if-not-known.false) c.if-n-gt-LIMIT.false
    (none_told _ _ c.in_default.ensures))

pub returns-then-reach-gt-LIMIT : goal.returns-then-reach-gt-LIMIT
returns-then-reach-gt-LIMIT c =
    let a = c.args in
    let t = lent_word a.pages.now a.counts.now a.positions.now in
    let w = some_told _ _ c.in-Some.reach c.in-Some.ensures in
    sym (answer_reach a.version a.n t a.room.now (sym c.known.ensures ∙ c.if-not-known.false) c.if-n-gt-LIMIT.false w.0
    (omega (arith, w.1, c.if-reach-gt-LIMIT.true)))

-- the word has passed every test
pub write_tested-requires : goal.write_tested-requires
write_tested-requires c =
    let w = some_told _ _ c.in-Some.reach c.in-Some.ensures in (
      record {
        known = sym c.known.ensures ∙ c.if-not-known.false;
        valid = w.0;
        within = c.if-n-gt-LIMIT.false;
        reach = omega (arith, w.1, c.if-reach-gt-LIMIT.false);
      },
      omega (arith, w.1, c.if-reach-gt-LIMIT.false),
    )

pub returns : goal.returns
returns c = c.write_tested.ensures
