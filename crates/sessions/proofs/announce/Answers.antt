-- `announce` answers with the first test that fails.
use mathlib.Core.Bool.{true}
use mathlib.Core.Path.{◌≡◌, sym, ◌∙◌}
use native.Mathlib.Omega.{arith}
use Rattle.rules.specs.Limits.{last_edition, up_to}
use Rattle.sessionlaws.proofs.AnnounceLaws.{announce_version, announce_limit, announce_reach, announce_pages}
use Rattle.sessionlaws.proofs.AnnounceLaws.{announce_counts, announce_positions, announce_none, announce_accepted}
use Rattle.sessions.proofs.announce.Lts
use Rattle.sessions.proofs.announce.Reads
use Rattle.sessions.proofs.announce.Tie
use Rattle.sessions.proofs.announce.Goals as goal

abbrev Else-not-known : Type 0
Else-not-known = Lts.Else1 Tie.the-claims Reads.Pre Reads.Post

pub returns-then-not-known : goal.returns-then-not-known
returns-then-not-known c =
    let k = c in
    let a = k.args in
    sym (announce_version a.version a.n a.pages a.positions a.u
    (sym k.known.ensures ∙ c.if-not-known.true))

-- the version is known where the first test is passed
known : (c : Else-not-known) → up_to last_edition c.args.version ≡ true
known c = sym c.known.ensures ∙ c.if-not-known.false

pub returns-then-n-gt-LIMIT : goal.returns-then-n-gt-LIMIT
returns-then-n-gt-LIMIT c =
    let k = c in
    let a = k.args in
    sym (announce_limit a.version a.n a.pages a.positions a.u (known k.before) c.if-n-gt-LIMIT.true)

pub returns-then-u-gt-LIMIT : goal.returns-then-u-gt-LIMIT
returns-then-u-gt-LIMIT c =
    let k = c in
    let a = k.args in
    sym (announce_reach a.version a.n a.pages a.positions a.u (known k.before.before) c.if-n-gt-LIMIT.false
    c.if-u-gt-LIMIT.true)

pub returns-then-n-pages : goal.returns-then-n-pages
returns-then-n-pages c =
    let k = c in
    let a = k.args in
    sym (announce_pages a.version a.n a.pages a.positions a.u (known k.before.before.before) c.if-n-gt-LIMIT.false
    c.if-u-gt-LIMIT.false c.if-n-pages.true)

pub returns-then-positions-pages : goal.returns-then-positions-pages
returns-then-positions-pages c =
    let k = c in
    let a = k.args in
    sym (announce_counts a.version a.n a.pages a.positions a.u (known k.before.before.before.before) (omega arith) (omega arith)
    (omega arith) (omega arith))

pub returns-then-u-positions : goal.returns-then-u-positions
returns-then-u-positions c =
    let k = c in
    let a = k.args in
    sym (announce_positions a.version a.n a.pages a.positions a.u (known k.before.before.before.before.before) (omega arith) (omega arith)
    (omega arith) (omega arith) (omega arith))

pub returns-then-u-gt0 : goal.returns-then-u-gt0
returns-then-u-gt0 c =
    let k = c in
    let a = k.args in
    sym (announce_none a.version a.n a.pages a.positions a.u (known k.before.before.before.before.before.before.before) (omega arith) (omega arith)
    (omega arith) (omega arith) (omega arith) (omega arith) (omega arith))

pub returns-else-u-gt0 : goal.returns-else-u-gt0
returns-else-u-gt0 c =
    let k = c in
    let a = k.args in
    sym (announce_accepted a.version a.n a.pages a.positions a.u (known k.before.before.before.before.before.before.before) (omega arith) (omega arith)
    (omega arith) (omega arith) (omega arith) (λ e. omega arith))

pub returns-else-pages-eq0 : goal.returns-else-pages-eq0
returns-else-pages-eq0 c =
    let k = c in
    let a = k.args in
    sym (announce_accepted a.version a.n a.pages a.positions a.u (known k.before.before.before.before.before.before) (omega arith) (omega arith)
    (omega arith) (omega arith) (omega arith) (λ e. absurd (c.if-pages-eq0.false e)))
