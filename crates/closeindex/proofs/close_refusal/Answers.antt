-- `close_refusal` gives the refusal: each test is that of its number, and what follows the header is checked as a part.
use mathlib.Core.Bool.{true}
use mathlib.Core.Path.{◌≡◌, sym, ap, ◌∙◌}
use native.Mathlib.Omega.{arith}
use Rattle.rules.specs.Limits.{last_edition, up_to}
use Rattle.cardlaws.specs.Terms.{body_refusal}
use Rattle.cardlaws.proofs.ClosingLaws.{close_room, close_short, close_version, close_long, close_next, part_used}
use Rattle.closeindex.proofs.close_refusal.Lts
use Rattle.closeindex.proofs.close_refusal.Reads
use Rattle.closeindex.proofs.close_refusal.Tie
use Rattle.closeindex.proofs.close_refusal.Goals as goal

abbrev Else-not-known : Type 0
Else-not-known = Lts.Else3 Tie.the-claims Reads.Pre Reads.Post

pub returns-then-buffer-used : goal.returns-then-buffer-used
returns-then-buffer-used c =
    let a = c.args in
    sym (close_room a.buffer.now a.used a.version a.n a.t c.if-buffer-used.true)

pub returns-then-used-lt-INDEX_HEADER : goal.returns-then-used-lt-INDEX_HEADER
returns-then-used-lt-INDEX_HEADER c =
    let f = c in
    let a = f.args in
    sym (close_short a.buffer.now a.used a.version a.n a.t f.if-buffer-used.false c.if-used-lt-INDEX_HEADER.true)

-- an unknown version
pub returns-then-not-known : goal.returns-then-not-known
returns-then-not-known c =
    let k = c in
    let h = k in
    let f = h in
    let a = f.args in
    sym (close_version a.buffer.now a.used a.version a.n a.t f.if-buffer-used.false h.if-used-lt-INDEX_HEADER.false
    (sym k.known.ensures ∙ c.if-not-known.true))

is_known : (c : Else-not-known) → up_to last_edition c.args.version ≡ true
is_known c = sym c.known.ensures ∙ c.if-not-known.false

pub returns-then-used-ge-FOUR_BYTES : goal.returns-then-used-ge-FOUR_BYTES
returns-then-used-ge-FOUR_BYTES c =
    let k = c in
    let h = k in
    let f = h in
    let a = f.args in
    sym (close_long a.buffer.now a.used a.version a.n a.t f.if-buffer-used.false h.if-used-lt-INDEX_HEADER.false (is_known k.before.before)
    (omega arith))

pub returns : goal.returns
returns c =
    let l = c in
    let k = l in
    let h = k in
    let f = h in
    let a = f.args in
    c.check_body.ensures
    ∙ ap (body_refusal a.version a.t a.n) (part_used a.used a.buffer.now h.if-used-lt-INDEX_HEADER.false f.if-buffer-used.false)
    ∙ sym (close_next a.buffer.now a.used a.version a.n a.t f.if-buffer-used.false h.if-used-lt-INDEX_HEADER.false (is_known k.before.before.before.before)
    l.if-used-ge-FOUR_BYTES.false)
