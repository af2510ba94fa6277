-- `check_term_below` gives the refusal of the term, and where it has passed compares the U of its pages.
use mathlib.Core.Bool.{cond, not}
use mathlib.Core.Path.{◌≡◌, sym, ap, ◌∙◌}
use native.Mathlib.Omega.{arith}
use borrow.Author.Tests.{eq-eqb, ne_eqb}
use lib.Dec.{eqb}
use lib.ListN.{length}
use Rattle.rules.specs.Verdict.{Accepted, Parts}
use Rattle.rules.specs.ReadList.{list_u}
use Rattle.rules.specs.ReadTerm.{pages_of, term_refusal}
use Rattle.laws.proofs.RefusalLaws.{handed_on, went_on, and_then_next}
use Rattle.listlaws.proofs.RefusalLaws.{part_framed}
use Rattle.termlaws.proofs.Theorems.{accepted_lists}
use Rattle.cardlaws.specs.Terms.{word_refusal}
use Rattle.checkindex.proofs.check_term_below.Goals as goal
use Rattle.checkindex.proofs.check_term_below.Goals.{In_ok-check_term, After-read_u32}

pub returns-in_err-check_term : goal.returns-in_err-check_term
returns-in_err-check_term c =
    let a = c.args in
    handed_on c.check_term.result (term_refusal a.version a.block.now) c.check_term.ensures c.from_residual.result
    (cond (not (eqb (list_u (pages_of a.block.now)) a.n)) Parts Accepted) c.in_err-check_term.field-0.0
    c.in_err-check_term.was c.from_residual.ensures

term_at : (c : In_ok-check_term) → term_refusal c.args.version c.args.block.now ≡ Accepted
term_at c =
    went_on c.check_term.result (term_refusal c.args.version c.args.block.now) c.check_term.ensures
    c.in_ok-check_term.field-0 c.in_ok-check_term.was

pub pages_of-pages-requires : goal.pages_of-pages-requires
pages_of-pages-requires c = record { version = c.args.version; accepted = term_at c }

pub read_u32-requires : goal.read_u32-requires
read_u32-requires c =
    let a = c.args in
    let s = a.block.now in
    let t = term_at (goal.at.read_u32-requires c).In_ok-check_term in
    let l = (part_framed a.version (pages_of s) (accepted_lists a.version s t).pages).0.header in
    omega (arith, ap length c.pages_of-pages.ensures)

-- the pages' U is read, and the refusal is by it
by_N : (c : After-read_u32)
    → let a = c.args in
    term_refusal a.version a.block.now ≡ Accepted
    → word_refusal a.version a.n a.block.now ≡ cond (not (eqb c.read_u32.result a.n)) Parts Accepted
unfolding list_u
by_N c t =
    let a = c.args in
    let u : c.read_u32.result ≡ list_u (pages_of a.block.now) = c.read_u32.ensures.0 ∙ ap list_u c.pages_of-pages.ensures in
    and_then_next (term_refusal a.version a.block.now)
    (cond (not (eqb (list_u (pages_of a.block.now)) a.n)) Parts Accepted) t
    ∙ rw u

pub returns-then-read_u32-n : goal.returns-then-read_u32-n
returns-then-read_u32-n c =
    let p = goal.at.returns-then-read_u32-n c in
    sym (by_N p.After-read_u32 (term_at p.In_ok-check_term)
    ∙ rw (ne_eqb c.read_u32.result c.args.n c.if-read_u32-n.true))

pub returns : goal.returns
returns c =
    let p = goal.at.returns c in
    sym (by_N p.After-read_u32 (term_at p.In_ok-check_term)
    ∙ rw (eq-eqb c.read_u32.result c.args.n c.if-read_u32-n.false))
