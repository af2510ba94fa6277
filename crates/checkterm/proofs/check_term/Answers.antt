-- `check_term` gives the refusal: of the header first, then of the lists, then of what follows them.
use mathlib.Core.Bool.{Bool, true, false, cond, not}
use mathlib.Core.Path.{◌≡◌, sym, ap, ◌∙◌}
use mathlib.Core.List.{List}
use Prim.Native.Nat.{ℕ}
use native.Mathlib.Omega.{arith}
use Rattle.rules.specs.Verdict.{Verdict, Accepted, Version}
use Rattle.rules.specs.Limits.{version, last_edition, up_to, term_header}
use Rattle.rules.specs.ReadTerm.{lists_of, term_refusal}
use Rattle.laws.proofs.RefusalLaws.{handed_on, went_on, and_then_next}
use Rattle.laws.proofs.HeadLaws.{head_passed}
use Rattle.parts.specs.Places.{head_refusal}
use Rattle.checkterm.specs.Lists.{lists_refusal, rest_refusal}
use Rattle.checkterm.proofs.ListsLaws.{told, term_then, lists_in}
use Rattle.checkterm.proofs.check_term.Goals as goal
use Rattle.checkterm.proofs.check_term.Goals.{In_ok-check_head, Else-not-known, In_ok-check_lists}

-- what the refusal is behind the header
abbrev behind : ℕ → List ℕ → Verdict
behind v s = cond (not (up_to last_edition v)) Version (told v s)

pub returns-in_err-check_head : goal.returns-in_err-check_head
returns-in_err-check_head c =
    let a = c.args in
    handed_on c.check_head.result (head_refusal term_header version a.block.now) c.check_head.ensures
    c.from_residual.result (behind a.version a.block.now) c.in_err-check_head.field-0.0 c.in_err-check_head.was
    c.from_residual.ensures
    ∙ sym (term_then a.version a.block.now)

head_at : (c : In_ok-check_head) → head_refusal term_header version c.args.block.now ≡ Accepted
head_at c =
    went_on c.check_head.result (head_refusal term_header version c.args.block.now) c.check_head.ensures
    c.in_ok-check_head.field-0 c.in_ok-check_head.was

behind_head : (v : ℕ) (s : List ℕ) → head_refusal term_header version s ≡ Accepted → term_refusal v s ≡ behind v s
behind_head v s e = term_then v s ∙ and_then_next (head_refusal term_header version s) (behind v s) e

pub returns-then-not-known : goal.returns-then-not-known
returns-then-not-known c =
    let a = c.args in
    let u : up_to last_edition a.version ≡ false = sym c.known.ensures ∙ c.if-not-known.true in
    sym (behind_head a.version a.block.now (head_at (goal.at.returns-then-not-known c).In_ok-check_head)
    ∙ ap (λ (b : Bool). cond (not b) Version (told a.version a.block.now)) u)

behind_known : (c : Else-not-known) → head_refusal term_header version c.args.block.now ≡ Accepted
    → term_refusal c.args.version c.args.block.now ≡ told c.args.version c.args.block.now
behind_known c e =
    let a = c.args in
    let u : up_to last_edition a.version ≡ true = sym c.known.ensures ∙ c.if-not-known.false in
    behind_head a.version a.block.now e ∙ ap (λ (b : Bool). cond (not b) Version (told a.version a.block.now)) u

pub check_lists-requires : goal.check_lists-requires
check_lists-requires c =
    omega (
      arith,
      (head_passed term_header version c.args.block.now Accepted
          (head_at (goal.at.check_lists-requires c).In_ok-check_head)).0.header,
    )

pub returns-in_err-check_lists : goal.returns-in_err-check_lists
returns-in_err-check_lists c =
    let a = c.args in
    let p = goal.at.returns-in_err-check_lists c in
    handed_on c.check_lists.result (lists_refusal a.version 3 (lists_of a.block.now)) c.check_lists.ensures
    c.from_residual-in_err-check_lists.result (rest_refusal a.block.now) c.in_err-check_lists.field-0.0 c.in_err-check_lists.was
    c.from_residual-in_err-check_lists.ensures
    ∙ sym (behind_known p.Else-not-known (head_at p.In_ok-check_head))

lists_at : (c : In_ok-check_lists) → lists_refusal c.args.version 3 (lists_of c.args.block.now) ≡ Accepted
lists_at c =
    let a = c.args in
    went_on c.check_lists.result (lists_refusal a.version 3 (lists_of a.block.now)) c.check_lists.ensures
    c.in_ok-check_lists.field-0 c.in_ok-check_lists.was

pub check_rest-requires : goal.check_rest-requires
check_rest-requires c = lists_in c.args.version c.args.block.now (lists_at c)

pub returns : goal.returns
returns c =
    let a = c.args in
    let p = goal.at.returns c in
    c.check_rest.ensures
    ∙ sym (behind_known p.Else-not-known (head_at p.In_ok-check_head)
    ∙ and_then_next (lists_refusal a.version 3 (lists_of a.block.now)) (rest_refusal a.block.now)
    (lists_at p.In_ok-check_lists))
