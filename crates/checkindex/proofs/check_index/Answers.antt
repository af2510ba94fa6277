-- `check_index` gives the refusal: of the header first, and then of what is behind it.
use mathlib.Core.Path.{◌≡◌, sym, ap, ◌∙◌}
use mathlib.Core.List.{List}
use Prim.Native.Nat.{ℕ, ◌≤◌}
use native.Mathlib.Omega.{arith}
use lib.ListN.{length, get_or, drop}
use Rattle.rules.specs.Verdict.{Verdict}
use Rattle.rules.specs.Verdict.{Accepted}
use Rattle.rules.specs.Bytes.{be_at}
use Rattle.rules.specs.Limits.{last_edition, index_header}
use Rattle.rules.specs.Index.{index_v, index_n, index_t}
use Rattle.laws.proofs.RefusalLaws.{handed_on, went_on, and_then_next}
use Rattle.laws.proofs.HeadLaws.{head_passed}
use Rattle.parts.specs.Places.{head_refusal}
use Rattle.parts.proofs.PlaceLaws.{part_behind}
use Rattle.cardlaws.specs.Terms.{body_refusal}
use Rattle.checkindex.proofs.TermsLaws.{index_then}
use Rattle.checkindex.proofs.check_index.Goals as goal
use Rattle.checkindex.proofs.check_index.Goals.{In_ok-check_head}

-- the refusal behind the header
abbrev inner : List ℕ → Verdict
inner s = body_refusal (index_v s) (index_t s) (index_n s) (drop index_header s)

pub returns-in_err-check_head : goal.returns-in_err-check_head
returns-in_err-check_head c =
    let s = c.args.card.now in
    handed_on c.check_head.result (head_refusal index_header last_edition s) c.check_head.ensures c.from_residual.result
    (inner s) c.in_err-check_head.field-0.0 c.in_err-check_head.was c.from_residual.ensures
    ∙ sym (index_then s)

head_at : (c : In_ok-check_head) → head_refusal index_header last_edition c.args.card.now ≡ Accepted
head_at c =
    went_on c.check_head.result (head_refusal index_header last_edition c.args.card.now) c.check_head.ensures
    c.in_ok-check_head.field-0 c.in_ok-check_head.was

header : (c : In_ok-check_head) → 11 ≤ length c.args.card.now
header c = (head_passed index_header last_edition c.args.card.now Accepted (head_at c)).0.header

read_N : (s : List ℕ) (n : ℕ) → n ≡ be_at 4 s 5 → n ≡ index_n s
unfolding index_n
read_N s n e = e

read_T : (s : List ℕ) (t : ℕ) → t ≡ be_at 2 s 9 → t ≡ index_t s
unfolding index_t
read_T s t e = e

pub returns : goal.returns
returns c =
    let s = c.args.card.now in
    let h = head_at (goal.at.returns c).In_ok-check_head in
    c.check_body.ensures
    ∙ ap (body_refusal (get_or s 4 0) c.read_u16-t.result c.read_u32-n.result) (part_behind 11 s)
    ∙ rw (read_T s c.read_u16-t.result c.read_u16-t.ensures.0, read_N s c.read_u32-n.result c.read_u32-n.ensures.0) (unfold index_v in sym (index_then s ∙ and_then_next (head_refusal index_header last_edition s) (inner s) h))
