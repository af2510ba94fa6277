-- `check_head` gives the refusal of the first three tests: each is that of its number.
use mathlib.Core.Path.{◌≡◌, sym, ◌∙◌}
use native.Mathlib.Omega.{arith}
use Rattle.rules.specs.Verdict.{Accepted}
use Rattle.rules.specs.ReadList.{stated}
use lib.ListN.{length, get_or}
use Rattle.laws.proofs.HeadLaws.{head_short, head_length, head_version, head_next, up_to_known, up_to_below, up_to_above}
use Rattle.parts.proofs.check_head.Lts
use Rattle.parts.proofs.check_head.Reads
use Rattle.parts.proofs.check_head.Tie
use Rattle.parts.proofs.check_head.Goals as goal

abbrev Else-read_u32-block : Type 0
Else-read_u32-block = Lts.Else2 Tie.the-claims Reads.Pre Reads.Post

pub returns-then-block-h : goal.returns-then-block-h
returns-then-block-h c =
    let a = c.args in
    sym (head_short a.h a.last a.block.now Accepted c.if-block-h.true)

pub returns-then-read_u32-block : goal.returns-then-read_u32-block
unfolding stated
returns-then-read_u32-block c =
    let r = c.before.before in
    let a = r.args in
    sym (head_length a.h a.last a.block.now Accepted r.if-block-h.false
    (λ e. c.if-read_u32-block.true (r.read_u32.ensures.0 ∙ e)))

stated_at : (c : Else-read_u32-block)
    → let a = c.args in
    stated a.block.now ≡ length a.block.now
unfolding stated
stated_at c = sym c.read_u32.ensures.0 ∙ c.if-read_u32-block.false

pub returns-then-block-eq0 : goal.returns-then-block-eq0
returns-then-block-eq0 c =
    let e = c.before.before.before in
    let h = e.before.before in
    let a = h.args in
    sym (head_version a.h a.last a.block.now Accepted h.if-block-h.false (stated_at e)
    (up_to_below a.last (get_or a.block.now 4 0) (omega (arith, c.if-block-eq0.true))))

pub returns-then-last-block : goal.returns-then-last-block
returns-then-last-block c =
    let e = c.before.before.before.before.before in
    let h = e.before.before in
    let a = h.args in
    sym (head_version a.h a.last a.block.now Accepted h.if-block-h.false (stated_at e)
    (up_to_above a.last (get_or a.block.now 4 0) c.if-last-block.true))

pub returns : goal.returns
returns c =
    let v = c.before.before.before in
    let e = v.before.before in
    let h = e.before.before in
    let a = h.args in
    sym (head_next a.h a.last a.block.now Accepted (record {
      header = h.if-block-h.false;
      states = stated_at e;
      known = up_to_known a.last (get_or a.block.now 4 0) (omega (arith, v.if-block-eq0.false)) c.if-last-block.false;
    }))
