-- `check_front` gives the refusal of the block's length: each test is that of its number.
use mathlib.Core.Path.{◌≡◌, sym, ◌∙◌}
use native.Mathlib.Omega.{arith}
use lib.ListN.{drop, length-drop}
use Rattle.rules.specs.Verdict.{Accepted}
use Rattle.rules.specs.ReadList.{stated}
use Rattle.laws.proofs.PartLaws.{stated_drop, inside_short, inside_less, inside_more, inside_is}
use Rattle.parts.proofs.check_front.Lts
use Rattle.parts.proofs.check_front.Reads
use Rattle.parts.proofs.check_front.Tie
use Rattle.parts.proofs.check_front.Goals as goal

abbrev After-read_u32-size : Type 0
After-read_u32-size = Lts.After-read_u32 Tie.the-claims Reads.Pre Reads.Post

pub returns-then-left-h : goal.returns-then-left-h
returns-then-left-h c =
    let a = c.args in
    let l = length-drop a.at a.s.now in
    sym (inside_short a.h (λ _. Accepted) (drop a.at a.s.now) (omega (arith, c.if-left-h.true)))

stated_at : (c : After-read_u32-size)
    → let a = c.args in
    stated (drop a.at a.s.now) ≡ c.read_u32-size.result
stated_at c =
    let a = c.args in
    stated_drop a.at a.s.now ∙ sym c.read_u32-size.ensures.0

pub returns-then-size-h : goal.returns-then-size-h
returns-then-size-h c =
    let r = c.before.before in
    let a = r.args in
    let l = length-drop a.at a.s.now in
    let e = stated_at r in
    sym (inside_less a.h (λ _. Accepted) (drop a.at a.s.now) (omega (arith, r.if-left-h.false))
    (omega (arith, c.if-size-h.true)))

pub returns-then-left-size : goal.returns-then-left-size
returns-then-left-size c =
    let r = c.before.before.before in
    let a = r.args in
    let l = length-drop a.at a.s.now in
    let e = stated_at r in
    sym (inside_more a.h (λ _. Accepted) (drop a.at a.s.now) (omega (arith, r.if-left-h.false))
    (omega (arith, c.if-size-h.false)) (omega (arith, c.if-left-size.true)))

pub returns : goal.returns
returns c =
    let r = c.before.before.before in
    let a = r.args in
    let l = length-drop a.at a.s.now in
    let e = stated_at r in
    sym (inside_is a.h (λ _. Accepted) (drop a.at a.s.now) (omega (arith, c.if-size-h.false))
    (omega (arith, c.if-left-size.false)))
