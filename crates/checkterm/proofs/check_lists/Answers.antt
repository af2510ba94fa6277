-- `check_lists` checks one list after the other: what is left to check from `at` on has the refusal of all three.
use mathlib.Core.Path.{◌≡◌, refl, sym, ◌∙◌}
use Prim.Native.Nat.{suc, ◌+◌, ◌-◌, ◌≤◌}
use native.Mathlib.Omega.{arith}
use lib.Dec.{lit≤}
use lib.ListN.{drop}
use Rattle.rules.specs.Verdict.{Accepted}
use Rattle.rules.specs.Refusal.{and_then}
use Rattle.rules.specs.Limits.{version, list_header}
use Rattle.rules.specs.ReadList.{stated, part_refusal}
use Rattle.rules.specs.Parts.{inside}
use Rattle.rules.specs.ReadTerm.{lists_of}
use Rattle.laws.proofs.RefusalLaws.{handed_on, went_on, and_then_next}
use Rattle.parts.specs.Places.{Held}
use Rattle.parts.proofs.PlaceLaws.{inside_held, drop_next}
use Rattle.checkterm.specs.Lists.{lists_refusal}
use Rattle.checkterm.proofs.ListsLaws.{lists_more, lists_none}
use Rattle.checkterm.proofs.check_lists.Goals as goal
use Rattle.checkterm.proofs.check_lists.Goals.{In-loop, In_ok-check_list_at}

pub loop-init : goal.loop-init
unfolding lists_of
loop-init c = (c.requires, refl)

-- the first of the lists that are left, and then the others
more : (c : In-loop)
    → let l = c.loop in
    let s = c.args.block.now in
    let rest = drop l.at s in
    and_then (inside list_header (part_refusal l.told) rest)
    (lists_refusal version (3 - (l.counter + 1)) (drop (stated rest) rest))
    ≡ lists_refusal c.args.version 3 (lists_of s)
more c =
    let l = c.loop in
    let m : 3 - l.counter ≡ suc (3 - (l.counter + 1)) = omega (arith, c.loop-test.true) in
    sym (lists_more l.told (3 - l.counter) (3 - (l.counter + 1)) (drop l.at c.args.block.now) m)
    ∙ l.invariant.1

pub returns-in_err-check_list_at : goal.returns-in_err-check_list_at
returns-in_err-check_list_at c =
    let l = c.loop in
    let rest = drop l.at c.args.block.now in
    handed_on c.check_list_at.result (inside list_header (part_refusal l.told) rest) c.check_list_at.ensures
    c.from_residual.result (lists_refusal version (3 - (l.counter + 1)) (drop (stated rest) rest))
    c.in_err-check_list_at.field-0.0 c.in_err-check_list_at.was c.from_residual.ensures
    ∙ more (goal.at.returns-in_err-check_list_at c).In-loop

list_at : (c : In_ok-check_list_at)
    → inside list_header (part_refusal c.loop.told) (drop c.loop.at c.args.block.now) ≡ Accepted
list_at c =
    went_on c.check_list_at.result (inside list_header (part_refusal c.loop.told) (drop c.loop.at c.args.block.now))
    c.check_list_at.ensures c.in_ok-check_list_at.field-0 c.in_ok-check_list_at.was

here : (c : In_ok-check_list_at) → Held c.loop.at c.args.block.now
here c =
    inside_held list_header (part_refusal c.loop.told) c.loop.at c.args.block.now (lit≤ tt) c.loop.invariant.0 (list_at c)

pub read_u32-requires : goal.read_u32-requires
read_u32-requires c = omega (arith, here c)

pub overflow_add-at : goal.overflow_add-at
overflow_add-at c = omega (arith, here (goal.at.overflow_add-at c).In_ok-check_list_at, c.read_u32.ensures.0)

pub loop-preserved : goal.loop-preserved
loop-preserved c =
    let l = c.loop in
    let s = c.args.block.now in
    let rest = drop l.at s in
    let p = goal.at.loop-preserved c in
    let k = p.In_ok-check_list_at in
    let others = lists_refusal version (3 - (l.counter + 1)) (drop (stated rest) rest) in (
      omega (arith, here k, c.read_u32.ensures.0),
      rw (c.read_u32.ensures.0, ← drop_next l.at s)
          (sym (and_then_next (inside list_header (part_refusal l.told) rest) others (list_at k)) ∙ more p.In-loop),
    )

pub returns : goal.returns
returns c =
    let l = c.loop in
    sym (lists_none l.told (3 - l.counter) (drop l.at c.args.block.now) (omega (arith, c.loop-test.false))) ∙ l.invariant.1
