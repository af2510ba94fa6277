-- `check_terms` checks one term after the other: what is left to check from `at` on has the refusal of all.
use mathlib.Core.Path.{◌≡◌, sym, ap, ◌∙◌}
use Prim.Native.Nat.{ℕ, suc, ◌+◌, ◌-◌, ◌≤◌}
use native.Mathlib.Omega.{arith}
use lib.Dec.{lit≤}
use lib.ListN.{drop, length-drop}
use Rattle.rules.specs.Verdict.{Accepted}
use Rattle.rules.specs.Refusal.{and_then}
use Rattle.rules.specs.Limits.{term_header}
use Rattle.rules.specs.ReadList.{stated}
use Rattle.rules.specs.Index.{terms_refusal}
use Rattle.laws.proofs.RefusalLaws.{handed_on, went_on, and_then_next}
use Rattle.parts.specs.Places.{Held}
use Rattle.parts.proofs.PlaceLaws.{inside_held, drop_next}
use Rattle.cardlaws.specs.Terms.{word_refusal, word_inside}
use Rattle.checkindex.proofs.TermsLaws.{terms_more, terms_over, terms_done}
use Rattle.checkindex.proofs.check_terms.Goals as goal
use Rattle.checkindex.proofs.check_terms.Goals.{In-loop, In_ok-check_term_at}

pub loop-init : goal.loop-init
loop-init c =
    let a = c.args in
    let all : a.t - 0 ≡ a.t = omega arith in
    (omega arith, ap (λ (n : ℕ). terms_refusal a.version n a.n a.s.now) all)

-- the first of the terms that are left, and then the others
more : (c : In-loop)
    → let a = c.args in
    let l = c.loop in
    let rest = drop l.at a.s.now in
    and_then (word_inside a.version a.n rest)
    (terms_refusal a.version (a.t - (l.counter + 1)) a.n (drop (stated rest) rest))
    ≡ terms_refusal a.version a.t a.n a.s.now
more c =
    let l = c.loop in
    let a = c.args in
    let m : a.t - l.counter ≡ suc (a.t - (l.counter + 1)) = omega (arith, c.loop-test.true) in
    sym (terms_more a.version (a.t - l.counter) (a.t - (l.counter + 1)) a.n (drop l.at a.s.now) m) ∙ l.invariant.1

pub returns-in_err-check_term_at : goal.returns-in_err-check_term_at
returns-in_err-check_term_at c =
    let l = c.loop in
    let a = c.args in
    let rest = drop l.at a.s.now in
    handed_on c.check_term_at.result (word_inside a.version a.n rest) c.check_term_at.ensures c.from_residual.result
    (terms_refusal a.version (a.t - (l.counter + 1)) a.n (drop (stated rest) rest)) c.in_err-check_term_at.field-0.0
    c.in_err-check_term_at.was c.from_residual.ensures
    ∙ more (goal.at.returns-in_err-check_term_at c).In-loop

term_at : (c : In_ok-check_term_at) → word_inside c.args.version c.args.n (drop c.loop.at c.args.s.now) ≡ Accepted
term_at c =
    let a = c.args in
    went_on c.check_term_at.result (word_inside a.version a.n (drop c.loop.at a.s.now)) c.check_term_at.ensures
    c.in_ok-check_term_at.field-0 c.in_ok-check_term_at.was

here : (c : In_ok-check_term_at) → Held c.loop.at c.args.s.now
here c =
    let a = c.args in
    inside_held term_header (word_refusal a.version a.n) c.loop.at a.s.now (lit≤ tt) c.loop.invariant.0 (term_at c)

pub read_u32-requires : goal.read_u32-requires
read_u32-requires c = omega (arith, here c)

pub overflow_add-at : goal.overflow_add-at
overflow_add-at c = omega (arith, here (goal.at.overflow_add-at c).In_ok-check_term_at, c.read_u32.ensures.0)

pub loop-preserved : goal.loop-preserved
loop-preserved c =
    let l = c.loop in
    let a = c.args in
    let rest = drop l.at a.s.now in
    let p = goal.at.loop-preserved c in
    let k = p.In_ok-check_term_at in
    let others = terms_refusal a.version (a.t - (l.counter + 1)) a.n (drop (stated rest) rest) in (
      omega (arith, here k, c.read_u32.ensures.0),
      rw (c.read_u32.ensures.0, ← drop_next l.at a.s.now)
          (sym (and_then_next (word_inside a.version a.n rest) others (term_at k)) ∙ more p.In-loop),
    )

pub returns-then-at-s : goal.returns-then-at-s
returns-then-at-s c =
    let l = c.loop in
    let a = c.args in
    let d = length-drop l.at a.s.now in
    sym (terms_over a.version (a.t - l.counter) a.n (drop l.at a.s.now) (omega (arith, c.loop-test.false))
    (omega (arith, c.if-at-s.true)))
    ∙ l.invariant.1

pub returns : goal.returns
returns c =
    let l = c.loop in
    let a = c.args in
    let d = length-drop l.at a.s.now in
    sym (terms_done a.version (a.t - l.counter) a.n (drop l.at a.s.now) (omega (arith, c.loop-test.false))
    (omega (arith, c.if-at-s.false)))
    ∙ l.invariant.1
