-- `low_part` reads a field of one or two words of the lower run; of width 0 it reads none.
use mathlib.Core.Path.{◌≡◌, refl, ◌∙◌}
use Prim.Native.Nat.{◌+◌, ◌-◌, ◌*◌, ◌^◌, ◌≤◌, ◌<◌}
use lib.ListN.{length, take, drop, length-drop}
use lib.Seq.{length-take-le}
use native.Mathlib.Omega.{arith}
use Rattle.rules.specs.Runs.{field, words_for}
use Rattle.laws.proofs.RunLaws.{word_part, run_field}
use Rattle.readlaws.proofs.ReadLaws.{Reading, open_reads, low_inside, low_small}
use Rattle.landing.proofs.low_part.Lts
use Rattle.landing.proofs.low_part.Reads
use Rattle.landing.proofs.low_part.Tie
use Rattle.landing.proofs.low_part.Goals as goal

abbrev Start : Type 0
Start = Lts.Start Tie.the-claims Reads.Pre Reads.Post

-- at the entry
reads : (c : Start) → Reading c.args.s.now c.args.g
reads c = open_reads c.args.s.now c.args.g c.requires.0

within : (c : Start) → c.args.rank * c.args.g.w + c.args.g.w ≤ c.args.g.n * c.args.g.w
within c = low_inside c.args.s.now c.args.g c.requires.0 c.args.rank c.requires.1

small : (c : Start) → field c.args.s.now c.args.g.lower (c.args.rank * c.args.g.w) c.args.g.w
    < 2 ^ 24
small c = low_small c.args.s.now c.args.g c.requires.0 c.args.rank c.requires.1

-- the part that is the lower run
run_length : (c : Start) → length (take (c.args.g.upper - c.args.g.lower)
    (drop c.args.g.lower c.args.s.now)) ≡ c.args.g.upper - c.args.g.lower
run_length c =
    let r = reads c in
    let d = length-drop c.args.g.lower c.args.s.now in
    length-take-le _ _ (omega (arith, d))

pub returns-then-g-eq0 : goal.returns-then-g-eq0
unfolding field
returns-then-g-eq0 c = rw c.if-g-eq0.true (refl, omega arith)

pub slice_bounds-run-count : goal.slice_bounds-run-count
slice_bounds-run-count c =
    let r = reads c.before.before.before.before in
    omega arith

pub slice_bounds-run-start : goal.slice_bounds-run-start
slice_bounds-run-start c =
    let r = reads c.before.before.before.before in
    omega arith

pub slice_bounds-run-end : goal.slice_bounds-run-end
slice_bounds-run-end c =
    let r = reads c.before.before.before.before in
    omega arith

pub overflow_mul-o : goal.overflow_mul-o
overflow_mul-o c =
    let start = c in
    let r = reads start.before.before.before.before.before.before in
    record { fits = omega (arith, within start.before.before.before.before.before.before) }

pub run_word-word-requires : goal.run_word-word-requires
unfolding words_for
run_word-word-requires c =
    let start = c in
    let r = reads start.before.before.before.before.before.before in
    omega (arith, within start.before.before.before.before.before.before, run_length start.before.before.before.before.before.before)

pub overflow_add-place : goal.overflow_add-place
overflow_add-place c =
    let r = reads c.before.before.before.before.before.before.before.before in
    record { fits = omega arith }

pub overflow_add-k : goal.overflow_add-k
overflow_add-k c =
    let start = c in
    let r = reads start.before.before.before.before.before.before.before.before.before in
    record { fits = omega (arith, within start.before.before.before.before.before.before.before.before.before) }

pub run_word-requires : goal.run_word-requires
unfolding words_for
run_word-requires c =
    let start = c in
    let r = reads start.before.before.before.before.before.before.before.before.before in
    omega (arith, within start.before.before.before.before.before.before.before.before.before, run_length start.before.before.before.before.before.before.before.before.before)

pub field_of-requires : goal.field_of-requires
field_of-requires c =
    let r = reads c.before.before.before.before.before.before.before.before.before.before in
    (omega arith, omega arith)

pub returns-then-place-g-gt64 : goal.returns-then-place-g-gt64
returns-then-place-g-gt64 c =
    let h = c in
    let w = h in
    let start = c in
    let a = start.args in
    let r = reads start.before.before.before.before.before.before.before.before.before.before.before in
    let word = w.run_word-word.ensures
    ∙ word_part a.s.now (a.g.upper - a.g.lower) a.g.lower _ (unfold words_for in omega (arith, within start.before.before.before.before.before.before.before.before.before.before.before)) in
    let next = h.run_word.ensures
    ∙ word_part a.s.now (a.g.upper - a.g.lower) a.g.lower _ (unfold words_for in omega (arith, within start.before.before.before.before.before.before.before.before.before.before.before)) in
    let e = c.field_of.ensures
    ∙ run_field a.s.now a.g.lower w.run_word-word.result h.run_word.result (a.rank * a.g.w) a.g.w
    (omega arith) word (omega arith) (λ v. next) in
    (e, rw e (small start.before.before.before.before.before.before.before.before.before.before.before))

pub field_of-requires-2 : goal.field_of-requires-2
field_of-requires-2 c =
    let r = reads c.before.before.before.before.before.before.before.before.before in
    (omega arith, omega arith)

pub returns : goal.returns
returns c =
    let w = c in
    let start = c in
    let a = start.args in
    let r = reads start.before.before.before.before.before.before.before.before.before.before in
    let word = w.run_word-word.ensures
    ∙ word_part a.s.now (a.g.upper - a.g.lower) a.g.lower _ (unfold words_for in omega (arith, within start.before.before.before.before.before.before.before.before.before.before)) in
    let e = c.field_of-2.ensures
    ∙ run_field a.s.now a.g.lower w.run_word-word.result 0 (a.rank * a.g.w) a.g.w (omega arith)
    word (omega arith) (λ v. absurd (omega arith)) in
    (e, rw e (small start.before.before.before.before.before.before.before.before.before.before))
