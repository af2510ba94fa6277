-- `place_after` finds the zero in its word, and gives the run's end where that is before it.
use mathlib.Core.Path.{sym, ◌∙◌}
use Prim.Native.Nat.{◌+◌, ◌-◌, ◌^◌, ◌<◌, ◌≤◌}
use native.Mathlib.Omega.{arith}
use lib.Count.{ones}
use Rattle.rules.specs.Bytes.{Bytes}
use Rattle.rules.specs.Runs.{words_for}
use Rattle.pointlaws.proofs.PointLaws.{reached_in, place_end, place_word}
use Rattle.pointing.proofs.place_after.Lts
use Rattle.pointing.proofs.place_after.Reads
use Rattle.pointing.proofs.place_after.Tie
use Rattle.pointing.proofs.place_after.Goals as goal

abbrev Start : Type 0
Start = Lts.Start Tie.the-claims Reads.Pre Reads.Post

abbrev Else-b-at : Type 0
Else-b-at = Lts.Else1 Tie.the-claims Reads.Pre Reads.Post

abbrev After-run_word-x : Type 0
After-run_word-x = Lts.After-run_word Tie.the-claims Reads.Pre Reads.Post

-- the words that are passed are few
few : (c : Start) → c.args.at.words < 2 ^ 27
unfolding words_for
few c = omega (arith, c.requires.1, c.requires.2.before.within)

pub returns-then-b-at : goal.returns-then-b-at
returns-then-b-at c =
    let start = c in
    let a = start.args in
    sym (place_end (words_for a.b) a.h a.run.now a.at start.requires.2.before a.b c.if-b-at.true)

inside : (c : Else-b-at) → let a = c.args in a.at.words < words_for a.b
unfolding words_for
inside c = omega (arith, c.if-b-at.false)

bytes_at : (c : Else-b-at) → Bytes c.args.run.now
bytes_at c i = omega (arith, c.shared_slice_known-1.given i)

pub run_word-x-requires : goal.run_word-x-requires
run_word-x-requires c =
    let i = inside c.before in
    omega (arith, c.requires.0)

-- the zero is in the word
zero_in : (c : After-run_word-x)
    → let a = c.args in a.h + ones c.run_word-x.result ≤ a.at.zeros + 64
zero_in c =
    let start = c in
    let a = start.args in
    let r = start.requires.2 in
    reached_in (words_for a.b) a.h a.run.now a.at r.before (bytes_at c.before) (inside c.before)
    c.run_word-x.result c.run_word-x.ensures r

pub after_zero-requires : goal.after_zero-requires
after_zero-requires c =
    let w = c in
    omega (arith, zero_in w.before.before.before, w.requires.2.before.short)

pub returns : goal.returns
returns c =
    let z = c in
    let w = z in
    let start = w in
    let a = start.args in
    let b = start.requires.2.before in
    c.min.ensures
    ∙ place_word (words_for a.b) a.h a.run.now a.at b (bytes_at w.before.before.before.before.before.before) (inside w.before.before.before.before.before.before)
    w.run_word-x.result w.run_word-x.ensures (a.h - a.at.zeros - 1 + 1) z.after_zero.result a.b
    (omega (arith, b.short)) z.after_zero.ensures.0 z.after_zero.ensures.1

pub overflow_mul-at : goal.overflow_mul-at
overflow_mul-at c = record { fits = omega (arith, few c.before.before.before) }
