-- `pass` stands at the start, or where `skip` takes it.
use mathlib.Core.Path.{◌≡◌, refl, ap, ◌∙◌}
use Prim.Native.Nat.{ℕ, ◌+◌, ◌*◌, ◌/◌, ◌%◌, ◌^◌}
use native.Mathlib.Omega.{arith}
use Rattle.rules.specs.Runs.{run_word}
use Rattle.readlaws.proofs.ReadLaws.{open_reads}
use Rattle.walklaws.proofs.OpenLaws.{look_fits, open_some, open_run, open_ruled}
use Rattle.walklaws.proofs.StartLaws.{start_word, own_le, passed_start, skipping_start, passed_skip}
use Rattle.passing.proofs.pass.Lts
use Rattle.passing.proofs.pass.Reads
use Rattle.passing.proofs.pass.Tie
use Rattle.passing.proofs.pass.Goals as goal

abbrev After-behind : Type 0
After-behind = Lts.After-behind Tie.the-claims Reads.Pre Reads.Post

pub overflow_shr-h : goal.overflow_shr-h
overflow_shr-h c =
    let start = c in
    let r = open_reads start.args.s.now start.args.g start.requires.0 in
    omega arith

pub look-word-requires : goal.look-word-requires
look-word-requires c =
    let start = c in
    let a = start.args in
    let p = start.requires in
    look_fits a.s.now a.g (open_run a.s.now a.g p.0) (a.from.bit / 64) a.looks.now
    (start_word a.s.now a.g p.0 a.b a.from p.2 p.3) (omega arith)

pub behind-requires : goal.behind-requires
behind-requires c =
    let start = c in
    let a = start.args in
    let p = start.requires in
    (omega arith, own_le a.s.now a.g p.0 a.b a.from p.2 p.3)

-- what is left of the start's word
left_is : (c : After-behind) →
    let a = c.args in
    c.behind.result
    ≡ run_word a.s.now a.g.upper (a.from.bit / 64) / 2 ^ (a.from.bit % 64 + a.from.own)
    * 2 ^ (a.from.bit % 64 + a.from.own)
left_is c =
    let a = c.args in
    c.behind.ensures
    ∙ ap (λ (x : ℕ). x / 2 ^ (a.from.bit % 64 + a.from.own) * 2 ^ (a.from.bit % 64 + a.from.own))
    c.look-word.ensures.0

pub overflow_add-at : goal.overflow_add-at
overflow_add-at c =
    let start = c in
    let a = start.args in
    let p = start.requires in
    let r = open_reads a.s.now a.g p.0 in
    record { fits = omega (arith, own_le a.s.now a.g p.0 a.b a.from p.2 p.3) }

pub overflow_add-from : goal.overflow_add-from
overflow_add-from c =
    let start = c in
    let r = open_reads start.args.s.now start.args.g start.requires.0 in
    record { fits = omega (arith, start.requires.2.counted) }

pub returns-then-h-from : goal.returns-then-h-from
returns-then-h-from c =
    let start = c in
    let a = start.args in
    let p = start.requires in
    let e = c.look-word.ensures in (
      passed_start a.s.now a.g p.0 a.b a.from p.2 p.3 _ (left_is c.before.before.before.before.before) refl refl,
      omega (arith, e.1),
    )

pub skip-requires : goal.skip-requires
skip-requires c =
    let start = c in
    let a = start.args in
    let p = start.requires in
    let e = c.look-word.ensures in (
      p.0,
      (open_ruled a.s.now a.g p.0 (open_some a.s.now a.g p.0 (omega arith))).zeros_is a.b p.1,
      skipping_start a.s.now a.g p.0 a.b a.from p.2 p.3 _ (left_is c.before.before.before.before.before.before) refl refl _
          (omega arith),
      omega (arith, e.1),
    )

pub returns : goal.returns
returns c =
    let start = c in
    let a = start.args in
    let p = start.requires in
    let e = c.look-word.ensures in (
      passed_skip a.s.now a.g p.0 a.b a.from p.2 p.3 _ c.skip.ensures.0,
      omega (arith, e.1, c.skip.ensures.1),
    )
