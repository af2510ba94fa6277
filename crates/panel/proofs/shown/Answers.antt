-- `shown` is full where as many pages as the screen has were found, and goes on behind the last of them.
use mathlib.Core.Path.{◌≡◌, sym, ◌∙◌}
use Prim.Native.Nat.{◌-◌}
use native.Mathlib.Omega.{arith}
use lib.ListN.{take}
use lib.Seq.{length-take-le, get_or-take}
use Rattle.panel.proofs.ScreenLaws.{not_full, just_full}
use Rattle.panel.proofs.shown.Goals as goal

pub returns-then-found-r : goal.returns-then-found-r
returns-then-found-r c =
    let a = c.args in
    let l = length-take-le a.found a.list.now (omega (arith, c.requires)) in
    let n = not_full a.r (take a.found a.list.now) (omega (arith, l, c.if-found-r.true)) in
    record { found = sym l; next = rw n }

pub overflow_add-result : goal.overflow_add-result
overflow_add-result c =
    let all : c.args.found ≡ c.args.r = omega (arith, c.requires.1, c.if-found-r.false) in
    omega (arith, rw (← all) at (c.requires.3 all))

pub returns : goal.returns
returns c =
    let a = c.args in
    let all : a.found ≡ a.r = omega (arith, c.requires.1, c.if-found-r.false) in
    let l = length-take-le a.found a.list.now (omega (arith, c.requires)) in
    let n = just_full a.r (take a.found a.list.now) (l ∙ all) in
    let last = get_or-take a.found a.list.now (a.found - 1) 0 (omega (arith, c.requires.0, all)) in
    record { found = sym l; next = rw (n, ← all, last) }
