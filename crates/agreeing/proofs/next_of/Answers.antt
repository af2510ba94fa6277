-- `next_of` reads the last element, whose rank is one less than their number.
use mathlib.Core.Path.{◌≡◌, sym, ap, ◌∙◌}
use Prim.Native.Nat.{ℕ, ◌-◌, ◌+◌}
use native.Mathlib.Omega.{arith}
use lib.ListN.{length, get_or}
use Rattle.rules.specs.ReadList.{form_at, decode}
use Rattle.rules.specs.Term.{next}
use Rattle.readlaws.proofs.FormLaws.{alone_valid, alone_opens, form_length}
use Rattle.agreeing.proofs.AgreeLaws.{next_last, next_none, accepted_next}
use Rattle.agreeing.proofs.next_of.Lts
use Rattle.agreeing.proofs.next_of.Reads
use Rattle.agreeing.proofs.next_of.Tie
use Rattle.agreeing.proofs.next_of.Goals as goal

abbrev After-shape_at-g : Type 0
After-shape_at-g = Lts.After-shape_at Tie.the-claims Reads.Pre Reads.Post

abbrev After-last_of : Type 0
After-last_of = Lts.After-last_of Tie.the-claims Reads.Pre Reads.Post

pub shape_at-g-requires : goal.shape_at-g-requires
shape_at-g-requires c = alone_valid c.args.list.now c.requires

-- the shape's n is the number of elements
many : (c : After-shape_at-g) → c.shape_at-g.result.n ≡ length (decode c.args.list.now)
many c =
    let s = c.args.list.now in
    sym (form_length (form_at s) s c.shape_at-g.result c.shape_at-g.ensures.0)

pub returns-then-g-eq0 : goal.returns-then-g-eq0
returns-then-g-eq0 c =
    let g = c in
    let s = g.args.list.now in
    sym (next_none 0 (decode s) (omega (arith, many g.before.before.before, c.if-g-eq0.true)))

pub last_of-requires : goal.last_of-requires
last_of-requires c =
    let g = c in
    let b = g in
    (alone_opens b.args.list.now b.requires g.shape_at-g.result g.shape_at-g.ensures.1, omega (arith, c.if-g-eq0.false))

last_is : (c : After-last_of) → c.last_of.result + 1
    ≡ next 0 (decode c.args.list.now)
last_is c =
    let g = c in
    let s = g.args.list.now in
    let e : g.shape_at-g.result.n - 1 ≡ length (decode s) - 1 = omega (arith, many g.before.before.before) in
    ap (λ (x : ℕ). x + 1) (c.last_of.ensures ∙ ap (λ (i : ℕ). get_or (decode s) i 0) e)
    ∙ sym (next_last 0 (decode s) (omega (arith, many g.before.before.before, c.if-g-eq0.false)))

pub overflow_add-result : goal.overflow_add-result
overflow_add-result c =
    let b = c in
    omega (arith, last_is c.before, accepted_next b.args.list.now b.requires)

pub returns : goal.returns
returns c = last_is c.before
