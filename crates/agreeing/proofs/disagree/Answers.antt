-- `disagree` tells whether one of the four numbers differs from what it should be.
use mathlib.Core.Bool.{not}
use mathlib.Core.Path.{◌≡◌, sym, ap₂, ◌∙◌}
use mathlib.Core.List.{List}
use Prim.Native.Nat.{ℕ, ◌≤◌}
use native.Mathlib.Omega.{arith}
use lib.Dec.{eqb}
use lib.ListN.{length}
use Rattle.rules.specs.Verdict.{Accepted}
use Rattle.rules.specs.ReadList.{list_u, list_n, decode, list_refusal}
use Rattle.rules.specs.Term.{next}
use Rattle.listlaws.proofs.RefusalLaws.{alone_framed}
use Rattle.agreeing.proofs.AgreeLaws.{differ_n, differ_sum, differ_positions, differ_last}
use Rattle.agreeing.proofs.disagree.Lts
use Rattle.agreeing.proofs.disagree.Reads
use Rattle.agreeing.proofs.disagree.Tie
use Rattle.agreeing.proofs.disagree.Goals as goal

abbrev Else-read_u32 : Type 0
Else-read_u32 = Lts.Else1 Tie.the-claims Reads.Pre Reads.Post

abbrev After-read_u32-total : Type 0
After-read_u32-total = Lts.After-read_u323 Tie.the-claims Reads.Pre Reads.Post

abbrev Else-total-next_of : Type 0
Else-total-next_of = Lts.Else2 Tie.the-claims Reads.Pre Reads.Post

header : (s : List ℕ) → list_refusal s ≡ Accepted → 13 ≤ length s
header s a = (alone_framed s a).0.header

pub read_u32-requires : goal.read_u32-requires
read_u32-requires c =
    let b = c in
    omega (arith, header b.args.counts.now b.requires.1)

pub read_u32-requires-2 : goal.read_u32-requires-2
read_u32-requires-2 c =
    let b = c in
    b.requires.0

pub returns-then-read_u32 : goal.returns-then-read_u32
unfolding list_n
returns-then-read_u32 c =
    let r = c in
    let a = r.args in
    sym (differ_n a.pages.now a.counts.now a.positions.now
    (λ e. c.if-read_u32.true (r.read_u32.ensures.0 ∙ e ∙ sym r.read_u32-2.ensures.0)))

n_at : (c : Else-read_u32)
    → let a = c.args in
    list_n a.counts.now ≡ list_n a.pages.now
unfolding list_n
n_at c =
    let r = c in
    sym r.read_u32.ensures.0 ∙ c.if-read_u32.false ∙ r.read_u32-2.ensures.0

pub read_u32-total-requires : goal.read_u32-total-requires
read_u32-total-requires c =
    let b = c in
    omega (arith, header b.args.counts.now b.requires.1)

-- the number that is read as the counts' U
total_at : (c : After-read_u32-total)
    → c.read_u32-total.result ≡ list_u c.args.counts.now
unfolding list_u
total_at c = c.read_u32-total.ensures.0

pub returns-then-total-next_of : goal.returns-then-total-next_of
returns-then-total-next_of c =
    let u = c in
    let a = u.args in
    sym (differ_sum a.pages.now a.counts.now a.positions.now (n_at u.before.before.before.before)
    (λ e. c.if-total-next_of.true (total_at u.before.before.before ∙ e ∙ sym c.next_of.ensures)))

sum_at : (c : Else-total-next_of)
    → let a = c.args in
    list_u a.counts.now ≡ next 0 (decode a.counts.now)
sum_at c = sym (total_at c.before.before) ∙ c.if-total-next_of.false ∙ c.next_of.ensures

pub read_u32-requires-3 : goal.read_u32-requires-3
read_u32-requires-3 c =
    let b = c in
    omega (arith, header b.args.positions.now b.requires.2)

pub returns-then-read_u32-total : goal.returns-then-read_u32-total
unfolding list_n
returns-then-read_u32-total c =
    let e2 = c in
    let u = e2 in
    let a = u.args in
    sym (differ_positions a.pages.now a.counts.now a.positions.now (n_at u.before.before.before.before.before.before) (sum_at e2.before.before.before)
    (λ e. c.if-read_u32-total.true (c.read_u32-3.ensures.0 ∙ e ∙ sym (total_at u.before.before.before.before.before))))

pub read_u32-requires-4 : goal.read_u32-requires-4
read_u32-requires-4 c =
    let b = c in
    omega (arith, header b.args.positions.now b.requires.2)

pub returns : goal.returns
unfolding list_n list_u
returns c =
    let e3 = c in
    let e2 = e3 in
    let u = e2 in
    let a = u.args in
    let p : list_n a.positions.now ≡ list_u a.counts.now =
    sym e3.read_u32-3.ensures.0 ∙ e3.if-read_u32-total.false ∙ total_at u.before.before.before.before.before.before.before in
    ap₂ (λ (x y : ℕ). not (eqb x y)) c.read_u32-4.ensures.0 c.next_of-2.ensures
    ∙ sym (differ_last a.pages.now a.counts.now a.positions.now (n_at u.before.before.before.before.before.before.before.before) (sum_at e2.before.before.before.before.before) p)
