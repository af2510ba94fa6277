-- `land` passes elements below b one by one, and ends at the first that is not or behind the last.
use mathlib.Core.Path.{refl, ap}
use mathlib.Core.List.{List}
use Prim.Native.Nat.{ℕ, ◌+◌, ◌-◌, ◌*◌, ◌^◌, ◌<◌}
use native.Mathlib.Omega.{arith}
use borrow.Author.Count.{below_more}
use lib.Count.{count_trailing_zeros}
use lib.ListN.{get_or}
use Rattle.rules.specs.Runs.{words_for}
use Rattle.rules.specs.List.{two_runs}
use Rattle.rules.specs.ReadList.{decode}
use Rattle.shape.specs.declared.Shape.{Shape}
use Rattle.readlaws.specs.Open.{OneAt}
use Rattle.readlaws.proofs.ReadLaws.{open_reads}
use Rattle.seeklaws.proofs.FirstLaws.{rising_below}
use Rattle.walklaws.specs.declared.Ones.{Ones}
use Rattle.walklaws.specs.Walks.{RunIn}
use Rattle.walklaws.proofs.OpenLaws.{words_few, open_U, open_some, open_length, open_rising, open_run}
use Rattle.walklaws.proofs.OpenLaws.{open_stored}
use Rattle.walklaws.proofs.WalkLaws.{one_lt, one_there, one_ahead, walking_drop}
use Rattle.walklaws.proofs.LandLaws.{landed_on, landed_none}
use Rattle.landing.proofs.land.Lts
use Rattle.landing.proofs.land.Reads
use Rattle.landing.proofs.land.Tie
use Rattle.landing.proofs.land.Goals as goal
use Rattle.landing.proofs.land.Lts.{then-at-ne0, else-at-ne0+then-at-g}

abbrev Start : Type 0
Start = Lts.Start Tie.the-claims Reads.Pre Reads.Post goal.the-invariant-loop-at goal.the-decreases-loop-at

abbrev Joined-at-ne0 : Type 0
Joined-at-ne0 = Lts.Joined1 Tie.the-claims Reads.Pre Reads.Post goal.the-invariant-loop-at goal.the-decreases-loop-at

abbrev After-to_one-one : Type 0
After-to_one-one = Lts.After-to_one Tie.the-claims Reads.Pre Reads.Post goal.the-invariant-loop-at goal.the-decreases-loop-at

pub loop-at-init : goal.loop-at-init
loop-at-init c = (c.requires.1, c.requires.2, refl)

-- the upper run, over which it walks
run : (c : Start) → RunIn c.args.s.now c.args.g
run c = open_run c.args.s.now c.args.g c.requires.0

-- a one lies ahead: in what is left of the word, or by the number of those that were passed
ahead : (c : Joined-at-ne0)
    → c.loop-at.at.rank < c.args.g.n
ahead c =
    let at = c.loop-at in
    let start = c in
    elim c.if-at-ne0.branch [
      | then-at-ne0 t ↦ one_ahead start.args.s.now start.args.g (run start.before.before.before.before) at.at at.invariant.0
          (omega (arith, t.if-at-ne0.true))
      | else-at-ne0+then-at-g e ↦ e.if-at-g.true
    ]

pub to_one-one-requires : goal.to_one-one-requires
to_one-one-requires c =
    let start = c in
    let at = c.loop-at in
    (run start.before.before.before.before.before.before, at.invariant.0, ahead c.before.before, omega (arith, at.invariant.2, start.requires.3))

-- the element at the one that a turn finds
pub record Turn (s : List ℕ) (g : Shape) (x : Ones) : Type 0 where
  pub inside : 64 * x.k + count_trailing_zeros 64 x.left < 2 ^ 27
  pub one : OneAt s g.upper x.rank (64 * x.k + count_trailing_zeros 64 x.left)
  pub number : x.rank < g.n
  pub few : g.n < 2 ^ 26
  pub low : get_or (decode s) x.rank 0 < 2 ^ 32 - 1

turn : (c : After-to_one-one) →
    let start = c in
    Turn start.args.s.now start.args.g c.to_one-one.result
turn c =
    let start = c in
    let s : List ℕ = start.args.s.now in
    let g : Shape = start.args.g in
    let o = start.requires.0 in
    let x : Ones = c.to_one-one.result in
    let w = c.to_one-one.ensures.0.at in
    let some = c.to_one-one.ensures.0.some in
    let r = open_reads s g o in
    let number = one_ahead s g (run start.before.before.before.before.before.before) x w some in
    record {
      inside = omega (arith, words_few s g (run start.before.before.before.before.before.before) x.k w.within, one_lt s g (run start.before.before.before.before.before.before) x w some);
      one = one_there s g (run start.before.before.before.before.before.before) x w some;
      number = number;
      few = omega arith;
      low = omega (
        arith,
        open_U s g o,
        rising_below 0 _ _ (open_rising s g o) x.rank (omega (arith, open_length s g o)),
      );
    }

pub overflow_mul-bit : goal.overflow_mul-bit
overflow_mul-bit c = record { fits = omega (arith, (turn c.before.before).inside) }

pub overflow_cast-bit : goal.overflow_cast-bit
overflow_cast-bit c = record { fits = omega (arith, (turn c.before.before.before).inside) }

pub overflow_add-bit : goal.overflow_add-bit
overflow_add-bit c = record { fits = omega (arith, (turn c.before.before.before).inside) }

pub page_at-page-requires : goal.page_at-page-requires
page_at-page-requires c =
    let one = c in
    (one.requires.0, (turn one.before.before.before).one)

pub overflow_add-result : goal.overflow_add-result
overflow_add-result c = record { fits = omega (arith, (turn c.before.before.before.before.before).low, c.page_at-page.ensures) }

pub overflow_cast-result : goal.overflow_cast-result
overflow_cast-result c = record { fits = omega (arith, (turn c.before.before.before.before.before).low, c.page_at-page.ensures) }

pub returns-then-b-page : goal.returns-then-b-page
returns-then-b-page c =
    let one = c in
    let at = one.loop-at in
    let start = one in
    let t = one.to_one-one.ensures in
    let v = c.page_at-page.ensures in
    let stored = open_stored start.args.s.now start.args.g start.requires.0 in
    let l = landed_on two_runs start.args.s.now start.args.g stored start.args.b one.to_one-one.result
    t.0.at (λ j h. at.invariant.1 j (omega (arith, t.0.rank_kept))) _ t.0.some
    (omega (arith, v, c.if-b-page.true)) (ap (λ (x : ℕ). x + 1) v) refl in
    (l.0, omega (arith, l.1, at.invariant.2, t.1))

pub overflow_sub-next : goal.overflow_sub-next
overflow_sub-next c = omega (arith, c.to_one-one.ensures.0.some)

pub overflow_add-next : goal.overflow_add-next
overflow_add-next c =
    let t = turn c.before.before.before.before.before.before.before.before in
    record { fits = omega (arith, t.number, t.few) }

pub loop-at-smaller : goal.loop-at-smaller
loop-at-smaller c =
    let one = c in
    omega (arith, (turn one.before.before.before.before.before.before.before.before).number, one.to_one-one.ensures.0.rank_kept)

pub loop-at-preserved : goal.loop-at-preserved
loop-at-preserved c =
    let one = c in
    let at = one.loop-at in
    let start = one in
    let t = one.to_one-one.ensures in
    let v = c.page_at-page.ensures in (
      walking_drop start.args.s.now start.args.g (run start.before.before.before.before.before.before.before.before.before.before.before.before.before.before) one.to_one-one.result t.0.at t.0.some _
          refl refl refl,
      below_more _ _ (λ j h. at.invariant.1 j (omega (arith, t.0.rank_kept)))
          (omega (arith, v, c.if-b-page.false)),
      omega (arith, at.invariant.2, t.1),
    )

pub to_end-requires : goal.to_end-requires
to_end-requires c =
    let start = c in
    let at = c.loop-at in
    (run start.before.before.before.before.before.before.before.before.before, at.invariant.0.within, omega (arith, at.invariant.2, start.requires.3))

pub returns : goal.returns
returns c =
    let at = c.loop-at in
    let start = c in
    let n = c.none.ensures in
    let o = start.requires.0 in
    let bits : 0 < start.args.g.bits = unfold words_for in omega (arith, at.invariant.0.within) in
    let stored = open_stored start.args.s.now start.args.g o in
    let l = landed_none two_runs start.args.s.now start.args.g stored start.args.b at.at
    at.invariant.0 at.invariant.1 _ (open_some start.args.s.now start.args.g o bits)
    c.if-at-g.false n.0 n.1 in
    (l.0, omega (arith, l.1, at.invariant.2, c.to_end.ensures))

pub none-requires : goal.none-requires
none-requires c = tt
