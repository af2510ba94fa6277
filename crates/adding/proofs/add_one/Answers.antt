-- `add_one` lays one element as `add_all` lays each: its one and its low part, and then what is in hand of both runs.
use mathlib.Core.Path.{ap, ◌∙◌}
use mathlib.Core.List.{List, [], ◌∷◌}
use Prim.Native.Nat.{ℕ, ◌-◌, ◌*◌, ◌/◌, ◌^◌, ◌≤◌}
use native.Mathlib.Omega.{arith}
use borrow.Rule.Slice.PartMut.{put_mid}
use lib.ListN.{length}
use lib.Pow.{shr_le}
use Rattle.rules.specs.InPlace.{added}
use Rattle.shape.specs.declared.Shape.{Shape}
use Rattle.addlaws.specs.Adding.{BothLaid, Slot}
use Rattle.addlaws.proofs.AddLaws.{used_none, lows_lt}
use Rattle.addlaws.proofs.ElementLaws.{given_small}
use Rattle.addlaws.proofs.AddedLaws.{runs_in}
use Rattle.addlaws.proofs.BothLaws.{high_room, low_room, last_room, both_added}
use Rattle.addlaws.proofs.OneLaws.{shape_at, raised_one, one_asked, one_high, one_low}
use Rattle.adding.proofs.add_one.Lts
use Rattle.adding.proofs.add_one.Reads
use Rattle.adding.proofs.add_one.Tie
use Rattle.adding.proofs.add_one.Goals as goal

abbrev Start : Type 0
Start = Lts.Start Tie.the-claims Reads.Pre Reads.Post

abbrev After-slice_known-2-1 : Type 0
After-slice_known-2-1 = Lts.After-slice_known2 Tie.the-claims Reads.Pre Reads.Post

abbrev After-slice_known-3-1 : Type 0
After-slice_known-3-1 = Lts.After-slice_known3 Tie.the-claims Reads.Pre Reads.Post

-- a shape with a slot for the element, in the numbers that are given
abbrev shaped : Start → Shape → Shape
shaped s g = shape_at s.args.lower s.args.upper s.args.w g

abbrev Has : Start → Shape → Type 0
Has s g = let a = s.args in Slot a.lower a.upper a.w a.i a.x a.block.now g

-- sums and products that are made of the element fit a machine word, and the runs lie in the block
small : (s : Start)
    → let a = s.args in (a.w ≤ 24) × (a.i ≤ 2 ^ 24) × (a.x / 2 ^ a.w ≤ 2 ^ 24) × (a.i * a.w ≤ 2 ^ 24)
small s =
    let o = s.requires.slot in
    let t = given_small (one_asked o) in
    (t.0, omega (arith, t), omega (arith, t, o.below, shr_le s.args.x s.args.w), t.3)

runs : (s : Start) → (s.args.lower ≤ s.args.upper) × (s.args.upper ≤ length s.args.block.now)
runs s = runs_in _ _ (one_asked s.requires.slot).fitting

-- the start, and the block, behind the element's one
abbrev entry : After-slice_known-2-1 → Start
entry c = c.before.before.before.before.before.before

abbrev risen : After-slice_known-2-1 → List ℕ
risen c =
    let a = c.args in
    put_mid a.upper (length a.block.now - a.upper) a.block.now c.add_high-highs.new.run

one_set : (c : After-slice_known-2-1) (g : Shape) → Has (entry c) g
    → let a = c.args in
    BothLaid (shaped (entry c) g) a.i a.x (0 ∷ []) 0 1 c.nothing_laid-none.result
    c.add_high-highs.result a.block.now (risen c)
one_set c g o =
    let n = c in
    one_high o (λ i. (n.slice_known-1.given i).fits) n.nothing_laid-none.ensures
    c.add_high-highs.ensures

pub add_low-rest-requires : goal.add_low-rest-requires
add_low-rest-requires c =
    let s = entry c.before in
    let o = s.requires.slot in
    let l = one_set c.before s.requires.shape o in (
      l.lows.short,
      omega (arith, small s),
      lows_lt _ _ _ c.nothing_laid-none.result _ _ l.lows,
      low_room (one_asked o) l (omega arith),
    )

-- and behind its low part
abbrev high : After-slice_known-3-1 → After-slice_known-2-1
high c = c.before.before.before.before

abbrev laid : After-slice_known-3-1 → List ℕ
laid c =
    let t : List ℕ = risen c.before.before.before.before in
    let lower = c.args.lower in
    put_mid lower (length t - lower) t c.add_low-rest.new.run

all : (c : After-slice_known-3-1) (g : Shape) → Has (entry c.before.before.before.before) g
    → let a = c.args in
    BothLaid (shaped (entry c.before.before.before.before) g) a.i a.x (0 ∷ []) 1 1 c.add_low-rest.result
    c.add_high-highs.result a.block.now (laid c)
all c g o =
    let k = c in
    let n = k in
    one_low o (λ i. (n.slice_known-1.given i).fits) n.nothing_laid-none.ensures k.add_high-highs.ensures
    c.add_low-rest.ensures

pub flush-requires : goal.flush-requires
flush-requires c =
    let p = c.requires in
    high_room (one_asked p.slot) (all c.before p.shape p.slot)

pub flush-requires-2 : goal.flush-requires-2
flush-requires-2 c =
    let f = c in
    let p = f.requires in
    last_room (one_asked p.slot) (all f.before.before.before.before.before p.shape p.slot) f.flush.ensures

pub returns : goal.returns
returns c g o =
    let f = c in
    let a = f.args in
    both_added (one_asked o) (all f.before.before.before.before.before.before.before.before.before g o)
    f.flush.ensures c.flush-2.ensures
    ∙ ap (λ (xs : List ℕ). added g.u g.n a.i xs a.block.now) (raised_one a.x)

pub overflow_mul-i : goal.overflow_mul-i
overflow_mul-i c = omega (arith, small c.before.before)

pub slice_bounds-add_high-count : goal.slice_bounds-add_high-count
slice_bounds-add_high-count c = (runs c.before.before.before).1

pub slice_bounds-add_high-start : goal.slice_bounds-add_high-start
slice_bounds-add_high-start c = omega (arith, runs c.before.before.before)

pub overflow_shr-x : goal.overflow_shr-x
overflow_shr-x c = omega (arith, small c.before.before.before)

pub overflow_add-x : goal.overflow_add-x
overflow_add-x c = omega (arith, small c.before.before.before)

pub add_high-highs-requires : goal.add_high-highs-requires
add_high-highs-requires c = omega (arith, used_none)

pub slice_bounds-add_low-count : goal.slice_bounds-add_low-count
slice_bounds-add_low-count c = omega (arith, runs (entry c.before))

pub slice_bounds-add_low-start : goal.slice_bounds-add_low-start
slice_bounds-add_low-start c = omega (arith, runs (entry c.before))

pub slice_bounds-flush-count : goal.slice_bounds-flush-count
slice_bounds-flush-count c = omega (arith, runs (entry c.before.before.before.before.before))

pub slice_bounds-flush-start : goal.slice_bounds-flush-start
slice_bounds-flush-start c = omega (arith, runs (entry c.before.before.before.before.before))

pub slice_bounds-flush-count-2 : goal.slice_bounds-flush-count-2
slice_bounds-flush-count-2 c = omega (arith, runs (entry c.before.before.before.before.before.before.before.before.before))

pub slice_bounds-flush-start-2 : goal.slice_bounds-flush-start-2
slice_bounds-flush-start-2 c = omega (arith, runs (entry c.before.before.before.before.before.before.before.before.before))

pub shape_of-block : goal.shape_of-block
shape_of-block c = omega arith
