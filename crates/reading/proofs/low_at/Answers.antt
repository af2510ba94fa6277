-- `low_at` gives the low part: its field lies in the lower run, and is narrow.
use mathlib.Core.Path.{◌≡◌, refl, ap₂, ◌∙◌}
use mathlib.Core.List.{List}
use Prim.Native.Nat.{ℕ, zero, suc, ◌+◌, ◌-◌, ◌*◌, ◌^◌, ◌≤◌}
use native.Mathlib.Omega.{arith}
use lib.ListN.{take, drop, length-drop}
use lib.Seq.{length-take-le}
use Rattle.rules.specs.Runs.{field, words_for}
use Rattle.laws.proofs.RunLaws.{run_part}
use Rattle.readlaws.proofs.ReadLaws.{Reading, open_reads, low_inside, low_small}
use Rattle.reading.proofs.low_at.Lts
use Rattle.reading.proofs.low_at.Reads
use Rattle.reading.proofs.low_at.Tie
use Rattle.reading.proofs.low_at.Goals as goal

abbrev Start : Type 0
Start = Lts.Start Tie.the-claims Reads.Pre Reads.Post

-- a field of a run as a list of its own, of m bytes
field_part : (s : List ℕ) (m at o w : ℕ) → 8 * words_for (o + w) ≤ m → field (take m (drop at s)) 0 o w ≡ field s at o w
unfolding field words_for
field_part s m at o zero h = refl
field_part s m at o (suc w) h =
    ap₂ (λ (x y : ℕ). x + y * 2 ^ w) (field_part s m at o w (unfold words_for in omega arith))
    (run_part s m at (o + w) (omega arith))

-- at the entry
reads : (c : Start) → Reading c.args.block.now c.args.g
reads c = open_reads c.args.block.now c.args.g c.requires.0

abbrev runLength : Start → ℕ
runLength c = c.args.g.upper - c.args.g.lower

-- the words of the field are in the lower run
within : (c : Start) → 8 * words_for (c.args.i * c.args.g.w + c.args.g.w) ≤ runLength c
unfolding words_for
within c =
    let r = reads c in
    omega (arith, low_inside c.args.block.now c.args.g c.requires.0 c.args.i c.requires.1)

pub slice_bounds-low_field-count : goal.slice_bounds-low_field-count
slice_bounds-low_field-count c =
    let r = reads c.before.before in
    omega arith

pub slice_bounds-low_field-start : goal.slice_bounds-low_field-start
slice_bounds-low_field-start c =
    let r = reads c.before.before in
    omega arith

pub slice_bounds-low_field-end : goal.slice_bounds-low_field-end
slice_bounds-low_field-end c =
    let r = reads c.before.before in
    omega arith

pub overflow_mul-i : goal.overflow_mul-i
overflow_mul-i c =
    let start = c.before.before.before.before in
    let a = start.args in
    let r = reads start in
    record { fits = omega (arith, low_inside a.block.now a.g start.requires.0 a.i start.requires.1) }

pub low_field-requires : goal.low_field-requires
low_field-requires c =
    let start = c.before.before.before.before in
    let a = start.args in
    let r = reads start in
    let run = length-take-le (runLength start) (drop a.g.lower a.block.now)
    (omega (arith, length-drop a.g.lower a.block.now)) in
    (rw run (within start), omega arith)

pub returns : goal.returns
returns c =
    let start = c.before.before.before.before.before in
    let a = start.args in
    let e = c.low_field.ensures
    ∙ field_part a.block.now (runLength start) a.g.lower (a.i * a.g.w) a.g.w (within start) in
    (e, rw e (low_small a.block.now a.g start.requires.0 a.i start.requires.1))
