-- `count_starts` tries the words in turn. The loop's invariant: `Trying`.
use mathlib.Core.Path.{◌≡◌, sym, ap, ◌∙◌}
use mathlib.Core.List.{List}
use Prim.Native.Nat.{ℕ, ◌+◌, ◌^◌, ◌<◌}
use native.Mathlib.Omega.{arith}
use lib.ListN.{get_or, length-drop}
use lib.Seq.{get_or-drop}
use Rattle.std.specs.Prelude.{Option}
use Rattle.turning.specs.Words.{base_in, BlockAt}
use Rattle.phrase.specs.Pages.{Ready, Sought}
use Rattle.triallaws.specs.Asked.{offsets_in}
use Rattle.triallaws.proofs.RankLaws.{lead_few}
use Rattle.triallaws.proofs.TrialLaws.{trying_begins, next_within, counted_few, seek_ready, trying_goes}
use Rattle.triallaws.proofs.TrialLaws.{trying_less, trying_ends}
use Rattle.starts.proofs.count_starts.Lts
use Rattle.starts.proofs.count_starts.Reads
use Rattle.starts.proofs.count_starts.Tie
use Rattle.starts.proofs.count_starts.Goals as goal

abbrev After-source_of-i : Type 0
After-source_of-i = Lts.After-source_of Tie.the-claims Reads.Pre Reads.Post goal.the-invariant-loop-next goal.the-decreases-loop-next

pub loop-next-init : goal.loop-next-init
loop-next-init c =
    let b = c in
    let p = b.requires in
    trying_begins _ _ _ _ _ _ _ _ p.0.asked.pages.lists.some
    (omega (arith, length-drop 193 b.args.lists.now, p.0.row, p.0.asked.pages.lists.few)) p.2

pub turn_next-turned-requires : goal.turn_next-turned-requires
turn_next-turned-requires c =
    let p = c.requires in
    (p.0, p.1, c.loop-next.invariant)

-- the word to be tried is one of the eight
few : (c : After-source_of-i) → c.source_of-i.result < 8
few c =
    let a = c.requires.0.asked in
    let y = c.turn_next-turned.ensures in
    omega (arith, c.source_of-i.ensures, next_within _ _ _ _ _ _ a _ _ _ _ y.0, a.pages.lists.few)

-- its offset, by its place in the row
offset_at : {i j : ℕ} (ls : List ℕ) → i ≡ j → get_or ls (193 + i) 0 ≡ get_or (offsets_in ls) j 0
offset_at {i} {j} ls e = sym (get_or-drop 193 ls i 0) ∙ ap (λ (k : ℕ). get_or (offsets_in ls) k 0) e

ready_so : {s ps ws : List ℕ} (ls : List ℕ) {i j : ℕ} (a : ℕ) → i ≡ j
    → BlockAt s ps j × (base_in ws j < 2 ^ 32) × (a + get_or (offsets_in ls) j 0 < 2 ^ 33)
    × Ready s ps ws j (base_in ws j + (a + get_or (offsets_in ls) j 0))
    → BlockAt s ps i × (base_in ws i < 2 ^ 32) × (a + get_or ls (193 + i) 0 < 2 ^ 33)
    × Ready s ps ws i (base_in ws i + (a + get_or ls (193 + i) 0))
ready_so ls a e r = rw (offset_at ls e, e) r

sought_so : {s ps ws after : List ℕ} (ls : List ℕ) {i j : ℕ} {r : Option ℕ} (a : ℕ) → i ≡ j
    → Sought s ps ws i (a + get_or ls (193 + i) 0) r after → Sought s ps ws j (a + get_or (offsets_in ls) j 0) r after
sought_so ls a e t = rw (offset_at ls e, e) at t

pub position_from-sought-requires : goal.position_from-sought-requires
position_from-sought-requires c =
    let k = c in
    let s = k in
    let e = s.source_of-i.ensures in
    let b = s in
    let y = s.turn_next-turned.ensures in
    let small = k.shared_slice_known-in-loop-next-2-1.given (193 + s.source_of-i.result) in
    let ls = b.args.lists.now in
    ready_so ls s.turn_next-turned.result.start e
    (seek_ready _ _ _ _ _ _ b.requires.0.asked _ _ _ _ y.0 y.1 (omega (arith, offset_at ls e, small)))

pub returns-in_default : goal.returns-in_default
returns-in_default c =
    let p = c.requires in
    let y = c.turn_next-turned.ensures in
    let t = sought_so c.args.lists.now c.turn_next-turned.result.start c.source_of-i.ensures c.position_from-sought.ensures in
    trying_ends _ _ _ _ _ _ p.0.asked _ _ _ _ y.0 y.1 _ _ t _ p.1 p.0.first c.in_default.is

pub tried-at-requires : goal.tried-at-requires
tried-at-requires c =
    let a = c.requires.0.asked in
    let y = c.turn_next-turned.ensures.0 in
    let n = counted_few _ _ _ _ _ _ a _ _ _ _ y in
    (omega (arith, y.some, a.pages.lists.few), omega (arith, y.small), omega (arith, n, y.small))

pub loop-next-smaller : goal.loop-next-smaller
loop-next-smaller c =
    let a = c.requires.0.asked in
    let ls = c.args.lists.now in
    let y = c.turn_next-turned.ensures in
    let e = c.source_of-i.ensures in
    let t = sought_so ls c.turn_next-turned.result.start e c.position_from-sought.ensures in
    let l = trying_less _ _ _ _ _ _ a _ _ _ _ y.0 y.1 _ _ t _ c.in-Some.is a.pages.lists.few in
    rw (c.tried-at.ensures, offset_at ls e) (omega (arith, l, y.2, y.3))

pub loop-next-preserved : goal.loop-next-preserved
loop-next-preserved c =
    let a = c.requires.0.asked in
    let ls = c.args.lists.now in
    let y = c.turn_next-turned.ensures in
    let e = c.source_of-i.ensures in
    let t = sought_so ls c.turn_next-turned.result.start e c.position_from-sought.ensures in
    rw (c.tried-at.ensures, offset_at ls e)
    (trying_goes _ _ _ _ _ _ a _ _ _ _ y.0 y.1 _ _ t _ c.in-Some.is)

pub overflow_cast-lists : goal.overflow_cast-lists
overflow_cast-lists c = omega (arith, lead_few _ _ _ _ _ _ c.requires.0.asked)

pub overflow_add-offset : goal.overflow_add-offset
overflow_add-offset c = omega (arith, few c.before)

pub offset_bounds-lists-i : goal.offset_bounds-lists-i
offset_bounds-lists-i c = omega (arith, few c.before)

pub bounds-lists-i : goal.bounds-lists-i
bounds-lists-i c = omega (arith, few c.before.before, c.requires.0.row)

pub overflow_cast-offset : goal.overflow_cast-offset
overflow_cast-offset c = omega (arith, c.shared_slice_known-in-loop-next-2-1.given (193 + c.source_of-i.result))

pub overflow_add-turned : goal.overflow_add-turned
overflow_add-turned c = let k = c in
    let small = k.shared_slice_known-in-loop-next-2-1.given (193 + k.source_of-i.result) in
    omega (arith, k.turn_next-turned.ensures.0.small, small)
