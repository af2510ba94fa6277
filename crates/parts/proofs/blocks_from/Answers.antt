-- `blocks_from` walks: each block up to number k lies within the bytes, and its length is at the front of the rest.
use mathlib.Core.Path.{◌≡◌, sym, ap, ◌∙◌}
use mathlib.Core.List.{List}
use Prim.Native.Nat.{ℕ, ◌+◌, ◌≤◌}
use native.Mathlib.Omega.{arith}
use lib.ListN.{length, drop, length-drop}
use lib.Seq.{drop-drop}
use Rattle.rules.specs.Bytes.{be_at}
use Rattle.rules.specs.ReadList.{stated}
use Rattle.laws.specs.Blocks.{block_at}
use Rattle.laws.proofs.PartLaws.{block_at_suc, stated_drop, after_at}
use Rattle.parts.specs.Places.{Held}
use Rattle.parts.proofs.PlaceLaws.{part_behind}
use Rattle.parts.proofs.blocks_from.Goals as goal

pub slice_bounds-rest-count : goal.slice_bounds-rest-count
unfolding block_at
slice_bounds-rest-count c = omega (arith, c.requires 0 (omega arith))

pub slice_bounds-rest-start : goal.slice_bounds-rest-start
unfolding block_at
slice_bounds-rest-start c = omega (arith, c.requires 0 (omega arith))

pub loop-init : goal.loop-init
unfolding block_at
loop-init c = part_behind c.args.from c.args.s.now

-- the block that is held at place p of s is at the front of the rest from there on
front : (p : ℕ) (s rest : List ℕ) → rest ≡ drop p s → Held p s → (4 ≤ be_at 4 rest 0) × (be_at 4 rest 0 ≤ length rest)
unfolding stated
front p s rest e h = rw (e, stated_drop p s) (omega (arith, h, length-drop p s))

pub read_u32-size-requires : goal.read_u32-size-requires
read_u32-size-requires c =
    let a = c.args in
    omega (arith, front (block_at a.from c.loop.counter a.s.now) a.s.now c.loop.rest.now c.loop.invariant (c.requires _ (omega arith)))

pub slice_bounds-rest-count-in-loop : goal.slice_bounds-rest-count-in-loop
slice_bounds-rest-count-in-loop c =
    let a = c.args in
    omega (
      arith,
      front (block_at a.from c.loop.counter a.s.now) a.s.now c.loop.rest.now c.loop.invariant (c.requires _ (omega arith)),
      c.read_u32-size.ensures.0,
    )

pub slice_bounds-rest-start-in-loop : goal.slice_bounds-rest-start-in-loop
slice_bounds-rest-start-in-loop c =
    let a = c.args in
    omega (
      arith,
      front (block_at a.from c.loop.counter a.s.now) a.s.now c.loop.rest.now c.loop.invariant (c.requires _ (omega arith)),
      c.read_u32-size.ensures.0,
    )

-- the block passed
next_rest : (from k n : ℕ) (s rest : List ℕ) → rest ≡ drop (block_at from k s) s → n ≡ be_at 4 rest 0
    → drop n rest ≡ drop (block_at from (k + 1) s) s
unfolding stated
next_rest from k n s rest e h =
    let p : ℕ = block_at from k s in
    let b : be_at 4 rest 0 ≡ be_at 4 s p = rw e (stated_drop p s) in
    rw e (drop-drop n p s) ∙ ap (λ (m : ℕ). drop m s) (ap (λ (m : ℕ). p + m) (h ∙ b) ∙ sym (block_at_suc from s k))

pub loop-preserved : goal.loop-preserved
loop-preserved c =
    let a = c.args in
    let l = c.loop in
    let size = c.read_u32-size in
    part_behind size.result l.rest.now
    ∙ next_rest a.from l.counter size.result a.s.now l.rest.now l.invariant size.ensures.0

pub returns : goal.returns
returns c =
    let a = c.args in
    let e : c.loop.counter ≡ a.k = omega arith in
    c.loop.invariant ∙ ap (λ (n : ℕ). drop (block_at a.from n a.s.now) a.s.now) e ∙ sym (after_at a.from a.s.now a.k)
