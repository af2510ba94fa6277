-- `map_ok` passes the stretches of 256 bits, each with the number behind it, and then the words that are left.
use mathlib.Core.Bool.{false≢true}
use mathlib.Core.Path.{◌≡◌, sym, ap, ◌∙◌}
use Prim.Native.Nat.{ℕ, ◌+◌, ◌*◌, ◌/◌}
use native.Mathlib.Omega.{arith}
use Rattle.rules.specs.Runs.{words_for}
use Rattle.rules.specs.Counts.{ones_below}
use Rattle.laws.proofs.CountLaws.{ones_below_le}
use Rattle.checkmap.proofs.MapLaws.{map_laid, counted_start, counted_few, ones_next, counted_tells}
use Rattle.checkmap.proofs.map_ok.Goals as goal

pub spare_clear-requires : goal.spare_clear-requires
spare_clear-requires c =
    let l = map_laid c.args.s.now c.args.g c.requires.0 c.requires.1 c.requires.2 in
    omega (arith, l.length_is, ap words_for l.bits_are)

pub returns-then-not-spare_clear : goal.returns-then-not-spare_clear
returns-then-not-spare_clear c =
    let l = map_laid c.args.s.now c.args.g c.requires.0 c.requires.1 c.requires.2 in
    (λ e. absurd (false≢true e), λ _ h. c.spare_clear.ensures.1 c.if-not-spare_clear.true (rw (l.upper_is, l.bits_are) h.spare))

pub loop-q-init : goal.loop-q-init
loop-q-init c = counted_start c.args.s.now c.args.g.upper

pub ones_of-i-requires : goal.ones_of-i-requires
unfolding words_for
ones_of-i-requires c =
    let l = map_laid c.args.s.now c.args.g c.requires.0 c.requires.1 c.requires.2 in
    (omega arith, omega (arith, l.within), omega (arith, l.length_is))

pub overflow_add-i : goal.overflow_add-i
overflow_add-i c =
    let a = c.args in
    let l = map_laid a.s.now a.g c.requires.0 c.requires.1 c.requires.2 in
    let q = c.loop-q.q in
    omega (
      arith,
      ones_next a.s.now a.g.upper q c.loop-q.i c.ones_of-i.result c.loop-q.invariant c.ones_of-i.ensures,
      ones_below_le a.s.now a.g.upper (256 * (q + 1)),
      l.within,
    )

pub read_u32-requires : goal.read_u32-requires
read_u32-requires c =
    let l = map_laid c.args.s.now c.args.g c.requires.0 c.requires.1 c.requires.2 in
    omega (arith, l.length_is, l.upper_at_lem)

pub returns-then-read_u32-i : goal.returns-then-read_u32-i
returns-then-read_u32-i c =
    let a = c.args in
    let l = map_laid a.s.now a.g c.requires.0 c.requires.1 c.requires.2 in
    let q = c.loop-q.q in
    let at_is = ap (λ (p : ℕ). ones_below a.s.now p (256 * (q + 1))) l.upper_is in
    let next = ones_next a.s.now a.g.upper q c.loop-q.i c.ones_of-i.result c.loop-q.invariant c.ones_of-i.ensures in (
      λ e. absurd (false≢true e),
      λ _ h. c.if-read_u32-i.true (c.read_u32.ensures.0 ∙ h.numbers_are (q + 1) (omega arith) (omega arith) ∙ sym at_is ∙ sym next),
    )

pub overflow_add-g : goal.overflow_add-g
overflow_add-g c =
    let l = map_laid c.args.s.now c.args.g c.requires.0 c.requires.1 c.requires.2 in
    omega (arith, l.within, l.bits_are)

pub ones_of-requires : goal.ones_of-requires
unfolding words_for
ones_of-requires c =
    let l = map_laid c.args.s.now c.args.g c.requires.0 c.requires.1 c.requires.2 in
    let b = l.bits_are in
    (omega (arith, b), omega (arith, b, l.within), omega (arith, b, l.length_is))

pub overflow_add-result : goal.overflow_add-result
overflow_add-result c =
    let a = c.args in
    let l = map_laid a.s.now a.g c.requires.0 c.requires.1 c.requires.2 in
    omega (
      arith,
      counted_few a.s.now a.g.upper c.loop-q.q c.loop-q.i c.loop-q.invariant,
      c.ones_of.ensures,
      ones_below_le a.s.now a.g.upper (64 * ((a.g.bits + 63) / 64)),
      l.within,
      l.bits_are,
    )

pub returns : goal.returns
unfolding words_for
returns c =
    let a = c.args in
    let l = map_laid a.s.now a.g c.requires.0 c.requires.1 c.requires.2 in
    let q : c.loop-q.q ≡ a.g.u / 256 = omega arith in
    counted_tells a.s.now a.g l (c.spare_clear.ensures.0 c.if-not-spare_clear.false) c.loop-q.i c.ones_of.result
    (rw q at c.loop-q.invariant) c.ones_of.ensures
