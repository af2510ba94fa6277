-- `positions_rise` goes from page to page: what is left gives what all of it gives, with a base that stops above the limit.
use mathlib.Core.Bool.{true}
use mathlib.Core.List.{List, []}
use mathlib.Core.Path.{◌≡◌, sym, ap, ap₂, ◌∙◌}
use Prim.Native.Nat.{ℕ, ◌+◌, ◌<◌, ◌≤◌}
use native.Mathlib.Omega.{arith}
use borrow.Author.Tests.{eq-eqb, ne_eqb}
use lib.Dec.{eqb}
use lib.ListN.{length, get_or, drop, drop_of_length-le}
use Rattle.rules.specs.Term.{total, next, placed, positive, in_order_by_page}
use Rattle.wordlaws.specs.Reach.{capped, falls_in}
use Rattle.wordlaws.proofs.CheckLaws.{spanned, spanned_on, total_on, next_placed}
use Rattle.wordlaws.proofs.FallLaws.{seams, seams_on, seams_none, pages_in_order}
use Rattle.wordlaws.proofs.LayLaws.{positive_at}
use Rattle.testword.proofs.positions_rise.Goals as goal

module _ (cs ps : List ℕ) (counted : positive cs ≡ true) (i from : ℕ) where
  -- the next page: its positions, its last one among them, and those of the pages behind it
  page : i < length cs → from + total (drop i cs) ≡ length ps
      → (0 < get_or cs i 0) × (from + get_or cs i 0 + total (drop (i + 1) cs) ≡ length ps)
  page h e = (positive_at cs counted i h, omega (arith, total_on cs i h))

  -- behind the last page all falls are known, and so are those from one page to the next
  in_order : total cs ≡ length ps → length cs ≤ i → (all s : ℕ) → all ≡ falls_in ps 0 (length ps)
      → seams 0 cs ps ≡ s + seams from (drop i cs) ps → in_order_by_page cs ps ≡ eqb all s
  in_order summed h all s a e =
      let d : drop i cs ≡ [] = drop_of_length-le cs {i = i} h in
      let n : seams 0 cs ps ≡ s = omega (arith, rw d at e, seams_none from ps) in
      pages_in_order 0 cs ps counted (omega (arith, summed))
      ∙ ap₂ eqb (ap (falls_in ps 0) summed ∙ sym a) n

pub fall-seams-requires : goal.fall-seams-requires
fall-seams-requires c =
    let a = c.args in
    omega (arith, page a.counts.now a.positions.now c.requires.1 c.loop-c.c-index c.loop-c.from (omega arith) c.loop-c.invariant.0)

pub overflow_sub-from : goal.overflow_sub-from
overflow_sub-from c =
    let a = c.args in
    omega (arith, page a.counts.now a.positions.now c.requires.1 c.loop-c.c-index c.loop-c.from (omega arith) c.loop-c.invariant.0)

pub bounds-positions-from : goal.bounds-positions-from
bounds-positions-from c =
    let a = c.args in
    omega (arith, page a.counts.now a.positions.now c.requires.1 c.loop-c.c-index c.loop-c.from (omega arith) c.loop-c.invariant.0)

pub loop-c-preserved : goal.loop-c-preserved
loop-c-preserved c =
    let l = c.loop-c in
    let cs = c.args.counts.now in
    let ps = c.args.positions.now in
    let i = l.c-index in
    let h : i < length cs = omega arith in
    let p = page cs ps c.requires.1 i l.from h l.invariant.0 in (
      p.1,
      omega (arith, c.min-base.ensures),
      omega (arith, c.fall-seams.ensures),
      omega (arith, l.invariant.3, c.fall-seams.ensures, seams_on l.from cs ps i h),
      omega (arith, l.invariant.4, c.min-base.ensures, spanned_on cs ps i l.from h p.0 (omega (arith, p))),
    )

pub returns-then-all-seams : goal.returns-then-all-seams
returns-then-all-seams c =
    let l = c.loop-c in
    let cs = c.args.counts.now in
    let ps = c.args.positions.now in
    let t = in_order cs ps c.requires.1 l.c-index l.from c.requires.0 (omega arith) c.falls-all.result l.seams
    c.falls-all.ensures l.invariant.3 in
    rw (t ∙ ne_eqb c.falls-all.result l.seams (λ e. omega arith))

pub returns : goal.returns
unfolding spanned
returns c =
    let l = c.loop-c in
    let cs = c.args.counts.now in
    let ps = c.args.positions.now in
    let t = in_order cs ps c.requires.1 l.c-index l.from c.requires.0 (omega arith) c.falls-all.result l.seams
    c.falls-all.ensures l.invariant.3 in
    let d : drop l.c-index cs ≡ [] = drop_of_length-le cs {i = l.c-index} (omega arith) in
    let e : l.base ≡ capped (next 0 (placed 0 cs ps)) = omega (arith, rw d at l.invariant.4, next_placed 0 cs ps) in
    rw (t ∙ eq-eqb c.falls-all.result l.seams (omega arith), ← e)
