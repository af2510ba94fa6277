-- `place_lists` goes from word to word. The loop's invariant: the places put so far are those of the words' lists.
use mathlib.Core.Path.{◌∙◌}
use Prim.Native.Nat.{◌+◌, ◌*◌}
use native.Mathlib.Omega.{arith}
use lib.ListN.{get_or, set, length-set}
use Rattle.rules.specs.Index.{index_t}
use Rattle.questions.proofs.GoodLaws.{words_parts}
use Rattle.wordlists.proofs.LyingLaws.{lying_more, card_short}
use Rattle.wordlists.proofs.place_lists.Goals as goal

pub bounds-starts-i : goal.bounds-starts-i
bounds-starts-i c = omega (arith, (words_parts (index_t c.args.card.now) c.args.terms.now c.requires.1).1)

pub overflow_cast-places : goal.overflow_cast-places
overflow_cast-places c =
    let l = c.list_in-place.ensures (get_or c.args.terms.now c.loop-i.i 0) (c.requires.3 c.loop-i.i c.loop-i-test.true) in
    omega (arith, l.starts, l.ends, card_short c.args.card.now (λ i. (c.type_inv.card i).fits) c.requires.0)

pub bounds-places-i : goal.bounds-places-i
bounds-places-i c = omega (arith, (words_parts (index_t c.args.card.now) c.args.terms.now c.requires.1).1)

pub overflow_cast-places-in-loop-i : goal.overflow_cast-places-in-loop-i
overflow_cast-places-in-loop-i c =
    let l = c.list_in-place.ensures (get_or c.args.terms.now c.loop-i.i 0) (c.requires.3 c.loop-i.i c.loop-i-test.true) in
    omega (arith, l.ends, card_short c.args.card.now (λ i. (c.type_inv.card i).fits) c.requires.0)

pub bounds-places-i-in-loop-i : goal.bounds-places-i-in-loop-i
bounds-places-i-in-loop-i c = omega (arith, (words_parts (index_t c.args.card.now) c.args.terms.now c.requires.1).1)

pub loop-i-preserved : goal.loop-i-preserved
loop-i-preserved c =
    let a = c.args in
    let i = c.loop-i.i in
    let place = c.list_in-place.result in
    let few = (words_parts (index_t a.card.now) a.terms.now c.requires.1).1 in (
      length-set (set c.loop-i.places (2 * i) place.from) (2 * i + 1) place.to
          ∙ length-set c.loop-i.places (2 * i) place.from ∙ c.loop-i.invariant.0,
      lying_more a.card.now a.terms.now a.k i c.loop-i.places place.from place.to
          (omega (arith, few, c.loop-i.invariant.0)) c.loop-i.invariant.1
          (c.list_in-place.ensures (get_or a.terms.now i 0) (c.requires.3 i c.loop-i-test.true)),
    )
