-- `open_words` fills one slot after the other. The loop's invariant: the slots filled so far place their words' lists.
use mathlib.Core.Path.{refl}
use native.Mathlib.Omega.{arith}
use lib.ListN.{get_or}
use Rattle.rules.specs.Index.{index_t}
use Rattle.questions.proofs.GoodLaws.{words_parts}
use Rattle.readlaws.proofs.FormLaws.{alone_valid}
use Rattle.wordlists.specs.Lying.{list_of}
use Rattle.wordlists.proofs.LyingLaws.{card_short, word_below}
use Rattle.openwords.proofs.SlotLaws.{place_within, list_accepted, filled_more}
use Rattle.openwords.proofs.open_words.Goals as goal

pub bounds-starts-i : goal.bounds-starts-i
bounds-starts-i c = omega (arith, (words_parts (index_t c.args.card.now) c.args.terms.now c.requires.1).1)

pub numbers_at-numbers-requires : goal.numbers_at-numbers-requires
numbers_at-numbers-requires c =
    let s = c.args.card.now in
    let i = c.loop-i.i in
    let t = get_or c.args.terms.now i 0 in
    let lies = c.list_in-place.ensures t (c.requires.5 i c.loop-i-test.true) in
    let below = word_below (index_t s) c.args.terms.now c.requires.1 i c.loop-i-test.true in (
      place_within s _ _ _ (card_short s (λ i. (c.type_inv.card i).fits) c.requires.0) lies,
      rw lies.bytes (alone_valid _ (list_accepted s t c.args.k c.requires.0 below c.requires.2 c.requires.3)),
    )

pub put_list-requires : goal.put_list-requires
put_list-requires c =
    let few = (words_parts (index_t c.args.card.now) c.args.terms.now c.requires.1).1 in
    (c.loop-i.invariant.room, omega arith)

pub loop-i-preserved : goal.loop-i-preserved
loop-i-preserved c =
    let s = c.args.card.now in
    let ts = c.args.terms.now in
    let k = c.args.k in
    let i = c.loop-i.i in
    let t = get_or ts i 0 in
    let place = c.list_in-place.result in
    let few = (words_parts (index_t s) ts c.requires.1).1 in
    let lies = c.list_in-place.ensures t (c.requires.5 i c.loop-i-test.true) in
    let within = place_within s _ _ _ (card_short s (λ i. (c.type_inv.card i).fits) c.requires.0) lies in
    let below = word_below (index_t s) ts c.requires.1 i c.loop-i-test.true in
    let filled = rw (c.numbers_at-numbers.ensures, lies.bytes) at c.put_list.ensures in
    rw filled (filled_more s place.from place.to (list_of s t k) within lies.bytes
    (list_accepted s t k c.requires.0 below c.requires.2 c.requires.3) ts k i c.loop-i.shapes (omega arith) refl
    c.loop-i.invariant)
