-- `position_from` passes the word's elements up to the bound; the position is where it stands then, or there is none.
use mathlib.Core.Path.{◌≡◌, sym, refl, ◌∙◌}
use Prim.Native.Nat.{ℕ, ◌+◌, ◌*◌, ◌<◌}
use native.Mathlib.Omega.{arith}
use borrow.Author.Tests.{ltb-true, ltb-false}
use lib.Dec.{lit<}
use lib.ListN.{length, get_or}
use mir.Syntax.{w64}
use mir.Val.{Fits}
use Rattle.turning.specs.Words.{base_in}
use Rattle.phrase.proofs.StandLaws.{sought_none, sought_there}
use Rattle.phrase.proofs.position_from.Lts
use Rattle.phrase.proofs.position_from.Reads
use Rattle.phrase.proofs.position_from.Tie
use Rattle.phrase.proofs.position_from.Goals as goal

abbrev After-pass_on : Type 0
After-pass_on = Lts.After-pass_on Tie.the-claims Reads.Pre Reads.Post

abbrev Start : Type 0
Start = Lts.Start Tie.the-claims Reads.Pre Reads.Post

abbrev Else-not-pass_on : Type 0
Else-not-pass_on = Lts.Else1 Tie.the-claims Reads.Pre Reads.Post

-- the places of word i's numbers fit a machine word, and so do those of their bytes
record Places (i : ℕ) : Type 0 where
  first : Fits w64 (8 * i)
  number : (k : ℕ) → k < 8 → Fits w64 (8 * i + k)
  byte : (k : ℕ) → k < 8 → Fits w64 ((8 * i + k) * 8)
  past : Fits w64 (8 * i + 3 + 1)
  past_byte : Fits w64 ((8 * i + 3 + 1) * 8)

places : {i : ℕ} → i < 8 → Places i
places h = record {
  first = omega arith;
  number = λ k l. omega arith;
  byte = λ k l. omega arith;
  past = omega arith;
  past_byte = omega arith;
}

-- word i's numbers are within the 64 of all words
in_words : {i n : ℕ} (k : ℕ) → i < 8 → k < 8 → n ≡ 64 → 8 * i + k < n
in_words k h l e = omega arith

past_in : {i n : ℕ} → i < 8 → n ≡ 64 → 8 * i + 3 + 1 < n
past_in h e = omega arith

-- the start, seen from where the elements are passed
abbrev start : After-pass_on → Start
start c = c.before.before.before.before.before.before

same_length : (c : After-pass_on) → length c.pass_on.new.words ≡ length c.args.words.now
same_length c = c.pass_on.ensures.ready.room ∙ sym c.requires.3.room

pub returns-then-not-pass_on : goal.returns-then-not-pass_on
returns-then-not-pass_on c =
    let a = c.args in
    let p = c.pass_on in
    sought_none _ _ _ a.b a.i p.result _ p.ensures
    (ltb-false _ _ (sym p.ensures.found ∙ c.if-not-pass_on.true))

-- the word stands at the bound or behind it
beyond : (c : Else-not-pass_on)
    → let a = c.args in
    base_in a.words.now a.i + a.b
    < get_or c.pass_on.new.words (8 * a.i + 3 + 1) 0
beyond c =
    let p = c.pass_on in
    ltb-true _ _ (sym p.ensures.found ∙ c.if-not-pass_on.false)

pub returns : goal.returns
returns c =
    let a = c.args in
    let p = c.pass_on in
    sought_there _ _ _ a.b a.i p.result _ p.ensures _ (beyond c.before.before) refl

pub overflow_mul-base : goal.overflow_mul-base
overflow_mul-base c = (places c.requires.0.few).first

pub overflow_add-base : goal.overflow_add-base
overflow_add-base c = (places c.requires.0.few).number _ (lit< tt)

pub offset_bounds-words-i : goal.offset_bounds-words-i
offset_bounds-words-i c = (places c.requires.0.few).byte _ (lit< tt)

pub bounds-words-i : goal.bounds-words-i
bounds-words-i c = let p = c.requires in in_words _ p.0.few (lit< tt) p.3.room

pub shape_of-words-then-not-pass_on : goal.shape_of-words-then-not-pass_on
shape_of-words-then-not-pass_on c = same_length c.before.before.before.before

pub overflow_mul-result : goal.overflow_mul-result
overflow_mul-result c = (places c.requires.0.few).first

pub overflow_add-result : goal.overflow_add-result
overflow_add-result c = (places c.requires.0.few).number _ (lit< tt)

pub overflow_add-result-2 : goal.overflow_add-result-2
overflow_add-result-2 c = (places c.requires.0.few).past

pub offset_bounds-words-i-2 : goal.offset_bounds-words-i-2
offset_bounds-words-i-2 c = (places c.requires.0.few).past_byte

pub bounds-words-i-2 : goal.bounds-words-i-2
bounds-words-i-2 c = let p = c in
    past_in p.requires.0.few p.pass_on.ensures.ready.room

pub overflow_sub-result : goal.overflow_sub-result
overflow_sub-result c = omega (arith, beyond c.before.before)

pub overflow_sub-result-2 : goal.overflow_sub-result-2
overflow_sub-result-2 c = omega (arith, beyond c.before.before)

pub shape_of-words : goal.shape_of-words
shape_of-words c = same_length c.before.before.before.before.before
