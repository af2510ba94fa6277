-- `gather` sets a bit for each element below the word's end: the word in hand is what the elements so far have from
-- that word on.
use mathlib.Core.Path.{◌≡◌, ◌∙◌}
use mathlib.Core.Bool.{true}
use mathlib.Core.List.{List}
use Prim.Native.Nat.{ℕ, ◌+◌, ◌-◌, ◌*◌, ◌/◌, ◌^◌, ◌≤◌, ◌<◌}
use native.Mathlib.Decide.{dec_lt}
use native.Mathlib.Omega.{arith}
use lib.ListN.{length, get_or, take, drop, length-take, length-drop}
use lib.Seq.{get_or-take, get_or-drop}
use Rattle.rules.specs.List.{map_of}
use Rattle.listlaws.specs.Sound.{climbs}
use Rattle.fillmap.specs.Mapping.{word_of, Parted}
use Rattle.fillmap.proofs.PartedLaws.{parted_of, gathered_none, gathered_more, gathered_all}
use Rattle.fillmap.proofs.gather.Goals as goal

-- the elements from number n on, as a slice
rest_long : (xs : List ℕ) (n : ℕ) → length (take (length xs - n) (drop n xs)) ≡ length xs - n
rest_long xs n = rw (length-take, length-drop) (omega arith)

rest_at : (xs : List ℕ) (n i : ℕ) → n + i < length xs
    → get_or (take (length xs - n) (drop n xs)) i 0 ≡ get_or xs (n + i) 0
rest_at xs n i h = get_or-take (length xs - n) (drop n xs) i 0 (omega arith) ∙ get_or-drop n xs i 0

-- what is gathered where no element is left, or the next one lies behind the word
gathered : (xs : List ℕ) (k i word : ℕ) → climbs 0 xs ≡ true → i ≤ length xs
    → word ≡ map_of (take i xs) / 2 ^ (64 * k) → ((j : ℕ) → j < i → get_or xs j 0 < 64 * k + 64)
    → (i < length xs → 64 * k + 64 ≤ get_or xs i 0) → (word ≡ word_of xs k) × Parted xs (64 * (k + 1)) i
gathered xs k i word rises within e below above =
    let p = parted_of xs rises (64 * (k + 1)) i within (λ j y. omega (arith, below j y)) (λ h. omega (arith, above h)) in
    (e ∙ gathered_all xs rises k i p, p)

pub loop-i-init : goal.loop-i-init
loop-i-init c =
    let a = c.args in
    let p = c.requires.1 in
    let e : a.from + 0 ≡ a.from = omega arith in
    rw e (gathered_none a.list.now c.requires.0 a.k a.from p, λ j h. omega (arith, p.below j h))

pub returns-then-end-x : goal.returns-then-end-x
returns-then-end-x c =
    let a = c.args in
    let l = c.loop-i in
    let xs = a.list.now in
    let h : a.from + l.i < length xs = omega (arith, rest_long xs a.from) in
    let x = rw (rest_at xs a.from l.i h) at c.if-end-x.true in
    gathered xs a.k (a.from + l.i) l.word c.requires.0 (omega arith) l.invariant.0 l.invariant.1 (λ _. x)

pub loop-i-preserved : goal.loop-i-preserved
loop-i-preserved c =
    let a = c.args in
    let l = c.loop-i in
    let xs = a.list.now in
    let i = a.from + l.i in
    let h : i < length xs = omega (arith, rest_long xs a.from) in
    let x = rw (rest_at xs a.from l.i h) at c.if-end-x.false in
    let e : a.from + (l.i + 1) ≡ i + 1 = omega arith in
    rw (e, rest_at xs a.from l.i h, l.invariant.0) (
      gathered_more xs c.requires.0 a.k i h (c.requires.1.above i (omega arith) h) x,
      λ j y. elim (dec_lt j i) [
        | yes z ↦ l.invariant.1 j z
        | no z ↦
            let e : i ≡ j = omega arith in
            rw e at x
      ],
    )

pub returns : goal.returns
returns c =
    let a = c.args in
    let l = c.loop-i in
    let xs = a.list.now in
    let e : a.from + l.i ≡ length xs = omega (arith, rest_long xs a.from, c.requires.1.within) in
    rw e at (gathered xs a.k (a.from + l.i) l.word c.requires.0 (omega arith) l.invariant.0 l.invariant.1
    (λ h. absurd (omega arith)))
