-- `climb` reads the elements of a word: what was counted among them tells whether they climb.
use mathlib.Core.Logic.{inl, inr}
use mathlib.Core.Path.{ap, ◌∙◌}
use mathlib.Core.List.{List}
use Prim.Native.Nat.{ℕ, ◌+◌, ◌-◌, ◌*◌, ◌^◌, ◌<◌, ◌≤◌}
use native.Mathlib.Omega.{arith}
use lib.Bits.{and_le_r}
use lib.Count.{ones}
use Rattle.laws.proofs.CountLaws.{next_word, ones_below_le}
use Rattle.shape.specs.declared.Shape.{Shape}
use Rattle.checklaws.specs.declared.Low.{Low}
use Rattle.checklaws.specs.Check.{Ready}
use Rattle.checklaws.proofs.StateLaws.{small}
use Rattle.checklaws.proofs.LowLaws.{held_lt, left_lt, held_room}
use Rattle.checklaws.proofs.TurnLaws.{Word, Peeled, Turn, peeled_start, peeled_read, peeled_refuse, turn_more}
use Rattle.checklaws.proofs.TurnLaws.{turn_lift, turn_high, turn_rises, turn_pair, turn_low, turn_next}
use Rattle.checkwords.proofs.climb.Goals as goal
use Rattle.checkwords.proofs.climb.Goals.{then-last-pair, else-last-pair}

-- the word, which holds no more elements than there are
word_of : {s : List ℕ} {g : Shape} {k i q x : ℕ} → Ready s g k i q x → i + ones x ≤ g.n → x < 2 ^ 64 → Word s g k x
word_of {s} {g} {k} {i} {q} {x} r h fits = record {
  laid = r.laid;
  inside = r.inside;
  is = r.word_is;
  fits = fits;
  total = omega (arith, next_word s g.upper k x r.word_is fits, r.counted, h);
}

-- an element is left in it
turn_of : {s : List ℕ} {g : Shape} {k i q x rest lift last rises : ℕ} {l : Low} → Ready s g k i q x → i + ones x ≤ g.n → x < 2 ^ 64
    → Peeled s g k x i rest lift last rises l → 0 < rest → Turn s g k x i rest lift last rises l
turn_of r h fits p some = record { word = word_of r h fits; peeled = p; some = some }

pub overflow_mul-lift : goal.overflow_mul-lift
overflow_mul-lift c = omega (arith, (small _ _ _ _ _ _ c.requires.0 (omega arith)).place)

pub overflow_add-lift : goal.overflow_add-lift
overflow_add-lift c = omega (arith, (small _ _ _ _ _ _ c.requires.0 (omega arith)).place)

pub overflow_sub-lift : goal.overflow_sub-lift
overflow_sub-lift c =
    let a = c.args in
    omega (arith, ones_below_le a.s.now a.g.upper (64 * a.k), c.requires.0.counted)

pub loop-rest-init : goal.loop-rest-init
loop-rest-init c =
    let a = c.args in
    let t = c.requires.1 in
    peeled_start a.s.now a.g a.k a.x a.m.i t.bound a.m.last a.m.low t.climbed t.last_is t.held
    (omega (arith, ones_below_le a.s.now a.g.upper (64 * a.k), c.requires.0.counted))

pub overflow_add-high : goal.overflow_add-high
overflow_add-high c =
    omega (arith, turn_high (turn_of c.requires.0 c.requires.2 (omega arith) c.loop-rest.invariant (omega arith)))

pub next_low-low-requires : goal.next_low-low-requires
unfolding turn_of
next_low-low-requires c =
    let a = c.args in
    let p = c.loop-rest.invariant in
    let t = turn_of c.requires.0 c.requires.2 (omega arith) p (omega arith) in
    let l = c.loop-rest.low in
    record {
      held_fits = (held_lt a.s.now a.g p.i l p.held, left_lt a.s.now a.g p.i l p.held, omega (arith, c.requires.0.laid.narrow));
      has_word = held_room a.s.now a.g p.i l p.held c.requires.0.laid (turn_more t);
    }

pub paired-pair-requires : goal.paired-pair-requires
paired-pair-requires c =
    let t = turn_of c.requires.0 c.requires.2 (omega arith) c.loop-rest.invariant (omega arith) in
    (turn_high t, turn_low t c.next_low-low.result.part (ap (λ (l : Low). l.part) c.next_low-low.ensures))

pub overflow_add-rises : goal.overflow_add-rises
overflow_add-rises c =
    omega (arith, turn_rises (turn_of c.requires.0 c.requires.2 (omega arith) c.loop-rest.invariant (omega arith)))

pub overflow_sub-lift-in-loop-rest : goal.overflow_sub-lift-in-loop-rest
overflow_sub-lift-in-loop-rest c =
    turn_lift (turn_of c.requires.0 c.requires.2 (omega arith) c.loop-rest.invariant (omega arith))

pub loop-rest-smaller : goal.loop-rest-smaller
loop-rest-smaller c = let r = c.loop-rest.rest in omega (arith, and_le_r r (r - 1))

pub loop-rest-preserved : goal.loop-rest-preserved
loop-rest-preserved c =
    let t = turn_of c.requires.0 c.requires.2 (omega arith) c.loop-rest.invariant (omega arith) in
    let low = c.next_low-low in
    let pair = c.paired-pair in
    turn_next t pair.result (pair.ensures ∙ turn_pair t low.result.part (ap (λ (l : Low). l.part) low.ensures)) low.result
    low.ensures c.if-last-pair.rises (elim c.if-last-pair.branch [
      | then-last-pair e ↦ inl (e.if-last-pair.true, e.rises-is)
      | else-last-pair e ↦ inr (e.if-last-pair.false, e.rises-is)
    ])

pub overflow_mul-i : goal.overflow_mul-i
overflow_mul-i c = omega (arith, (small _ _ _ _ _ _ c.requires.0 (omega arith)).place)

pub overflow_add-i : goal.overflow_add-i
overflow_add-i c = omega (arith, (small _ _ _ _ _ _ c.requires.0 (omega arith)).place)

pub overflow_add-m : goal.overflow_add-m
overflow_add-m c =
    let p = c.loop-rest.invariant in
    omega (arith, p.risen.most, p.lifted, (small _ _ _ _ _ _ c.requires.0 (omega arith)).place)

pub returns-then-m-rises : goal.returns-then-m-rises
returns-then-m-rises c =
    peeled_refuse (word_of c.requires.0 c.requires.2 (omega arith)) c.loop-rest.invariant c.loop-rest-test.false c.if-m-rises.true

pub returns : goal.returns
returns c =
    peeled_read (word_of c.requires.0 c.requires.2 (omega arith)) c.loop-rest.invariant c.loop-rest-test.false
    c.requires.0.counted c.if-m-rises.false c.args.m.next
