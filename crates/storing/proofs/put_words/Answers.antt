-- `put_words` writes the words: those up to k stand in the room, and what is in hand is the rest of acc.
use mathlib.Core.Path.{◌≡◌, refl, sym, ap, ◌∙◌, subst}
use Prim.Native.Nat.{ℕ, ◌+◌, ◌-◌, ◌*◌, ◌/◌, ◌%◌, ◌^◌, ◌≤◌, ◌<◌}
use native.Mathlib.Nat.{div-eq_of_lt, div-one, mod-eq_of_lt, lt_of_lt_of_le}
use native.Mathlib.Omega.{arith}
use lib.Pow.{pow_mono}
use lib.Seq.{sets}
use Rattle.rules.specs.Bytes.{be}
use Rattle.filllaws.specs.Filling.{Stored}
use Rattle.filllaws.proofs.StoreLaws.{stored_none, stored_more}
use Rattle.storing.proofs.put_words.Invariants.{word_at}
use Rattle.storing.proofs.put_words.Goals as goal

first : (from acc : ℕ) → acc ≡ acc / 2 ^ (64 * (from - from))
first from acc =
    let e : 64 * (from - from) ≡ 0 = omega arith in
    rw e (sym (div-one acc))

later : (from acc k : ℕ) → from ≤ k → acc < 2 ^ 64 → 0 ≡ acc / 2 ^ (64 * (k + 1 - from))
later from acc k l h =
    let g : 64 ≤ 64 * (k + 1 - from) = omega arith in
    sym (div-eq_of_lt (lt_of_lt_of_le h (pow_mono g)))

pub loop-k-init : goal.loop-k-init
loop-k-init c =
    let a = c.args in (
      omega arith,
      omega arith,
      refl,
      first a.from a.acc,
      omega arith,
      stored_none 8 a.at (word_at a.from a.acc) a.from a.room.now,
    )

pub loop-k-preserved : goal.loop-k-preserved
loop-k-preserved c =
    let l = c.before.before.before.before.before.before in
    let a = l.args in
    let k = l.loop-k.k in
    let s : Stored 8 a.at (word_at a.from a.acc) a.from k a.room.now l.loop-k.room =
    l.loop-k.invariant.5 in
    let w : l.loop-k.word ≡ word_at a.from a.acc k =
    sym (mod-eq_of_lt l.loop-k.invariant.4) ∙ ap (λ v. v % 2 ^ 64) l.loop-k.invariant.3 in
    let t = stored_more 8 a.at (word_at a.from a.acc) a.from k a.room.now
    l.loop-k.room s (omega arith) (omega arith) (omega (arith, w)) c.write_u64.new.d
    (c.write_u64.ensures ∙ ap (λ v. sets l.loop-k.room (a.at + 8 * k) (be 8 v)) w) in
    (omega arith, omega arith, t.long, later a.from a.acc k (omega arith) (omega arith), omega arith, t)

pub returns : goal.returns
returns c =
    let l = c.before in
    let a = l.args in
    let e : l.loop-k.k ≡ a.to = omega arith in
    let g : a.to ≡ a.from + (a.to - a.from) = omega arith in
    record {
      stored = subst (λ n. Stored 8 a.at (word_at a.from a.acc) a.from n a.room.now l.loop-k.room)
          (e ∙ g) l.loop-k.invariant.5;
      rest = l.loop-k.invariant.3 ∙ ap (λ n. a.acc / 2 ^ (64 * (n - a.from))) e;
    }

pub overflow_mul-k : goal.overflow_mul-k
overflow_mul-k c = omega arith

pub overflow_add-at : goal.overflow_add-at
overflow_add-at c = omega arith

pub write_u64-requires : goal.write_u64-requires
write_u64-requires c = omega arith

pub overflow_step-k : goal.overflow_step-k
overflow_step-k c = omega arith

pub loop-k-smaller : goal.loop-k-smaller
loop-k-smaller c = omega arith

pub shape_of-room : goal.shape_of-room
shape_of-room c = omega arith
