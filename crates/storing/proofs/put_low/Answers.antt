-- `put_low` lays the low bits of x: what `place` gives is the old bits and the new, and its full word is written.
use mathlib.Core.Path.{◌≡◌, sym, ◌∙◌}
use Prim.Native.Nat.{ℕ, ◌+◌, ◌-◌, ◌*◌, ◌/◌, ◌%◌, ◌^◌, ◌≤◌, ◌<◌}
use native.Mathlib.Nat.{mod-lt, le_of_lt, lt_of_lt_of_le}
use native.Mathlib.Omega.{arith}
use lib.Arith.{digits_lt}
use lib.Bits.{bit_and}
use lib.Pow.{pow-add, pow_pos, pow_mono, high, low}
use mir.Syntax.{w64}
use mir.Val.{Fits}
use Rattle.laws.proofs.BitLaws.{one_shl, masked}
use Rattle.filllaws.proofs.StoreLaws.{flushed_none, flushed_one}
use Rattle.storing.proofs.put_low.Lts
use Rattle.storing.proofs.put_low.Reads
use Rattle.storing.proofs.put_low.Tie
use Rattle.storing.proofs.put_low.Goals as goal

abbrev After-slice_known-1 : Type 0
After-slice_known-1 = Lts.After-slice_known Tie.the-claims Reads.Pre Reads.Post

-- the sums that are made of the run's place, its words and its bits in hand fit a machine word
record Sums (at words have w : ℕ) : Type 0 where
  bits : Fits w64 (have + w)
  from : Fits w64 (8 * words)
  place : Fits w64 (at + 8 * words)
  next : Fits w64 (words + 1)

sums : (at words have w n : ℕ) → have < 64 → w ≤ 32 → at + 8 * (words + (have + w) / 64) ≤ n → n < 2 ^ 63
    → Sums at words have w
sums at words have w n h l e m = record {
  bits = omega arith;
  from = omega arith;
  place = omega arith;
  next = omega arith;
}

-- the run's words and bits in hand, where b bits fill no word and where they fill one
record Below (words b : ℕ) : Type 0 where
  full : b / 64 ≡ 0
  have : b ≡ b % 64
  more : words ≡ words + b / 64

below : (words b : ℕ) → b < 64 → Below words b
below words b h = record { full = omega arith; have = omega arith; more = omega arith }

record Above (words b : ℕ) : Type 0 where
  full : b / 64 ≡ 1
  have : b - 64 ≡ b % 64
  more : words + 1 ≡ words + b / 64

above : (words b : ℕ) → 64 ≤ b → b < 128 → Above words b
above words b h l = record { full = omega arith; have = omega arith; more = omega arith }

fitting : (c : After-slice_known-1) → let a = c.args in Sums a.at a.a.words a.a.have a.w
fitting c =
    let p = c.requires in
    sums _ _ _ _ _ p.0 p.1 p.3 (omega arith)

bits_lt : {have w : ℕ} → have < 64 → w ≤ 32 → have + w < 128
bits_lt h l = omega arith

pub overflow_sub-low : goal.overflow_sub-low
overflow_sub-low c =
    let w = c.args.w in
    rw (one_shl w (omega arith)) (pow_pos w)

pub place-p-requires : goal.place-p-requires
place-p-requires c =
    let a = c.args in
    let p = c.requires in
    (p.0, p.1, rw (masked a.x a.w (omega arith)) (mod-lt a.x (pow_pos a.w)), p.2)

-- the bits that `place` gives
laid_bits : (x w b acc hi lo : ℕ) → w ≤ 32 → hi * 2 ^ 64 + lo ≡ bit_and x ((1 * 2 ^ w) % 2 ^ 64 - 1) * 2 ^ b + acc
    → hi * 2 ^ 64 + lo ≡ acc + x % 2 ^ w * 2 ^ b
laid_bits x w b acc hi lo h e = e ∙ rw (masked x w (omega arith)) (omega arith)

laid_lt : (x w b acc : ℕ) → acc < 2 ^ b → b + w ≤ 64 → acc + x % 2 ^ w * 2 ^ b < 2 ^ 64
laid_lt x w b acc h l =
    let d : x % 2 ^ w * 2 ^ b + acc < 2 ^ w * 2 ^ b =
    digits_lt {q = x % 2 ^ w} {m = 2 ^ w} {r = acc} {c = 2 ^ b} (mod-lt x (pow_pos w)) h in
    let g : w + b ≤ 64 = omega arith in
    omega (arith, lt_of_lt_of_le (rw (← pow-add) at d) (pow_mono g))

parted : (hi lo t : ℕ) → lo < 2 ^ 64 → hi * 2 ^ 64 + lo ≡ t → (lo ≡ t % 2 ^ 64) × (hi ≡ t / 2 ^ 64)
parted hi lo t h e = rw (← e) (sym (low hi 64 h), sym (high hi 64 h))

whole : (hi lo t : ℕ) → hi * 2 ^ 64 + lo ≡ t → t < 2 ^ 64 → lo ≡ t
whole hi lo t e h = omega arith

pub returns-then-a-w-lt64 : goal.returns-then-a-w-lt64
returns-then-a-w-lt64 c =
    let k = c.before.before.before.before in
    let s = k.before.before in
    let a = s.args in
    let lows = a.a in
    let r = k.place-p.result in
    let v : ℕ = lows.acc + a.x % 2 ^ a.w * 2 ^ lows.have in
    let i = c.if-a-w-lt64.true in
    let b = below lows.words (lows.have + a.w) i in
    record {
      flushed = flushed_none a.at lows.words v a.room.now ((lows.have + a.w) / 64) r.lo b.full
          (whole r.hi r.lo v
          (laid_bits a.x a.w lows.have lows.acc r.hi r.lo s.requires.1 k.place-p.ensures)
          (laid_lt a.x a.w lows.have lows.acc s.requires.2 (le_of_lt i)));
      have = b.have;
      words = b.more;
    }

pub returns : goal.returns
returns c =
    let u = c.before.before.before.before.before in
    let k = u.before.before.before.before.before in
    let s = k.before.before in
    let a = s.args in
    let lows = a.a in
    let r = k.place-p.result in
    let v : ℕ = lows.acc + a.x % 2 ^ a.w * 2 ^ lows.have in
    let b = above lows.words (lows.have + a.w) u.if-a-w-lt64.false
    (bits_lt s.requires.0 s.requires.1) in
    let p = parted r.hi r.lo v k.place-p.type_inv.1.1.0.1
    (laid_bits a.x a.w lows.have lows.acc r.hi r.lo s.requires.1 k.place-p.ensures) in
    record {
      flushed = flushed_one a.at lows.words v a.room.now ((lows.have + a.w) / 64) r.hi r.lo
          u.write_u64.new.d b.full (omega arith) u.write_u64.ensures p.0 p.1;
      have = b.have;
      words = b.more;
    }

pub overflow_add-a : goal.overflow_add-a
overflow_add-a c = (fitting c.before.before.before).bits

pub overflow_add-result : goal.overflow_add-result
overflow_add-result c = (fitting c.before.before.before.before.before).bits

pub overflow_mul-a : goal.overflow_mul-a
overflow_mul-a c = (fitting c.before.before.before.before.before).from

pub overflow_add-at : goal.overflow_add-at
overflow_add-at c = (fitting c.before.before.before.before.before).place

pub overflow_add-result-2 : goal.overflow_add-result-2
overflow_add-result-2 c = (fitting c.before.before.before.before.before.before.before.before.before.before).bits

pub overflow_sub-result : goal.overflow_sub-result
overflow_sub-result c = c.if-a-w-lt64.false

pub overflow_add-result-3 : goal.overflow_add-result-3
overflow_add-result-3 c = (fitting c.before.before.before.before.before.before.before.before.before.before.before).next
