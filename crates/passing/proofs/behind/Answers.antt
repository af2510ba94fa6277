-- `behind` masks what is below the place, and the bit there if asked.
use mathlib.Core.Path.{◌≡◌, ap, ◌∙◌}
use Prim.Native.Nat.{ℕ, zero, suc, ◌+◌, ◌-◌, ◌*◌, ◌/◌, ◌%◌, ◌^◌, ◌≤◌, ◌<◌}
use native.Mathlib.Nat.{add-zero, pow-suc, mul-add-mod_self_right, mod-eq_of_lt}
use native.Mathlib.Numerals.{add-one}
use native.Mathlib.Omega.{arith}
use lib.Bits.{bit_and, and_high}
use lib.Pow.{pow_pos, pow_mono, shr_mod}
use Rattle.passing.proofs.behind.Goals as goal

-- what of (2 ^ 64 - y) * p a word holds
wrapped : (x p y : ℕ) → 0 < p → 0 < y → y ≤ 2 ^ 64 → x * p + y ≡ p * 2 ^ 64 → x * p % 2 ^ 64 ≡ 2 ^ 64 - y
wrapped x p y h k l e =
    let d : x * p ≡ (p - 1) * 2 ^ 64 + (2 ^ 64 - y) = omega arith in
    rw d (mul-add-mod_self_right (p - 1) (2 ^ 64) (2 ^ 64 - y) ∙ mod-eq_of_lt (omega arith))

-- `(MAX - own) << f`
mask : (f own : ℕ) → f < 64 → own ≤ 1 → ((2 ^ 64 - 1) - own) * 2 ^ f % 2 ^ 64 ≡ 2 ^ 64 - 2 ^ (f + own)
mask f zero l h =
    let m = pow_mono {i = f} {j = 63} (omega arith) in
    rw add-zero (wrapped (2 ^ 64 - 1) (2 ^ f) (2 ^ f) (pow_pos f) (pow_pos f) (omega arith) (omega arith))
mask f (suc zero) l h =
    let m = pow_mono {i = f} {j = 63} (omega arith) in
    rw (add-one, pow-suc 2 f)
    (wrapped (2 ^ 64 - 2) (2 ^ f) (2 ^ f * 2) (pow_pos f) (omega (arith, pow_pos f)) (omega arith) (omega arith))
mask f (suc (suc n)) l h = absurd (omega arith)

-- `x & ((MAX - own) << f)`
kept : (x f own : ℕ) → x < 2 ^ 64 → f < 64 → own ≤ 1
    → bit_and x (((2 ^ 64 - 1) - own) * 2 ^ f % 2 ^ 64) ≡ x / 2 ^ (f + own) * 2 ^ (f + own)
kept x f own l h g =
    let n : ℕ = f + own in
    let s : 64 - n + n ≡ 64 = omega arith in
    let m : ((2 ^ 64 - 1) - own) * 2 ^ f % 2 ^ 64 ≡ 2 ^ (64 - n + n) - 2 ^ n = rw s (mask f own h g) in
    let l' : x < 2 ^ (64 - n + n) = rw s l in
    ap (bit_and x) m ∙ and_high x (64 - n) n ∙ ap (λ (y : ℕ). y * 2 ^ n) (shr_mod (64 - n) n l')

pub returns : goal.returns
returns c = kept c.args.x c.args.place c.args.own (omega arith) (omega arith) (omega arith)
