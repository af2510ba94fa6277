-- Laws of shifts, masks and bits of numbers, over the width and the place.
-- Runs of words are in RunLaws, counts in CountLaws.
use mathlib.Core.Path.{◌≡◌, refl, sym, ap, ◌∙◌, subst}
use mathlib.Core.Logic.{◌⊎◌, inl, inr}
use Prim.Native.Nat.{ℕ, zero, suc, ◌+◌, ◌-◌, ◌*◌, ◌/◌, ◌%◌, ◌^◌, ◌≤◌, ◌<◌, suc-le-suc}
use native.Mathlib.Nat.{le_of_suc-le-suc, not-suc-le-zero, mod-lt, div-one, one-mul, mul_assoc, pow-succ'}
use native.Mathlib.Nat.{div-div-eq-div-mul, mul-add-div_right, mul-add-mod_self_right, mul-mod_left, mod-add-mod}
use native.Mathlib.Nat.{zero-lt-suc, pow-suc, add-mul, mod-eq_of_lt, lt_of_lt_of_le, div-eq_of_lt, mod-one}
use native.Mathlib.Omega.{arith}
use lib.Arith.{digits_lt}
use lib.Dec.{lit<}
use lib.Pow.{pow_pos, pow-add, pow_mono, shl_exact, shl-shr, shr-shr}
use lib.Pow.{shr_lt, shr_mod, mod-pow-add, mod-mod-pow, high, split}
use lib.Bits.{bit_and, bit_or, and_mask, and_high, and_step, and_self, or_shifted_r, shifted_even}
use lib.Count.{count_trailing_zeros, under}
use Rattle.rules.specs.Runs.{bit}

-- ---- shifts

-- `1 << w`
pub one_shl : (w : ℕ) → w < 64 → (1 * 2 ^ w) % 2 ^ 64 ≡ 2 ^ w
one_shl w h = shl_exact {a = 1} 1 w 64 (lit< tt) (omega arith) ∙ one-mul (2 ^ w)

-- `hi << d` keeps the b low digits
pub shl_keeps : (hi b d : ℕ) → (hi * 2 ^ d) % 2 ^ (b + d) ≡ hi % 2 ^ b * 2 ^ d
shl_keeps hi b d = mod-pow-add (hi * 2 ^ d) b d ∙ rw (shl-shr, mul-mod_left) (omega arith)

-- digits below the a lowest leave a bound as it is
pub filled_lt : (q r a m : ℕ) → a ≤ m → r < 2 ^ a → q * 2 ^ a < 2 ^ m → q * 2 ^ a + r < 2 ^ m
filled_lt q r a m h l g =
    let e : m - a + a ≡ m = omega arith in
    let k : q < 2 ^ (m - a) = rw shl-shr at (shr_lt {n = q * 2 ^ a} (m - a) a (rw e g)) in
    rw (← pow-add, e) at (digits_lt {q = q} {m = 2 ^ (m - a)} {r = r} {c = 2 ^ a} k l)

-- ---- a field of two words

pub drop_low : (hi lo d b : ℕ) → (hi * 2 ^ (d + b) + lo) / 2 ^ b ≡ hi * 2 ^ d + lo / 2 ^ b
drop_low hi lo d b = rw (pow-add, ← mul_assoc) (mul-add-div_right (pow_pos b) (hi * 2 ^ d) lo)

pub drop_high : (x y e w : ℕ) → (x * 2 ^ (e + w) + y) % 2 ^ w ≡ y % 2 ^ w
drop_high x y e w = rw (pow-add, ← mul_assoc) (mul-add-mod_self_right (x * 2 ^ e) (2 ^ w) y)

pub wrap_add : (x y e w : ℕ) → (x % 2 ^ (e + w) + y) % 2 ^ w ≡ (x + y) % 2 ^ w
wrap_add x y e w = sym (mod-add-mod (x % 2 ^ (e + w)) (2 ^ w) y) ∙ rw mod-mod-pow (mod-add-mod x (2 ^ w) y)

-- the field lies in the low word
pub field_one : (hi lo e w b : ℕ) → (lo / 2 ^ b) % 2 ^ w ≡ (hi * 2 ^ (e + w + b) + lo) / 2 ^ b % 2 ^ w
field_one hi lo e w b = sym (ap (λ (x : ℕ). x % 2 ^ w) (drop_low hi lo (e + w) b) ∙ drop_high hi (lo / 2 ^ b) e w)

-- the field crosses into the high word, of which `hi << d` keeps what fits
pub field_two : (hi lo d b e w : ℕ) → b + d ≡ e + w → lo < 2 ^ (d + b)
    → bit_or (lo / 2 ^ b) ((hi * 2 ^ d) % 2 ^ (b + d)) % 2 ^ w ≡ (hi * 2 ^ (d + b) + lo) / 2 ^ b % 2 ^ w
field_two hi lo d b e w h l =
    rw (shl_keeps, or_shifted_r (hi % 2 ^ b) d (lo / 2 ^ b) (shr_lt d b l), drop_low, ← shl_keeps, h)
    (wrap_add (hi * 2 ^ d) (lo / 2 ^ b) e w)

-- the two branches of `field2`, as the machine has them
pub near : (hi lo b w : ℕ) → w < 64 → b + w ≤ 64
    → bit_and (lo / 2 ^ b) ((1 * 2 ^ w) % 2 ^ 64 - 1) ≡ (hi * 2 ^ 64 + lo) / 2 ^ b % 2 ^ w
near hi lo b w h l =
    let s : 64 - (w + b) + w + b ≡ 64 = omega arith in
    rw (one_shl w h, and_mask)
    (subst (λ (n : ℕ). lo / 2 ^ b % 2 ^ w ≡ (hi * 2 ^ n + lo) / 2 ^ b % 2 ^ w) s (field_one hi lo (64 - (w + b)) w b))

pub far : (hi lo b w : ℕ) → w < 64 → b < 64 → lo < 2 ^ 64
    → bit_and (bit_or (lo / 2 ^ b) ((hi * 2 ^ (64 - b)) % 2 ^ 64)) ((1 * 2 ^ w) % 2 ^ 64 - 1)
    ≡ (hi * 2 ^ 64 + lo) / 2 ^ b % 2 ^ w
far hi lo b w h hb l =
    let s : 64 - b + b ≡ 64 = omega arith in
    let t : b + (64 - b) ≡ 64 = omega arith in
    let u : b + (64 - b) ≡ 64 - w + w = omega arith in
    let kept : ℕ → ℕ = λ n. bit_or (lo / 2 ^ b) ((hi * 2 ^ (64 - b)) % 2 ^ n) % 2 ^ w in
    let whole : ℕ → ℕ = λ n. (hi * 2 ^ n + lo) / 2 ^ b % 2 ^ w in
    let two = field_two hi lo (64 - b) b (64 - w) w u in
    let all = subst (λ (n : ℕ). lo < 2 ^ n → kept (b + (64 - b)) ≡ whole n) s two l in
    rw (one_shl w h, and_mask) (subst (λ (n : ℕ). kept n ≡ whole 64) t all)

-- ---- a field that is placed

-- `acc | (v << b)`
placed_lo : (acc v b : ℕ) → b < 64 → acc < 2 ^ b → bit_or acc ((v * 2 ^ b) % 2 ^ 64) ≡ v % 2 ^ (64 - b) * 2 ^ b + acc
placed_lo acc v b g h =
    let s : 64 - b + b ≡ 64 = omega arith in
    subst (λ (n : ℕ). bit_or acc ((v * 2 ^ b) % 2 ^ n) ≡ v % 2 ^ (64 - b) * 2 ^ b + acc) s
    (rw shl_keeps (or_shifted_r (v % 2 ^ (64 - b)) b acc h))

pub placed_one : (acc v b w : ℕ) → b < 64 → acc < 2 ^ b → v < 2 ^ w → b + w ≤ 64
    → bit_or acc ((v * 2 ^ b) % 2 ^ 64) ≡ v * 2 ^ b + acc
placed_one acc v b w g h l t =
    let k : w ≤ 64 - b = omega arith in
    placed_lo acc v b g h ∙ ap (λ (x : ℕ). x * 2 ^ b + acc) (mod-eq_of_lt (lt_of_lt_of_le l (pow_mono k)))

pub placed_two : (acc v b : ℕ) → b < 64 → acc < 2 ^ b
    → v / 2 ^ (64 - b) * 2 ^ 64 + bit_or acc ((v * 2 ^ b) % 2 ^ 64) ≡ v * 2 ^ b + acc
placed_two acc v b g h =
    let d : ℕ = 64 - b in
    let s : d + b ≡ 64 = omega arith in
    let p : v / 2 ^ d * 2 ^ 64 ≡ v / 2 ^ d * 2 ^ d * 2 ^ b =
    subst (λ (n : ℕ). v / 2 ^ d * 2 ^ n ≡ v / 2 ^ d * 2 ^ d * 2 ^ b) s (rw (pow-add, mul_assoc)) in
    let q : v * 2 ^ b ≡ v / 2 ^ d * 2 ^ d * 2 ^ b + v % 2 ^ d * 2 ^ b =
    ap (λ (x : ℕ). x * 2 ^ b) (sym (split v d)) ∙ add-mul (v / 2 ^ d * 2 ^ d) (v % 2 ^ d) (2 ^ b) in
    omega (arith, placed_lo acc v b g h)

-- ---- bits

pub bit_zero : (n : ℕ) → bit n zero ≡ n % 2
unfolding bit
bit_zero n = rw div-one

pub bit_suc : (n j : ℕ) → bit n (suc j) ≡ bit (n / 2) j
unfolding bit
bit_suc n j = rw (pow-succ', div-div-eq-div-mul)

pub digit : (x : ℕ) → (x % 2 ≡ 0) ⊎ (x % 2 ≡ 1)
digit x = go (x % 2) (omega arith)
  where
    go : (d : ℕ) → d < 2 → (d ≡ 0) ⊎ (d ≡ 1)
    go zero h = inl refl
    go (suc zero) h = inr refl
    go (suc (suc d)) h = absurd (omega arith)

pub bit_cases : (x j : ℕ) → (bit x j ≡ 0) ⊎ (bit x j ≡ 1)
unfolding bit
bit_cases x j = digit (x / 2 ^ j)

pub one_zero : {n : ℕ} → n ≡ 1 → n ≡ 0 → ⊥
one_zero p q = omega arith

pub bit_above : (v m i : ℕ) → v < 2 ^ m → m ≤ i → bit v i ≡ 0
unfolding bit
bit_above v m i h l = ap (λ (q : ℕ). q % 2) (div-eq_of_lt (lt_of_lt_of_le h (pow_mono l)))

pub bit_shr : (x b j : ℕ) → bit (x / 2 ^ b) j ≡ bit x (b + j)
unfolding bit
bit_shr x b j = rw shr-shr

-- below d the bits of hi * 2 ^ d + lo are those of lo
pub bit_low : (hi lo d j : ℕ) → j < d → bit (hi * 2 ^ d + lo) j ≡ bit lo j
unfolding bit
bit_low hi lo d j h =
    let s : suc (d - suc j) + j ≡ d = omega arith in
    subst (λ (n : ℕ). (hi * 2 ^ n + lo) / 2 ^ j % 2 ≡ lo / 2 ^ j % 2) s
    (rw (drop_low, pow-suc, ← mul_assoc) (mul-add-mod_self_right (hi * 2 ^ (d - suc j)) 2 (lo / 2 ^ j)))

-- and from d on those of hi
pub bit_high : (hi lo d j : ℕ) → lo < 2 ^ d → bit (hi * 2 ^ d + lo) (d + j) ≡ bit hi j
unfolding bit
bit_high hi lo d j h = rw (← shr-shr, high hi d h)

-- below f a shifted number's bits are 0, and from f on they are those of x
pub bit_cleared : (x f i : ℕ) → i < f → bit (x * 2 ^ f) i ≡ 0
unfolding bit
bit_cleared x f i h =
    let s : suc (f - suc i) + i ≡ f = omega arith in
    subst (λ (k : ℕ). x * 2 ^ k / 2 ^ i % 2 ≡ 0) s (rw (pow-add, ← mul_assoc, shl-shr) (shifted_even x (f - suc i)))

pub shr_kept : (x f i : ℕ) → f ≤ i → x / 2 ^ f * 2 ^ f / 2 ^ i ≡ x / 2 ^ i
shr_kept x f i h =
    let s : f + (i - f) ≡ i = omega arith in
    subst (λ (k : ℕ). x / 2 ^ f * 2 ^ f / 2 ^ k ≡ x / 2 ^ k) s (rw (← shr-shr, shl-shr, shr-shr))

pub bit_kept : (x f i : ℕ) → f ≤ i → bit (x / 2 ^ f * 2 ^ f) i ≡ bit x i
unfolding bit
bit_kept x f i h = ap (λ (y : ℕ). y % 2) (shr_kept x f i h)

pub bit_mod : (x w j : ℕ) → j < w → bit (x % 2 ^ w) j ≡ bit x j
bit_mod x w j h = sym (bit_low (x / 2 ^ w) (x % 2 ^ w) w j h) ∙ ap (λ (y : ℕ). bit y j) (split x w)

pub bit_beyond : (x i : ℕ) → x < 2 ^ i → bit x i ≡ 0
unfolding bit
bit_beyond x i h = ap (λ (y : ℕ). y % 2) (div-eq_of_lt h)

-- a number whose d low bits are 0
pub bits_none : (x d : ℕ) → ((j : ℕ) → j < d → bit x j ≡ 0) → x % 2 ^ d ≡ 0
unfolding bit
bits_none x zero h = mod-one x
bits_none x (suc d) h =
    let e : 1 + d ≡ suc d = omega arith in
    let t : x / 2 ^ d % 2 ≡ 0 = h d (omega arith) in
    subst (λ (k : ℕ). x % 2 ^ k ≡ 0) e
    (mod-pow-add x 1 d ∙ rw (t, bits_none x d (λ j l. h j (omega arith))) (omega arith))

-- ---- trailing zeros

-- below the trailing zeros every bit is 0
pub tz_below : (k n j : ℕ) → j < count_trailing_zeros k n → bit n j ≡ 0
unfolding count_trailing_zeros
tz_below zero n j h = absurd (not-suc-le-zero h)
tz_below (suc k) n j h = go (λ i. tz_below k (n / 2) i) (n % 2) refl j h
  where
    go : ((i : ℕ) → i < count_trailing_zeros k (n / 2) → bit (n / 2) i ≡ 0) → (d : ℕ) → n % 2 ≡ d → (j : ℕ)
        → j < under d (count_trailing_zeros k (n / 2)) → bit n j ≡ 0
    go ih zero e zero h = bit_zero n ∙ e
    go ih zero e (suc j) h = bit_suc n j ∙ ih j (le_of_suc-le-suc h)
    go ih (suc d) e j h = absurd (not-suc-le-zero h)

-- and the bit there is 1, if there is one
pub tz_set : (k n : ℕ) → count_trailing_zeros k n < k → bit n (count_trailing_zeros k n) ≡ 1
unfolding count_trailing_zeros
tz_set zero n h = absurd (not-suc-le-zero h)
tz_set (suc k) n h = go (tz_set k (n / 2)) (n % 2) refl (mod-lt n (zero-lt-suc 1)) h
  where
    go : (count_trailing_zeros k (n / 2) < k → bit (n / 2) (count_trailing_zeros k (n / 2)) ≡ 1) → (d : ℕ) → n % 2 ≡ d → d < 2
        → under d (count_trailing_zeros k (n / 2)) < suc k → bit n (under d (count_trailing_zeros k (n / 2))) ≡ 1
    go ih zero e l h = bit_suc n (count_trailing_zeros k (n / 2)) ∙ ih (le_of_suc-le-suc h)
    go ih (suc zero) e l h = bit_zero n ∙ e
    go ih (suc (suc d)) e l h = absurd (omega arith)

-- and there is one in a number that is not 0
pub tz_lt : (k n : ℕ) → 0 < n → n < 2 ^ k → count_trailing_zeros k n < k
unfolding count_trailing_zeros
tz_lt zero n p h = absurd (omega arith)
tz_lt (suc k) n p h = go (λ (p : 0 < n / 2). tz_lt k (n / 2) p (omega (arith, pow-suc 2 k))) (n % 2) refl
  where
    go : (0 < n / 2 → count_trailing_zeros k (n / 2) < k) → (d : ℕ) → n % 2 ≡ d → under d (count_trailing_zeros k (n / 2)) < suc k
    go ih zero e = suc-le-suc (ih (omega arith))
    go ih (suc d) e = zero-lt-suc k

-- `x & (x - 1)` clears the lowest 1, which is at t
pub clear_lowest : (x t : ℕ) → ((j : ℕ) → j < t → bit x j ≡ 0) → bit x t ≡ 1
    → bit_and x (x - 1) ≡ x / 2 ^ suc t * 2 ^ suc t
clear_lowest x zero z o =
    let e : x % 2 ≡ 1 = sym (bit_zero x) ∙ o in
    let h : (x - 1) / 2 ≡ x / 2 = omega arith in
    let l : (x - 1) % 2 ≡ 0 = omega arith in
    and_step x (x - 1) ∙ rw (e, h, l, and_self) (omega arith)
clear_lowest x (suc t) z o =
    let e : x % 2 ≡ 0 = sym (bit_zero x) ∙ z 0 (omega arith) in
    let h : (x - 1) / 2 ≡ x / 2 - 1 = omega arith in
    let ih = clear_lowest (x / 2) t (λ j l. sym (bit_suc x j) ∙ z (suc j) (omega arith)) (sym (bit_suc x t) ∙ o) in
    let p : x / 2 / 2 ^ suc t ≡ x / 2 ^ suc (suc t) = rw (pow-succ' 2 (suc t), div-div-eq-div-mul) in
    let q : 2 ^ suc (suc t) ≡ 2 ^ suc t * 2 = pow-suc 2 (suc t) in
    and_step x (x - 1) ∙ rw (e, h, ih, p, q, ← mul_assoc) (omega arith)

-- `x & !((1 << f) - 1)` clears the f low bits
pub clear_low : (x f : ℕ) → x < 2 ^ 64 → f < 64
    → bit_and x ((2 ^ 64 - 1) - ((1 * 2 ^ f) % 2 ^ 64 - 1)) ≡ x / 2 ^ f * 2 ^ f
clear_low x f l h =
    let s : 64 - f + f ≡ 64 = omega arith in
    let m : (2 ^ 64 - 1) - ((1 * 2 ^ f) % 2 ^ 64 - 1) ≡ 2 ^ (64 - f + f) - 2 ^ f =
    rw (one_shl f h, s) (omega (arith, pow_pos f)) in
    let l' : x < 2 ^ (64 - f + f) = rw s l in
    ap (bit_and x) m ∙ and_high x (64 - f) f ∙ ap (λ (y : ℕ). y * 2 ^ f) (shr_mod (64 - f) f l')

-- ---- masks

-- `x & ((1 << j) - 1)`
pub masked : (x j : ℕ) → j < 64 → bit_and x ((1 * 2 ^ j) % 2 ^ 64 - 1) ≡ x % 2 ^ j
masked x j h = rw (one_shl j h, and_mask)
