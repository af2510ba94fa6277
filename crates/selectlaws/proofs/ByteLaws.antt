-- Laws of counts of ones byte by byte: of each byte, and added up, in one register.
use mathlib.Core.Path.{◌≡◌, refl, sym, ap, ap₂, ◌∙◌, subst}
use mathlib.Core.Bool.{Bool, true, false, ◌&&◌}
use Prim.Native.Nat.{ℕ, zero, suc, ◌+◌, ◌-◌, ◌*◌, ◌/◌, ◌%◌, ◌^◌, ◌≤◌, ◌<◌}
use native.Mathlib.Nat.{add_assoc, div-one, mul-mod_left, mod-eq_of_lt, add-mod-mod, div-add-mod'}
use native.Mathlib.Nat.{zero-add, zero-lt-suc, one-le-pow, mod-one, pow-suc, mul-add, mul_right_comm}
use native.Mathlib.Nat.{mul-add-mod_self_right, add-mul, mul_assoc, mod-lt, lt_of_lt_of_le}
use native.Mathlib.Decide.{dec_lt}
use native.Mathlib.Omega.{arith}
use lib.Bits.{bit_and}
use lib.Bits.{and_mask, and_mod, and_block, and_zero_r, and_le_l, and_le_r}
use lib.Count.{ones, ones-le}
use lib.Dec.{T, eqb, eqb→eq, lit<}
use lib.Arith.{digits_lt, mod-mul}
use lib.Pow.{split, pow_pos, pow-add, pow_mono, shr_lt, shr-shr, shl-shr, field, mod-mod-pow}
use Rattle.laws.proofs.BitLaws.{drop_low, shl_keeps}
use Rattle.laws.proofs.CountLaws.{ones_parts}
use Rattle.fields.proofs.WordLaws.{complement_ones}
use Rattle.selectlaws.specs.ByteCounts.{each, byte_ones, running_ones, highest_byte}

-- ---- the counts of the bytes

-- `(x >> s) & m` by parts of k bits, where m has no bit that a higher part could bring
shift_part : (k s t x l m M : ℕ) → s + t ≡ k → l < 2 ^ k → m < 2 ^ t
    → bit_and ((x * 2 ^ k + l) / 2 ^ s) (M * 2 ^ k + m) ≡ bit_and (x / 2 ^ s) M * 2 ^ k + bit_and (l / 2 ^ s) m
shift_part k s t x l m M e hl hm =
    let w : 2 ^ s * 2 ^ t ≡ 2 ^ k = sym (pow-add 2 s t) ∙ ap (λ (n : ℕ). 2 ^ n) e in
    let n : t + s ≡ k = omega arith in
    let u : ℕ = x % 2 ^ s in
    let v : ℕ = l / 2 ^ s in
    let hv : v < 2 ^ t = shr_lt t s (rw n hl) in
    let low : u * 2 ^ t + v < 2 ^ k = subst (λ (c : ℕ). u * 2 ^ t + v < c) w (digits_lt (mod-lt x (pow_pos s)) hv) in
    let top : x * 2 ^ t ≡ x / 2 ^ s * 2 ^ k + u * 2 ^ t =
    ap (λ (y : ℕ). y * 2 ^ t) (sym (split x s)) ∙ add-mul (x / 2 ^ s * 2 ^ s) u (2 ^ t) ∙ rw (mul_assoc, w) in
    let q : (x * 2 ^ k + l) / 2 ^ s ≡ x / 2 ^ s * 2 ^ k + (u * 2 ^ t + v) =
    rw n at (drop_low x l t s) ∙ omega (arith, top) in
    let a : bit_and (u * 2 ^ t + v) (0 * 2 ^ t + m) ≡ bit_and v m =
    and_block t u 0 v m hv hm ∙ rw and_zero_r (omega arith) in
    let z : 0 * 2 ^ t + m ≡ m = omega arith in
    let a' : bit_and (u * 2 ^ t + v) m ≡ bit_and v m = subst (λ (y : ℕ). bit_and (u * 2 ^ t + v) y ≡ bit_and v m) z a in
    ap (λ (y : ℕ). bit_and y (M * 2 ^ k + m)) q
    ∙ and_block k (x / 2 ^ s) M (u * 2 ^ t + v) m low (lt_of_lt_of_le hm (pow_mono {j = k} (omega arith)))
    ∙ ap (λ (y : ℕ). bit_and (x / 2 ^ s) M * 2 ^ k + y) a'

-- `x - ((x >> 1) & m)`
abbrev pub paired : ℕ → ℕ → ℕ
paired m x = x - bit_and (x / 2) m

paired_part : (x l m M : ℕ) → l < 256 → m < 128
    → paired (M * 256 + m) (x * 256 + l) ≡ paired M x * 256 + paired m l
paired_part x l m M hl hm =
    omega (arith, shift_part 8 1 7 x l m M refl hl hm, and_le_l (x / 2) M, and_le_l (l / 2) m)

-- `(x & m) + ((x >> 2) & m)`
abbrev folded : ℕ → ℕ → ℕ
folded m x = bit_and x m + bit_and (x / 4) m

folded_part : (x l m M : ℕ) → l < 256 → m < 64
    → folded (M * 256 + m) (x * 256 + l) ≡ folded M x * 256 + folded m l
folded_part x l m M hl hm =
    omega (arith, and_block 8 x M l m hl (omega arith), shift_part 8 2 6 x l m M refl hl hm)

pub folded_le : (m x : ℕ) → folded m x ≤ m + m
folded_le m x = omega (arith, and_le_r x m, and_le_r (x / 4) m)

-- the ones of each half of a byte, by adding bits and pairs
abbrev halves : ℕ → ℕ → ℕ
halves m x = folded (each m 51) (paired (each m 85) x)

-- the ones of each byte: `(h + (h >> 4)) & m` of its halves h
abbrev counted : ℕ → ℕ → ℕ
counted m x = bit_and (halves m x + halves m x / 16) (each m 15)

-- a test of every number below n
unfoldable every : ℕ → (ℕ → Bool) → Bool
every zero f = true
every (suc n) f = f n && every n f

pub both : (a b : Bool) → T (a && b) → T a × T b
both true b t = (tt, t)
both false b t = absurd t

every_at : (n : ℕ) (f : ℕ → Bool) → T (every n f) → (i : ℕ) → i < n → T (f i)
unfolding every
every_at zero f t i h = absurd (omega arith)
every_at (suc n) f t i h =
    elim (dec_lt i n) [
      | yes l ↦ every_at n f (both (f n) (every n f) t).1 i l
      | no g ↦
          let e : n ≡ i = omega arith in
          subst (λ (m : ℕ). T (f m)) e (both (f n) (every n f) t).0
    ]

-- one byte, by a computed test
byte_count : (l : ℕ) → l < 256 → (halves 1 l + halves 1 l / 16) % 16 ≡ ones l
unfolding every ones
byte_count l h = eqb→eq ((halves 1 l + halves 1 l / 16) % 16) (ones l)
    (every_at 256 (λ i. eqb ((halves 1 i + halves 1 i / 16) % 16) (ones i)) tt l h)

and_low : (m x : ℕ) → bit_and x (each m 51) % 16 ≤ 3
and_low zero x = rw and_zero_r (omega arith)
and_low (suc m) x = omega (arith, and_mod x (each (suc m) 51) 4, and_le_r (x % 16) (each (suc m) 51 % 16))

-- the low half of the next byte is small, so that no byte of the sum overflows
folded_low : (m x : ℕ) → folded (each m 51) x % 16 ≤ 6
folded_low m x = omega (arith, and_low m x, and_low m (x / 4))

pub counted_is : (m x : ℕ) → counted m x ≡ byte_ones m x
unfolding byte_ones
counted_is zero x = simp and_zero_r
counted_is (suc m) x =
    let h : ℕ = x / 256 in
    let l : ℕ = x % 256 in
    let hl : l < 256 = mod-lt x (pow_pos 8) in
    let H : ℕ = halves m h in
    let v : ℕ = halves 1 l in
    let r : ℕ = H % 16 * 16 + (v + v / 16) in
    let a : halves (suc m) x ≡ H * 256 + v = ap (halves (suc m)) (sym (split x 8))
    ∙ ap (folded (each (suc m) 51)) (paired_part h l 85 (each m 85) hl (lit< tt))
    ∙ folded_part (paired (each m 85) h) (paired 85 l) 51 (each m 51) (omega arith) (lit< tt) in
    let b : H * 256 + v + (H * 256 + v) / 16 ≡ (H + H / 16) * 256 + r = omega arith in
    let hr : r < 256 = omega (arith, folded_le 51 (paired 85 l), folded_low m (paired (each m 85) h)) in
    let low : bit_and r 15 ≡ ones l = and_mask r 4 ∙ omega (arith, byte_count l hl) in
    ap (λ (y : ℕ). bit_and (y + y / 16) (each (suc m) 15)) a ∙ ap (λ (y : ℕ). bit_and y (each (suc m) 15)) b
    ∙ and_block 8 (H + H / 16) (each m 15) r 15 hr (lit< tt)
    ∙ ap₂ (λ (y z : ℕ). y * 256 + z) (counted_is m h) low

-- ---- the counts added up

mod_mul_left : (n y k : ℕ) → y % n * k % n ≡ y * k % n
mod_mul_left n y k =
    let e : y * k ≡ y / n * k * n + y % n * k = ap (λ (z : ℕ). z * k) (sym (div-add-mod' y n))
    ∙ add-mul (y / n * n) (y % n) k ∙ ap (λ (z : ℕ). z + y % n * k) (mul_right_comm (y / n) n k) in
    sym (ap (λ (z : ℕ). z % n) e ∙ mul-add-mod_self_right (y / n * k) n (y % n * k))

-- `x + (x << ..)`, where the shift multiplies by k
twice : (n x y z k : ℕ) → x ≡ y % n → z ≡ (x + (x * k) % n) % n → z ≡ y * (1 + k) % n
twice n x y z k p q =
    let e : x + x * k ≡ x * (1 + k) = omega (arith, mul-add x 1 k) in
    q ∙ add-mod-mod x (x * k) n ∙ ap (λ (i : ℕ). i % n) e ∙ ap (λ (i : ℕ). i * (1 + k) % n) p ∙ mod_mul_left n y (1 + k)

-- each byte added to all above it, by doubling how far it goes
pub doubled : (c d f s : ℕ) → c < 2 ^ 64 → d ≡ (c + (c * 2 ^ 8) % 2 ^ 64) % 2 ^ 64
    → f ≡ (d + (d * 2 ^ 16) % 2 ^ 64) % 2 ^ 64 → s ≡ (f + (f * 2 ^ 32) % 2 ^ 64) % 2 ^ 64 → s ≡ c * each 8 1 % 2 ^ 64
doubled c d f s l p q r =
    let d' = twice (2 ^ 64) c c d (2 ^ 8) (sym (mod-eq_of_lt l)) p in
    let f' = twice (2 ^ 64) d (c * (1 + 2 ^ 8)) f (2 ^ 16) d' q in
    let s' = twice (2 ^ 64) f (c * (1 + 2 ^ 8) * (1 + 2 ^ 16)) s (2 ^ 32) f' r in
    s' ∙ rw (mul_assoc, mul_assoc)

each_top : (m : ℕ) → each (suc m) 1 ≡ 256 ^ m + each m 1
each_top zero = refl
each_top (suc m) = rw pow-suc (omega (arith, each_top m))

spread : (C v R P : ℕ) → R * 256 + 1 ≡ P + R → (C * 256 + v) * (R * 256 + 1) ≡ (C * P + (C + v) * R) * 256 + v
spread C v R P t =
    let a : C * 256 * (R * 256 + 1) ≡ C * P * 256 + C * R * 256 =
    rw (t, mul-add) (omega (arith, mul_right_comm C 256 P, mul_right_comm C 256 R)) in
    omega (arith, add-mul (C * 256) v (R * 256 + 1), mul-add v (R * 256) 1, mul_assoc v R 256, add-mul C v R)

pub running_is : (m a x : ℕ) → a + 8 * m < 256 → (byte_ones m x + a) * each m 1 % 256 ^ m ≡ running_ones m a x
unfolding byte_ones running_ones
running_is zero a x h = mod-one ((0 + a) * 0)
running_is (suc m) a x h =
    let P : ℕ = 256 ^ m in
    let R : ℕ = each m 1 in
    let C : ℕ = byte_ones m (x / 256) in
    let v : ℕ = a + ones (x % 256) in
    let N : ℕ = C * P + (C + v) * R in
    let o : ones (x % 256) ≤ 8 = ones-le 8 (x % 256) (mod-lt x (pow_pos 8)) in
    let n : C * 256 + ones (x % 256) + a ≡ C * 256 + v = omega arith in
    let d : (N * 256 + v) / 256 ≡ N = omega arith in
    let r : (N * 256 + v) % 256 ≡ v = omega arith in
    rw (
      n,
      spread C v R P (each_top m),
      pow-suc,
      mod-mul (N * 256 + v) (one-le-pow m 256 (zero-lt-suc 255)) (zero-lt-suc 255),
      d,
      r,
      mul-add-mod_self_right C P ((C + v) * R),
      running_is m v (x / 256) (omega arith),
    )

-- byte i of the counts added up
running_at : (m a x i : ℕ) → i < m → a + 8 * m < 256
    → running_ones m a x / 2 ^ (8 * i) % 256 ≡ a + ones (x % 2 ^ (8 * i + 8))
unfolding running_ones
running_at zero a x i h l = absurd (omega arith)
running_at (suc m) a x zero h l = omega (arith, ones-le 8 (x % 256) (mod-lt x (pow_pos 8)))
running_at (suc m) a x (suc i) h l =
    let v : ℕ = a + ones (x % 256) in
    let o : ones (x % 256) ≤ 8 = ones-le 8 (x % 256) (mod-lt x (pow_pos 8)) in
    let R : ℕ = running_ones m v (x / 256) in
    let e : 8 * suc i ≡ 8 + 8 * i = omega arith in
    let f : 8 + 8 * i + 8 ≡ 8 + (8 * i + 8) = omega arith in
    let q : (R * 256 + v) / 256 ≡ R = omega arith in
    rw (e, f, ← shr-shr (R * 256 + v) 8 (8 * i), q, ones_parts x 8 (8 * i + 8))
    (running_at m v (x / 256) i (omega arith) (omega arith)
    ∙ add_assoc a (ones (x % 256)) (ones (x / 256 % 2 ^ (8 * i + 8))))

-- the last of them counts all
pub running_total : (x s : ℕ) → s ≡ running_ones 8 0 x → x < 2 ^ 64 → highest_byte s ≡ ones x
running_total x s e h =
    let l : running_ones 8 0 x < 2 ^ 64 =
    subst (λ (n : ℕ). n < 2 ^ 64) (running_is 8 0 x (lit< tt)) (mod-lt ((byte_ones 8 x + 0) * each 8 1) (pow_pos 64)) in
    let a : s / 2 ^ 56 % 256 ≡ 0 + ones (x % 2 ^ 64) = rw e (running_at 8 0 x 7 (lit< tt) (lit< tt)) in
    omega (arith, rw (mod-eq_of_lt h) at a)

-- a number, what it leaves of all ones, and both by bytes
both_bytes : (P x y z : ℕ) → x + y ≡ z → z + 1 ≡ P * 256
    → (x % 256 + y % 256 ≡ 255) × (x / 256 + y / 256 ≡ z / 256) × (z % 256 ≡ 255) × (z / 256 + 1 ≡ P)
both_bytes P x y z s e = (omega arith, omega arith, omega arith, omega arith)

byte_both : (k l : ℕ) → k + l ≡ 255 → ones k + ones l ≡ 8
byte_both k l e =
    let small : l < 256 = omega arith in
    let other : 255 - l < 256 = omega arith in
    let k' : 255 - l ≡ k = omega arith in
    rw k' at (rw (mod-eq_of_lt other, mod-eq_of_lt small) at (complement_ones 8 l 8 small (omega arith)))

-- the ones and the zeros of each byte are eight together
running_both : (m a b x y z : ℕ) → x + y ≡ z → z + 1 ≡ 256 ^ m
    → running_ones m a x + running_ones m b y ≡ running_ones m (a + b) z
unfolding running_ones ones
running_both zero a b x y z s e = refl
running_both (suc m) a b x y z s e =
    let p = both_bytes (256 ^ m) x y z s (e ∙ pow-suc 256 m) in
    let o : ones (x % 256) + ones (y % 256) ≡ 8 = byte_both (x % 256) (y % 256) p.0 in
    let n : a + ones (x % 256) + (b + ones (y % 256)) ≡ a + b + 8 = omega arith in
    let i = running_both m (a + ones (x % 256)) (b + ones (y % 256)) (x / 256) (y / 256) (z / 256) p.1 p.3 in
    rw p.2 (omega (arith, rw n at i, o))

all_counts : running_ones 8 0 (2 ^ 64 - 1) ≡ 4627501566018457608
unfolding running_ones ones
all_counts = refl

-- the counts of a word's zeros, by those of its ones
pub zero_counts : (x s : ℕ) → s ≡ running_ones 8 0 x → x < 2 ^ 64
    → s + running_ones 8 0 (2 ^ 64 - 1 - x) ≡ 4627501566018457608
zero_counts x s e h =
    ap (λ (n : ℕ). n + running_ones 8 0 (2 ^ 64 - 1 - x)) e
    ∙ running_both 8 0 0 x (2 ^ 64 - 1 - x) (2 ^ 64 - 1) (omega arith) refl ∙ all_counts

-- a byte below the a low bits
byte_kept : (n a b k : ℕ) → a + 8 + k ≡ b → n % 2 ^ b / 2 ^ k % 2 ^ 8 ≡ n / 2 ^ k % 2 ^ 8
byte_kept n a b k e = subst (λ (i : ℕ). n % 2 ^ i / 2 ^ k % 2 ^ 8 ≡ n / 2 ^ k % 2 ^ 8) e (rw (field, mod-mod-pow))

shifted_at : (x i : ℕ) → i < 8 → running_ones 8 0 x % 2 ^ 56 * 2 ^ 8 / 2 ^ (8 * i) % 2 ^ 8 ≡ ones (x % 2 ^ (8 * i))
unfolding ones
shifted_at x zero h = rw (div-one, mul-mod_left, mod-one)
shifted_at x (suc i) h =
    let S : ℕ = running_ones 8 0 x in
    let e : 8 * suc i ≡ 8 + 8 * i = omega arith in
    let f : 8 * i + 8 ≡ 8 + 8 * i = omega arith in
    rw (e, ← shr-shr (S % 2 ^ 56 * 2 ^ 8) 8 (8 * i), shl-shr (S % 2 ^ 56) 8)
    (byte_kept S (48 - 8 * i) 56 (8 * i) (omega arith) ∙ running_at 8 0 x i (omega arith) (lit< tt) ∙ rw (zero-add, f))

-- `((s << 8) >> (8 * i)) & 255`: the ones below byte i
pub count_before : (x i : ℕ) → i < 8
    → bit_and ((running_ones 8 0 x * 2 ^ 8) % 2 ^ 64 / 2 ^ (8 * i)) 255 ≡ ones (x % 2 ^ (8 * i))
count_before x i h =
    let S : ℕ = running_ones 8 0 x in
    and_mask ((S * 2 ^ 8) % 2 ^ 64 / 2 ^ (8 * i)) 8 ∙ ap (λ (y : ℕ). y / 2 ^ (8 * i) % 2 ^ 8) (shl_keeps S 56 8)
    ∙ shifted_at x i h
