-- Laws of elements laid into a block in place in parts, one behind the other: words that get ones twice,
-- the numbers of the two runs and of a bitmap, what the parts leave in the block, and the lists of a word that are laid
-- so.
use mathlib.Core.Bool.{true, ◌&&◌}
use mathlib.Core.Path.{◌≡◌, refl, sym, ap, ap₂, ◌∙◌}
use mathlib.Core.List.{List, [], ◌∷◌, ◌++◌, append_assoc, append-nil}
use Prim.Native.Nat.{ℕ, zero, suc, ◌+◌, ◌-◌, ◌*◌, ◌/◌, ◌%◌, ◌^◌, ◌≤◌, ◌<◌, max}
use native.Mathlib.Nat.{add_comm, add-zero, zero-add, add-mul, one-mul, zero-mul, mul_assoc, suc-mul, mod-lt}
use native.Mathlib.Omega.{arith}
use borrow.Author.Tests.{le-leb}
use lib.Arith.{bin_ind, digits_lt}
use lib.Bits.{bit_or, or_step, or_zero_r, or_shifted_r, or_mod, or_shr}
use lib.Dec.{leb, ltb}
use lib.ListN.{length, get_or, take, drop, length-drop, take-append-drop}
use lib.Pow.{pow-add, pow_pos, split}
use lib.Seq.{length-take-le, take_all, take-length, take-add, take_at, drop_at}
use lib.Seq.{take-append-add, drop-append-add}
use Rattle.rules.specs.Bytes.{Bytes, be, be_at}
use Rattle.rules.specs.Runs.{words_for}
use Rattle.rules.specs.List.{rising, width, zeros, lower, upper, lower_at, upper_at, size, map_of}
use Rattle.rules.specs.Term.{total, sums, next, raised, placed, positive, in_order_by_page}
use Rattle.rules.specs.InPlace.{from, with_ones, added}
use Rattle.laws.proofs.ByteLaws.{length_be, read_be, be_read, bytes_be, bytes_drop}
use Rattle.laws.proofs.BitLaws.{bits_none}
use Rattle.listlaws.specs.Sound.{climbs, least}
use Rattle.listlaws.proofs.RisingLaws.{and_parts, rising_parts, rising_append, rising_climbs}
use Rattle.listlaws.proofs.UpperLaws.{upper_below, upper_ones}
use Rattle.maplaws.proofs.NumberLaws.{map_nil, map_append, map_below, map_lt}
use Rattle.termlaws.proofs.OrderLaws.{order_rising}
use Rattle.termlaws.proofs.SumLaws.{sums_order, next_sums}
use Rattle.termlaws.proofs.PlaceLaws.{placed_order}
use Rattle.addlaws.proofs.SetLaws.{length_ones, ones_zero, ones_front}

-- ---- ones set in words

or_assoc : (a b c : ℕ) → bit_or (bit_or a b) c ≡ bit_or a (bit_or b c)
or_assoc a =
    bin_ind (λ (n : ℕ). (b c : ℕ) → bit_or (bit_or n b) c ≡ bit_or n (bit_or b c)) (λ b c. refl)
    (λ n ih b c.
    let m : max (max (n % 2) (b % 2)) (c % 2) ≡ max (n % 2) (max (b % 2) (c % 2)) = omega arith in
    or_step (bit_or n b) c
    ∙ ap₂ (λ (x y : ℕ). bit_or x (c / 2) * 2 + max y (c % 2)) (half n b) (odd n b)
    ∙ ap₂ (λ (x y : ℕ). x * 2 + y) (ih (b / 2) (c / 2)) m
    ∙ sym (or_step n (bit_or b c) ∙ ap₂ (λ (x y : ℕ). bit_or (n / 2) x * 2 + max (n % 2) y) (half b c) (odd b c))) a
  where
    half : (x y : ℕ) → bit_or x y / 2 ≡ bit_or (x / 2) (y / 2)
    half x y = omega (arith, or_step x y)

    odd : (x y : ℕ) → bit_or x y % 2 ≡ max (x % 2) (y % 2)
    odd x y = omega (arith, or_step x y)

-- what does not fit is dropped
be_mod : (k v : ℕ) → be k (v % 256 ^ k) ≡ be k v
be_mod k v =
    let l : length (be k v) ≡ k = length_be k v in
    let r : be_at k (be k v) 0 ≡ v % 256 ^ k = rw (append-nil (be k v)) at (read_be k v []) in
    let t : take k (be k v) ≡ be k v = rw l at (take-length (be k v)) in
    ap (be k) (sym r) ∙ be_read k (be k v) (bytes_be k v) (omega arith) ∙ t

pub or_word : (u v : ℕ) → be 8 (bit_or (u % 2 ^ 64) (v % 2 ^ 64)) ≡ be 8 (bit_or u v)
or_word u v = ap (be 8) (sym (or_mod u v 64)) ∙ be_mod 8 (bit_or u v)

-- a word a that gets the ones of v and then those of u
or_twice : (a v u : ℕ) → be 8 (bit_or (bit_or a (v % 2 ^ 64) % 2 ^ 64) (u % 2 ^ 64)) ≡ be 8 (bit_or a (bit_or v u % 2 ^ 64))
or_twice a v u =
    let b : ℕ = bit_or a (v % 2 ^ 64) in
    let e : u % 2 ^ 64 ≡ u % 2 ^ 64 % 2 ^ 64 = omega arith in
    ap (λ (x : ℕ). be 8 (bit_or (b % 2 ^ 64) x)) e ∙ or_word b (u % 2 ^ 64)
    ∙ ap (be 8) (or_assoc a (v % 2 ^ 64) (u % 2 ^ 64) ∙ ap (bit_or a) (sym (or_mod v u 64)))

ones_twice : (m v u : ℕ) (s : List ℕ) → with_ones m u (with_ones m v s) ≡ with_ones m (bit_or v u) s
unfolding with_ones
ones_twice zero v u s = refl
ones_twice (suc m) v u s =
    let a : ℕ = be_at 8 s 0 in
    let h : List ℕ = be 8 (bit_or a (v % 2 ^ 64)) in
    let t : List ℕ = with_ones m (v / 2 ^ 64) (drop 8 s) in
    ap₂ (λ (x : ℕ) (l : List ℕ). be 8 (bit_or x (u % 2 ^ 64)) ++ with_ones m (u / 2 ^ 64) l)
    (read_be 8 (bit_or a (v % 2 ^ 64)) t) (drop_at h t 8 (length_be 8 (bit_or a (v % 2 ^ 64))))
    ∙ ap₂ (λ (x y : List ℕ). x ++ y) (or_twice a v u) (ones_twice m (v / 2 ^ 64) (u / 2 ^ 64) (drop 8 s)
    ∙ ap (λ (x : ℕ). with_ones m x (drop 8 s)) (sym (or_shr v u 64)))

-- ---- bytes changed from a place on, where the bytes up to that place stand apart

module _ (f : List ℕ → List ℕ) where
  pub from_here : (p : ℕ) (a s : List ℕ) → length a ≡ p → from p f (a ++ s) ≡ a ++ f s
  unfolding from
  from_here p a s e = rw (take_at a s p e, drop_at a s p e)

  pub from_past : (p q : ℕ) (a s : List ℕ) → length a + q ≡ p → from p f (a ++ s) ≡ a ++ from q f s
  unfolding from
  from_past p q a s e =
      ap (λ (k : ℕ). take k (a ++ s) ++ f (drop k (a ++ s))) (sym e)
      ∙ ap₂ (λ (x y : List ℕ). x ++ f y) (take-append-add a s q) (drop-append-add a s q)
      ∙ append_assoc a (take q s) (f (drop q s))

-- and ones are set in the words before it
pub from_apart : (f : List ℕ → List ℕ) (l r m v : ℕ) (a b c : List ℕ) → length a ≡ l → length b ≡ 8 * m → l + 8 * m ≡ r
    → from l (with_ones m v) (from r f (a ++ (b ++ c))) ≡ a ++ (with_ones m v b ++ f c)
from_apart f l r m v a b c e n q =
    ap (from l (with_ones m v)) (from_past f r (8 * m) a (b ++ c) (omega arith)
    ∙ ap (λ (t : List ℕ). a ++ t) (from_here f (8 * m) b c n))
    ∙ from_here (with_ones m v) l a (b ++ f c) e
    ∙ ap (λ (t : List ℕ). a ++ t) (ones_front m v b (f c) (omega (arith, n)))

-- ---- the lower run's number

or_above : (u v d : ℕ) → u < 2 ^ d → v % 2 ^ d ≡ 0 → bit_or u v ≡ u + v
or_above u v d h z =
    let e : v / 2 ^ d * 2 ^ d ≡ v = omega (arith, split v d) in
    ap (bit_or u) (sym e) ∙ or_shifted_r (v / 2 ^ d) d u h ∙ omega (arith, e)

module _ (w : ℕ) where
  -- elements i places further on
  lower_shift : (i j : ℕ) (xs : List ℕ) → lower w (i + j) xs ≡ lower w j xs * 2 ^ (i * w)
  unfolding lower
  lower_shift i j [] = sym (zero-mul (2 ^ (i * w)))
  lower_shift i j (x ∷ xs) =
      let e : i + j + 1 ≡ i + (j + 1) = omega arith in
      rw (
        e,
        lower_shift i (j + 1) xs,
        add-mul i j w,
        add_comm (i * w) (j * w),
        pow-add 2 (j * w) (i * w),
        ← mul_assoc (x % 2 ^ w) (2 ^ (j * w)) (2 ^ (i * w)),
      ) (sym (add-mul (x % 2 ^ w * 2 ^ (j * w)) (lower w (j + 1) xs) (2 ^ (i * w))))

  lower_append : (i : ℕ) (xs ys : List ℕ) → lower w i (xs ++ ys) ≡ lower w i xs + lower w (i + length xs) ys
  unfolding lower
  lower_append i [] ys =
      let e : i + length {A = ℕ} [] ≡ i = omega arith in
      rw e (omega arith)
  lower_append i (x ∷ xs) ys =
      let e : i + 1 + length xs ≡ i + suc (length xs) = omega arith in
      rw (lower_append (i + 1) xs ys, e) (omega arith)

  lower_lt : (xs : List ℕ) → lower w 0 xs < 2 ^ (length xs * w)
  unfolding lower
  lower_lt [] = pow_pos (0 * w)
  lower_lt (x ∷ xs) =
      let a : x % 2 ^ w * 2 ^ (0 * w) ≡ x % 2 ^ w = rw zero-mul (omega arith) in
      let b : lower w 1 xs ≡ lower w 0 xs * 2 ^ w = rw (one-mul w) at (lower_shift 1 0 xs) in
      let c : 2 ^ (suc (length xs) * w) ≡ 2 ^ (length xs * w) * 2 ^ w =
      ap (λ (k : ℕ). 2 ^ k) (suc-mul (length xs) w) ∙ pow-add 2 (length xs * w) w in
      rw (c, a, b, add_comm (x % 2 ^ w) (lower w 0 xs * 2 ^ w))
      (digits_lt {q = lower w 0 xs} {m = 2 ^ (length xs * w)} {r = x % 2 ^ w} {c = 2 ^ w} (lower_lt xs)
      (mod-lt x (pow_pos w)))

  pub lower_or : (i : ℕ) (xs ys : List ℕ)
      → bit_or (lower w i xs) (lower w (i + length xs) ys) ≡ lower w i (xs ++ ys)
  lower_or i xs ys =
      let k : ℕ = length xs in
      let a : ℕ = lower w 0 xs in
      let b : ℕ = lower w 0 ys in
      let p : lower w i xs ≡ a * 2 ^ (i * w) = rw (add-zero i) at (lower_shift i 0 xs) in
      let q : lower w (i + k) ys ≡ b * 2 ^ ((i + k) * w) = rw (add-zero (i + k)) at (lower_shift (i + k) 0 ys) in
      let e : 2 ^ ((i + k) * w) ≡ 2 ^ (k * w) * 2 ^ (i * w) =
      ap (λ (j : ℕ). 2 ^ j) (add-mul i k w ∙ add_comm (i * w) (k * w)) ∙ pow-add 2 (k * w) (i * w) in
      let h : a * 2 ^ (i * w) < 2 ^ (k * w) * 2 ^ (i * w) =
      rw (add-zero (a * 2 ^ (i * w))) at (digits_lt {q = a} {m = 2 ^ (k * w)} {r = 0} {c = 2 ^ (i * w)} (lower_lt xs)
      (pow_pos (i * w))) in
      let l : lower w i xs < 2 ^ ((i + k) * w) = rw (p, e) h in
      ap (bit_or (lower w i xs)) q ∙ or_shifted_r b ((i + k) * w) (lower w i xs) l
      ∙ add_comm (b * 2 ^ ((i + k) * w)) (lower w i xs)
      ∙ sym (lower_append i xs ys ∙ ap (λ (x : ℕ). lower w i xs + x) q)

-- ---- the upper run's number

-- elements that rise up to y, and those from y on
rises_apart : (U y : ℕ) (xs ys : List ℕ) → rising 0 U (xs ++ (y ∷ ys)) ≡ true
    → (rising 0 y xs ≡ true) × (rising (least 0 xs) U (y ∷ ys) ≡ true)
rises_apart U y xs ys r =
    let p = and_parts (rising 0 U xs) (rising (least 0 xs) U (y ∷ ys)) (sym (rising_append 0 U xs (y ∷ ys)) ∙ r) in
    let c = and_parts (climbs 0 xs) (leb (least 0 xs) U) (sym (rising_climbs 0 U xs (omega arith)) ∙ p.0) in (
      rising_climbs 0 y xs (omega arith)
          ∙ rw c.0 (le-leb (least 0 xs) y (rising_parts (least 0 xs) U y ys p.1).0),
      p.1,
    )

module _ (w : ℕ) where
  upper_append : (i : ℕ) (xs ys : List ℕ) → upper w i (xs ++ ys) ≡ upper w i xs + upper w (i + length xs) ys
  unfolding upper
  upper_append i [] ys =
      let e : i + length {A = ℕ} [] ≡ i = omega arith in
      rw e (omega arith)
  upper_append i (x ∷ xs) ys =
      let e : i + 1 + length xs ≡ i + suc (length xs) = omega arith in
      rw (upper_append (i + 1) xs ys, e) (omega arith)

  -- elements below y have their ones below that of y
  upper_lt : (y i : ℕ) (xs : List ℕ) → rising 0 y xs ≡ true → upper w i xs < 2 ^ (y / 2 ^ w + (i + length xs))
  unfolding zeros
  upper_lt y i xs r = (upper_ones w y 0 i xs r (y / 2 ^ w + (i + length xs)) (omega arith)).0

  upper_none : (i : ℕ) → upper w i [] ≡ 0
  unfolding upper
  upper_none i = refl

  pub upper_or : (U i : ℕ) (xs ys : List ℕ) → rising 0 U (xs ++ ys) ≡ true
      → bit_or (upper w i xs) (upper w (i + length xs) ys) ≡ upper w i (xs ++ ys)
  upper_or U i xs ys r = go ys r ∙ sym (upper_append i xs ys)
    where
      go : (ys : List ℕ) → rising 0 U (xs ++ ys) ≡ true
          → bit_or (upper w i xs) (upper w (i + length xs) ys) ≡ upper w i xs + upper w (i + length xs) ys
      go [] r =
          let z = upper_none (i + length xs) in
          ap (bit_or (upper w i xs)) z ∙ or_zero_r (upper w i xs) ∙ omega (arith, z)
      go (y ∷ ys) r =
          let k : ℕ = i + length xs in
          let p = rises_apart U y xs ys r in
          or_above (upper w i xs) (upper w k (y ∷ ys)) (y / 2 ^ w + k) (upper_lt y i xs p.0)
          (bits_none (upper w k (y ∷ ys)) (y / 2 ^ w + k) (upper_below w U (least 0 xs) y ys k p.1))

-- ---- the bitmap's number

pub map_or : (U : ℕ) (xs ys : List ℕ) → rising 0 U (xs ++ ys) ≡ true → bit_or (map_of xs) (map_of ys) ≡ map_of (xs ++ ys)
map_or U xs [] r = rw (map_nil, append-nil) (or_zero_r (map_of xs))
map_or U xs (y ∷ ys) r =
    let p = rises_apart U y xs ys r in
    or_above (map_of xs) (map_of (y ∷ ys)) y (map_lt 0 y xs p.0)
    (bits_none (map_of (y ∷ ys)) y (map_below (least 0 xs) U y ys p.1))
    ∙ sym (map_append xs (y ∷ ys))

-- ---- elements laid

module _ (U m : ℕ) where
  abbrev n : ℕ
  n = suc m

  abbrev w : ℕ
  w = width U n

  -- the words of the two runs
  abbrev lows : ℕ
  lows = words_for (n * w)

  abbrev ups : ℕ
  ups = words_for (n + zeros U w)

  -- the block as what is before its runs, its lower run, and what starts at its upper run
  record Cut (s : List ℕ) : Type 0 where
    pub a : List ℕ
    pub b : List ℕ
    pub c : List ℕ
    pub whole : s ≡ a ++ (b ++ c)
    pub front : length a ≡ lower_at U w
    pub run : length b ≡ 8 * lows

  cut : (s : List ℕ) → size U n ≤ length s → Cut s
  unfolding size upper_at
  cut s h =
      let l : ℕ = lower_at U w in
      let t : List ℕ = drop l s in
      record {
        a = take l s;
        b = take (8 * lows) t;
        c = drop (8 * lows) t;
        whole = sym (ap (λ (x : List ℕ). take l s ++ x) (take-append-drop (8 * lows) t) ∙ take-append-drop l s);
        front = length-take-le l s (omega arith);
        run = length-take-le (8 * lows) t (rw length-drop (omega arith));
      }

  added_apart : (i : ℕ) (xs a b c : List ℕ) → length a ≡ lower_at U w → length b ≡ 8 * lows
      → added U n i xs (a ++ (b ++ c)) ≡ a ++ (with_ones lows (lower w i xs) b ++ with_ones ups (upper w i xs) c)
  unfolding added upper_at
  added_apart i xs a b c e f =
      from_apart (with_ones ups (upper w i xs)) (lower_at U w) (lower_at U w + 8 * lows) lows (lower w i xs) a b c e f refl

  twice_some : (i : ℕ) (xs ys s : List ℕ) → rising 0 U (xs ++ ys) ≡ true → size U n ≤ length s
      → added U n (i + length xs) ys (added U n i xs s) ≡ added U n i (xs ++ ys) s
  twice_some i xs ys s r h =
      let k : Cut s = cut s h in
      let j : ℕ = i + length xs in
      let b : List ℕ = with_ones lows (lower w i xs) k.b in
      let c : List ℕ = with_ones ups (upper w i xs) k.c in
      ap (added U n j ys) (ap (added U n i xs) k.whole ∙ added_apart i xs k.a k.b k.c k.front k.run)
      ∙ added_apart j ys k.a b c k.front (length_ones lows (lower w i xs) k.b (omega (arith, k.run)) ∙ k.run)
      ∙ ap₂ (λ (x y : List ℕ). k.a ++ (x ++ y))
      (ones_twice lows (lower w i xs) (lower w j ys) k.b
      ∙ ap (λ (v : ℕ). with_ones lows v k.b) (lower_or w i xs ys))
      (ones_twice ups (upper w i xs) (upper w j ys) k.c
      ∙ ap (λ (v : ℕ). with_ones ups v k.c) (upper_or w U i xs ys r))
      ∙ sym (ap (added U n i (xs ++ ys)) k.whole
      ∙ added_apart i (xs ++ ys) k.a k.b k.c k.front k.run)

-- elements xs and then ys behind them
added_twice : (U n i : ℕ) (xs ys s : List ℕ) → rising 0 U (xs ++ ys) ≡ true → size U n ≤ length s
    → added U n (i + length xs) ys (added U n i xs s) ≡ added U n i (xs ++ ys) s
unfolding added
added_twice U zero i xs ys s r h = refl
added_twice U (suc m) i xs ys s r h = twice_some U m i xs ys s r h

none_from : (p m : ℕ) (s : List ℕ) → Bytes s → p + 8 * m ≤ length s → from p (with_ones m 0) s ≡ s
unfolding from
none_from p m s b h =
    ap (λ (l : List ℕ). take p s ++ l) (ones_zero m (drop p s) (bytes_drop p s b) (rw length-drop (omega arith)))
    ∙ take-append-drop p s

-- no elements
pub added_none : (U n i : ℕ) (s : List ℕ) → Bytes s → size U n ≤ length s → added U n i [] s ≡ s
unfolding added lower upper size upper_at
added_none U zero i s b h = refl
added_none U (suc m) i s b h =
    ap (from (lower_at U (w U m)) (with_ones (lows U m) 0)) (none_from (upper_at U (suc m) (w U m)) (ups U m) s b h)
    ∙ none_from (lower_at U (w U m)) (lows U m) s b (omega arith)

-- ---- a list laid a stretch at a time

-- from a lesser number on
pub rising_lower : (lo U : ℕ) (xs : List ℕ) → rising lo U xs ≡ true → rising 0 U xs ≡ true
unfolding rising
rising_lower lo U [] r = refl
rising_lower lo U (x ∷ xs) r =
    rw (le-leb 0 x (omega arith)) (and_parts (leb lo x) (ltb x U && rising (x + 1) U xs) r).1

module _ (U : ℕ) (es : List ℕ) (r : rising 0 U es ≡ true) where
  rising_cut : (d : ℕ) → (rising 0 U (take d es) ≡ true) × (rising (least 0 (take d es)) U (drop d es) ≡ true)
  rising_cut d = and_parts (rising 0 U (take d es)) (rising (least 0 (take d es)) U (drop d es))
      (sym (rising_append 0 U (take d es) (drop d es)) ∙ rw (take-append-drop d es) r)

  rising_front : (d : ℕ) → rising 0 U (take d es) ≡ true
  rising_front d = (rising_cut d).0

  rising_back : (d : ℕ) → rising 0 U (drop d es) ≡ true
  rising_back d = rising_lower (least 0 (take d es)) U (drop d es) (rising_cut d).1

-- above the base 0
pub raised_zero : (xs : List ℕ) → raised 0 xs ≡ xs
unfolding raised
raised_zero [] = refl
raised_zero (x ∷ xs) = ap₂ (λ (y : ℕ) (l : List ℕ). y ∷ l) (zero-add x) (raised_zero xs)

-- the k elements ys from number d on
module _ (U d k : ℕ) (es ys : List ℕ) (r : rising 0 U es ≡ true) (is : ys ≡ take k (drop d es)) where
  pub stretch_rises : rising 0 U ys ≡ true
  stretch_rises = rw is (rising_front U (drop d es) (rising_back U es r d) k)

  pub stretch_added : (n i : ℕ) (s t : List ℕ) → d ≤ length es → size U n ≤ length s
      → t ≡ added U n i (take d es) s → added U n (i + d) ys t ≡ added U n i (take (d + k) es) s
  stretch_added n i s t h l e =
      let f : i + d ≡ i + length (take d es) = omega (arith, length-take-le d es h) in
      let c : take d es ++ take k (drop d es) ≡ take (d + k) es = sym (take-add d k es) in
      ap₂ (λ (xs b : List ℕ). added U n (i + d) xs b) is e
      ∙ ap (λ (j : ℕ). added U n j (take k (drop d es)) (added U n i (take d es) s)) f
      ∙ added_twice U n i (take d es) (take k (drop d es)) s (rw c (rising_front U es r (d + k))) l
      ∙ ap (λ (xs : List ℕ). added U n i xs s) c

-- ---- the sums of counts, and the elements of positions

pub sums_rise : (s U : ℕ) (cs : List ℕ) → positive cs ≡ true → s + total cs ≤ U → rising 0 U (sums s cs) ≡ true
sums_rise s U cs p h =
    rising_lower s U (sums s cs) (order_rising s U (sums s cs) (sums_order s cs p) (omega (arith, next_sums s cs p)))

pub placed_rise : (b U : ℕ) (cs ps : List ℕ) → in_order_by_page cs ps ≡ true → next b (placed b cs ps) ≤ U
    → rising 0 U (placed b cs ps) ≡ true
placed_rise b U cs ps o h =
    rising_lower b U (placed b cs ps) (order_rising b U (placed b cs ps) (placed_order b cs ps o) h)

-- of one page
pub list_one : (ps : List ℕ) → length ps ≡ 1 → ps ≡ get_or ps 0 0 ∷ []
list_one [] e = absurd (omega arith)
list_one (p ∷ []) e = refl
list_one (p ∷ (q ∷ ps)) e = absurd (omega arith)

pub total_one : (cs : List ℕ) → length cs ≡ 1 → total cs ≡ get_or cs 0 0
unfolding total
total_one [] e = absurd (omega arith)
total_one (c ∷ []) e = add-zero c
total_one (c ∷ (d ∷ cs)) e = absurd (omega arith)

pub sums_one : (s : ℕ) (cs : List ℕ) → length cs ≡ 1 → sums s cs ≡ (s + get_or cs 0 0 - 1) ∷ []
unfolding sums
sums_one s [] e = absurd (omega arith)
sums_one s (c ∷ []) e = refl
sums_one s (c ∷ (d ∷ cs)) e = absurd (omega arith)

pub placed_one : (b : ℕ) (cs ps : List ℕ) → length cs ≡ 1 → total cs ≡ length ps → placed b cs ps ≡ raised b ps
unfolding placed total
placed_one b [] ps e f = absurd (omega arith)
placed_one b (c ∷ []) ps e f =
    append-nil (raised b (take c ps)) ∙ ap (raised b) (take_all c ps (omega arith))
placed_one b (c ∷ (d ∷ cs)) ps e f = absurd (omega arith)
