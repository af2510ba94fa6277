-- Laws of ones set in a run of words: more words, more bits above those that are set, and words that get none.
use mathlib.Core.Path.{◌≡◌, refl, sym, ap, ap₂, ◌∙◌, subst}
use mathlib.Core.List.{List, ◌++◌, append_assoc}
use Prim.Native.Nat.{ℕ, zero, suc, ◌+◌, ◌-◌, ◌*◌, ◌/◌, ◌%◌, ◌^◌, ◌≤◌, ◌<◌}
use native.Mathlib.Nat.{add_comm, zero-add, zero-div, div-one, mod-eq_of_lt}
use native.Mathlib.Omega.{arith}
use lib.Bits.{bit_or, or_zero_r}
use lib.ListN.{length, take, drop, length-append, length-drop, take-append-drop}
use lib.Pow.{shr-shr}
use lib.Seq.{take-append-le, take-append-add, drop-append-le, drop-append-add, drop-drop, sets, sets-eq}
use Rattle.rules.specs.Bytes.{Bytes, be, be_at}
use Rattle.rules.specs.InPlace.{from, with_ones}
use Rattle.laws.proofs.BitLaws.{drop_low, drop_high}
use Rattle.laws.proofs.ByteLaws.{length_be, bytes_be, bytes_cat, bytes_drop, be_read, be_at_drop, be_at_front, drop_read}
use Rattle.addlaws.specs.Adding.{Set}

-- ---- words

-- the first word with ones of v set in it
abbrev first : ℕ → List ℕ → List ℕ
first v s = be 8 (bit_or (be_at 8 s 0) (v % 2 ^ 64))

pub ones_none : (v : ℕ) (s : List ℕ) → with_ones 0 v s ≡ s
unfolding with_ones
ones_none v s = refl

ones_suc : (m v : ℕ) (s : List ℕ) → with_ones (suc m) v s ≡ first v s ++ with_ones m (v / 2 ^ 64) (drop 8 s)
unfolding with_ones
ones_suc m v s = refl

first_long : (v : ℕ) (s : List ℕ) → length (first v s) ≡ 8
first_long v s = length_be 8 (bit_or (be_at 8 s 0) (v % 2 ^ 64))

pub length_ones : (m v : ℕ) (s : List ℕ) → 8 * m ≤ length s → length (with_ones m v s) ≡ length s
length_ones zero v s h = ap length (ones_none v s)
length_ones (suc m) v s h =
    let l : length (drop 8 s) ≡ length s - 8 = length-drop 8 s in
    let i = length_ones m (v / 2 ^ 64) (drop 8 s) (omega arith) in
    ap length (ones_suc m v s)
    ∙ length-append (first v s) (with_ones m (v / 2 ^ 64) (drop 8 s))
    ∙ omega (arith, first_long v s, i, l, h)

bytes_ones : (m v : ℕ) (s : List ℕ) → Bytes s → Bytes (with_ones m v s)
bytes_ones zero v s b = subst Bytes (sym (ones_none v s)) b
bytes_ones (suc m) v s b =
    subst Bytes (sym (ones_suc m v s))
    (bytes_cat (first v s) (with_ones m (v / 2 ^ 64) (drop 8 s))
    (bytes_be 8 (bit_or (be_at 8 s 0) (v % 2 ^ 64))) (bytes_ones m (v / 2 ^ 64) (drop 8 s) (bytes_drop 8 s b)))

-- no ones change nothing
pub ones_zero : (m : ℕ) (s : List ℕ) → Bytes s → 8 * m ≤ length s → with_ones m 0 s ≡ s
ones_zero zero s b h = ones_none 0 s
ones_zero (suc m) s b h =
    let l : length (drop 8 s) ≡ length s - 8 = length-drop 8 s in
    let o : bit_or (be_at 8 s 0) (0 % 2 ^ 64) ≡ be_at 8 s 0 = or_zero_r (be_at 8 s 0) in
    ones_suc m 0 s
    ∙ ap₂ (λ (x y : List ℕ). x ++ y) (ap (be 8) o ∙ be_read 8 s b (omega arith))
    (ap (λ (x : ℕ). with_ones m x (drop 8 s)) (zero-div (2 ^ 64))
    ∙ ones_zero m (drop 8 s) (bytes_drop 8 s b) (omega arith))
    ∙ take-append-drop 8 s

-- more words behind the first k
ones_more : (k m v : ℕ) (s : List ℕ) → 8 * k ≤ length s
    → with_ones (k + m) v s ≡ from (8 * k) (with_ones m (v / 2 ^ (64 * k))) (with_ones k v s)
unfolding from
ones_more zero m v s h =
    ap₂ (λ (n x : ℕ). with_ones n x s) (zero-add m) (sym (div-one v))
    ∙ ap (with_ones m (v / 2 ^ (64 * 0))) (sym (ones_none v s))
ones_more (suc k) m v s h =
    let l : length (drop 8 s) ≡ length s - 8 = length-drop 8 s in
    let t : List ℕ = with_ones k (v / 2 ^ 64) (drop 8 s) in
    let i = ones_more k m (v / 2 ^ 64) (drop 8 s) (omega arith) in
    let e : 8 * suc k ≡ length (first v s) + 8 * k = omega (arith, first_long v s) in
    let p : v / 2 ^ 64 / 2 ^ (64 * k) ≡ v / 2 ^ (64 * suc k) =
    let g : 64 + 64 * k ≡ 64 * suc k = omega arith in
    shr-shr v 64 (64 * k) ∙ ap (λ (x : ℕ). v / 2 ^ x) g in
    let n : suc k + m ≡ suc (k + m) = omega arith in
    ap (λ (n : ℕ). with_ones n v s) n
    ∙ ones_suc (k + m) v s
    ∙ ap (λ (x : List ℕ). first v s ++ x) i
    ∙ ap (λ (x : ℕ). first v s ++ (take (8 * k) t ++ with_ones m x (drop (8 * k) t))) p
    ∙ sym (append_assoc (first v s) (take (8 * k) t) (with_ones m (v / 2 ^ (64 * suc k)) (drop (8 * k) t)))
    ∙ sym (ap₂ (λ (x y : List ℕ). x ++ with_ones m (v / 2 ^ (64 * suc k)) y)
    (ap₂ (λ (n : ℕ) (x : List ℕ). take n x) e (ones_suc k v s) ∙ take-append-add (first v s) t (8 * k))
    (ap₂ (λ (n : ℕ) (x : List ℕ). drop n x) e (ones_suc k v s) ∙ drop-append-add (first v s) t (8 * k)))

-- bits above those words
ones_above : (k v q b : ℕ) (s : List ℕ) → with_ones k (v + q * 2 ^ (64 * k + b)) s ≡ with_ones k v s
ones_above zero v q b s = ones_none (v + q * 2 ^ (64 * 0 + b)) s ∙ sym (ones_none v s)
ones_above (suc k) v q b s =
    let g : 64 * suc k + b ≡ 64 * k + b + 64 = omega arith in
    let t : ℕ = v + q * 2 ^ (64 * suc k + b) in
    let m : t % 2 ^ 64 ≡ v % 2 ^ 64 =
    rw (g, add_comm v (q * 2 ^ (64 * k + b + 64))) (drop_high q v (64 * k + b) 64) in
    let d : t / 2 ^ 64 ≡ v / 2 ^ 64 + q * 2 ^ (64 * k + b) =
    rw (g, add_comm v (q * 2 ^ (64 * k + b + 64)))
    (drop_low q v (64 * k + b) 64 ∙ add_comm (q * 2 ^ (64 * k + b)) (v / 2 ^ 64)) in
    ones_suc k t s
    ∙ ap₂ (λ (x y : ℕ). be 8 (bit_or (be_at 8 s 0) x) ++ with_ones k y (drop 8 s)) m d
    ∙ ap (λ (x : List ℕ). first v s ++ x) (ones_above k (v / 2 ^ 64) q b (drop 8 s))
    ∙ sym (ones_suc k v s)

-- words at the front of a list have their ones set there
pub ones_front : (m v : ℕ) (b s : List ℕ) → 8 * m ≤ length b → with_ones m v (b ++ s) ≡ with_ones m v b ++ s
unfolding with_ones
ones_front zero v b s h = refl
ones_front (suc m) v b s h =
    ap₂ (λ (x : ℕ) (l : List ℕ). be 8 (bit_or x (v % 2 ^ 64)) ++ with_ones m (v / 2 ^ 64) l)
    (be_at_front 8 b s 0 (omega arith)) (drop-append-le 8 b s (omega arith))
    ∙ ap (λ (l : List ℕ). first v b ++ l) (ones_front m (v / 2 ^ 64) (drop 8 b) s (rw length-drop (omega arith)))
    ∙ sym (append_assoc (first v b) (with_ones m (v / 2 ^ 64) (drop 8 b)) s)

-- and words behind a place
pub from_front : (p m v : ℕ) (b s : List ℕ) → p + 8 * m ≤ length b
    → from p (with_ones m v) (b ++ s) ≡ from p (with_ones m v) b ++ s
unfolding from
from_front p m v b s h =
    ap₂ (λ (x y : List ℕ). x ++ with_ones m v y) (take-append-le p b s (omega arith))
    (drop-append-le p b s (omega arith))
    ∙ ap (λ (x : List ℕ). take p b ++ x) (ones_front m v (drop p b) s (rw length-drop (omega arith)))
    ∙ sym (append_assoc (take p b) (with_ones m v (drop p b)) s)

-- ones of one word
module _ (k bits : ℕ) (s : List ℕ) where
  one_from : bits < 2 ^ 64 → from (8 * k) (with_ones 1 bits) s
      ≡ take (8 * k) s ++ (be 8 (bit_or (be_at 8 s (8 * k)) bits) ++ drop (8 * k + 8) s)
  unfolding from
  one_from small =
      let r : be_at 8 (drop (8 * k) s) 0 ≡ be_at 8 s (8 * k) =
      let z : 8 * k + 0 ≡ 8 * k = omega arith in
      be_at_drop 8 (8 * k) s 0 ∙ ap (be_at 8 s) z in
      ap (λ (x : List ℕ). take (8 * k) s ++ x)
      (ones_suc 0 bits (drop (8 * k) s)
      ∙ ap₂ (λ (x y : List ℕ). x ++ y)
      (ap₂ (λ (x y : ℕ). be 8 (bit_or x y)) r (mod-eq_of_lt small))
      (ones_none (bits / 2 ^ 64) (drop 8 (drop (8 * k) s)) ∙ drop-drop 8 (8 * k) s))

  pub one_set : bits < 2 ^ 64 → 8 * k + 8 ≤ length s
      → sets s (8 * k) (be 8 (bit_or (be_at 8 s (8 * k)) bits)) ≡ from (8 * k) (with_ones 1 bits) s
  one_set small h =
      let b : List ℕ = be 8 (bit_or (be_at 8 s (8 * k)) bits) in
      let l : length b ≡ 8 = length_be 8 (bit_or (be_at 8 s (8 * k)) bits) in
      sets-eq b s (8 * k) (omega (arith, l, h))
      ∙ append_assoc (take (8 * k) s) b (drop (8 * k + length b) s)
      ∙ ap (λ (x : ℕ). take (8 * k) s ++ (b ++ drop (8 * k + x) s)) l
      ∙ sym (one_from small)

  pub one_same : bits < 2 ^ 64 → Bytes s → 8 * k + 8 ≤ length s → bit_or (be_at 8 s (8 * k)) bits ≡ be_at 8 s (8 * k)
      → s ≡ from (8 * k) (with_ones 1 bits) s
  one_same small b h e =
      sym (take-append-drop (8 * k) s)
      ∙ ap (λ (x : List ℕ). take (8 * k) s ++ x) (drop_read 8 (8 * k) s b h)
      ∙ ap (λ (x : ℕ). take (8 * k) s ++ (be 8 x ++ drop (8 * k + 8) s)) (sym e)
      ∙ sym (one_from small)

-- the first word takes the lowest bits alone
pub ones_low : (v lo : ℕ) → lo ≡ v % 2 ^ 64 → with_ones 1 lo ≡ with_ones 1 v
ones_low v lo e = λ i s. go s i
  where
    go : (s : List ℕ) → with_ones 1 lo s ≡ with_ones 1 v s
    go s =
        let m : lo % 2 ^ 64 ≡ v % 2 ^ 64 = omega arith in
        ones_suc 0 lo s
        ∙ ap₂ (λ (x : ℕ) (y : List ℕ). be 8 (bit_or (be_at 8 s 0) x) ++ y) m
        (ones_none (lo / 2 ^ 64) (drop 8 s) ∙ sym (ones_none (v / 2 ^ 64) (drop 8 s)))
        ∙ sym (ones_suc 0 v s)

-- what a change of nothing leaves
pub from_same : (p : ℕ) (f : List ℕ → List ℕ) (s : List ℕ) → f (drop p s) ≡ drop p s → from p f s ≡ s
unfolding from
from_same p f s q = ap (λ (x : List ℕ). take p s ++ x) q ∙ take-append-drop p s

-- ---- a run whose low words are set

pub set_none : (d : List ℕ) → Set 0 0 0 d d
set_none d = record { is = sym (ones_none 0 d); rest = refl; within = omega arith }

module _ (v k r : ℕ) (d e : List ℕ) (a : Set v k r d e) where
  pub set_long : length e ≡ length d
  set_long = ap length a.is ∙ length_ones k v d a.within

  -- more words
  pub set_more : (m : ℕ) (f : List ℕ) → 8 * (k + m) ≤ length d → f ≡ from (8 * k) (with_ones m r) e
      → Set v (k + m) (r / 2 ^ (64 * m)) d f
  set_more m f h q = record {
    is = q ∙ ap₂ (λ (x : ℕ) (y : List ℕ). from (8 * k) (with_ones m x) y) a.rest a.is
        ∙ sym (ones_more k m v d a.within);
    rest =
        let g : 64 * k + 64 * m ≡ 64 * (k + m) = omega arith in
        rw (a.rest, shr-shr, g);
    within = h;
  }

  -- more bits, above those that are set
  pub set_add : (q b : ℕ) → Set (v + q * 2 ^ (64 * k + b)) k (r + q * 2 ^ b) d e
  set_add q b = record {
    is = a.is ∙ sym (ones_above k v q b d);
    rest =
        let g : 64 * k + b ≡ b + 64 * k = omega arith in
        rw (a.rest, g, add_comm v (q * 2 ^ (b + 64 * k)), drop_low) (add_comm (v / 2 ^ (64 * k)) (q * 2 ^ b));
    within = a.within;
  }

  -- words that get no ones
  pub set_skip : (j : ℕ) → Bytes d → r ≡ 0 → 8 * (k + j) ≤ length d → Set v (k + j) 0 d e
  set_skip j b z h =
      let t : List ℕ = with_ones k v d in
      let be : Bytes t = bytes_ones k v d b in
      let l : length t ≡ length d = length_ones k v d a.within in
      let n : length (drop (8 * k) t) ≡ length t - 8 * k = length-drop (8 * k) t in
      let s : from (8 * k) (with_ones j 0) t ≡ t =
      from_same (8 * k) (with_ones j 0) t (ones_zero j (drop (8 * k) t) (bytes_drop (8 * k) t be) (omega arith)) in
      let g = set_more j e h (a.is ∙ sym s
      ∙ ap₂ (λ (x : ℕ) (y : List ℕ). from (8 * k) (with_ones j x) y) (sym z) (sym a.is)) in
      subst (λ (x : ℕ). Set v (k + j) x d e) (ap (λ (x : ℕ). x / 2 ^ (64 * j)) z ∙ zero-div (2 ^ (64 * j))) g

-- words below number k, none of which gets a one
pub set_zero : (k : ℕ) (d : List ℕ) → Bytes d → 8 * k ≤ length d → Set 0 k 0 d d
set_zero k d b h =
    subst (λ (m : ℕ). Set 0 m 0 d d) (zero-add k) (set_skip 0 0 0 d d (set_none d) k b refl (omega arith))
