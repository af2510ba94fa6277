-- Laws of big-endian numbers: read, written and read back.
use mathlib.Core.Path.{◌≡◌, refl, sym, ap, ap₂, ◌∙◌}
use mathlib.Core.List.{List, [], ◌∷◌, ◌++◌, append_assoc, append-nil}
use mathlib.Core.Logic.{◌⊎◌, inl, inr}
use Prim.Native.Nat.{ℕ, zero, suc, ◌+◌, ◌*◌, ◌/◌, ◌%◌, ◌^◌, ◌≤◌, ◌<◌}
use native.Mathlib.Nat.{mod-lt, div-one, mul_assoc, zero-lt-suc, add-zero, add-suc, add_assoc, pow-suc, mod-one}
use native.Mathlib.Nat.{mul_comm, one-le-pow, zero-add, div-div-eq-div-mul, mul-zero, mul-suc, mod-eq_of_lt}
use native.Mathlib.Decide.{dec_lt}
use native.Mathlib.Omega.{arith}
use lib.Arith.{mod-mul}
use lib.Dec.{lit<}
use lib.ListN.{length, get_or, take, drop, set, length-append, length-drop}
use lib.ListN.{take-append-drop, get_or-append, get_or-eq_default}
use lib.Seq.{sets, get_or-append-add, get_or-take, get_or-drop, length-take-le, drop-drop, ext_get_or, sets-eq, get_or-set_other}
use lib.Pow.{pow-add, shr-shr}
use Rattle.rules.specs.Bytes.{Bytes, be, be_at}
use Rattle.rules.specs.Runs.{words}

-- ---- read

pub be_at_cat : (j k : ℕ) (s : List ℕ) (at : ℕ) → be_at (j + k) s at ≡ be_at j s at * 256 ^ k + be_at k s (at + j)
unfolding be_at
be_at_cat j zero s at = rw add-zero (omega arith)
be_at_cat j (suc k) s at = rw (add-suc, pow-suc, ← mul_assoc, ← add_assoc) (omega (arith, be_at_cat j k s at))

pub be_at_lt : (k : ℕ) (s : List ℕ) (at : ℕ) → ((i : ℕ) → get_or s i 0 < 256) → be_at k s at < 256 ^ k
unfolding be_at
be_at_lt zero s at h = lit< tt
be_at_lt (suc k) s at h = rw pow-suc (omega (arith, be_at_lt k s at h, h (at + k)))

-- two lists that agree on the bytes read give one number
pub be_at_same : (m : ℕ) (d e : List ℕ) (at : ℕ) → ((i : ℕ) → at ≤ i → i < at + m → get_or d i 0 ≡ get_or e i 0)
    → be_at m d at ≡ be_at m e at
unfolding be_at
be_at_same zero d e at h = refl
be_at_same (suc m) d e at h = ap₂ (λ (x y : ℕ). x * 256 + y) (be_at_same m d e at (λ i l u. h i l (omega arith)))
    (h (at + m) (omega arith) (omega arith))

-- behind the end there are zeros
pub be_at_beyond : (k : ℕ) (s : List ℕ) (at : ℕ) → length s ≤ at → be_at k s at ≡ 0
unfolding be_at
be_at_beyond zero s at h = refl
be_at_beyond (suc k) s at h = omega (arith, be_at_beyond k s at h, get_or-eq_default s 0 {n = at + k} (omega arith))

-- m bytes from place a on, as a list of their own
pub be_at_part : (k : ℕ) (s : List ℕ) (m a o : ℕ) → o + k ≤ m → be_at k (take m (drop a s)) o ≡ be_at k s (a + o)
unfolding be_at
be_at_part zero s m a o h = refl
be_at_part (suc k) s m a o h =
    rw (
      be_at_part k s m a o (omega arith),
      get_or-take m (drop a s) (o + k) 0 (omega arith),
      get_or-drop a s (o + k) 0,
      add_assoc a o k,
    )

-- ---- written, and read

pub length_be : (k v : ℕ) → length (be k v) ≡ k
unfolding be
length_be zero v = refl
length_be (suc k) v = ap suc (length_be k v)

-- past the first list the second is read
pub be_at_past : (k n : ℕ) (a t : List ℕ) (o : ℕ) → length a ≡ n → be_at k (a ++ t) (n + o) ≡ be_at k t o
unfolding be_at
be_at_past zero n a t o e = refl
be_at_past (suc k) n a t o e =
    let p : n + o + k ≡ length a + (o + k) = omega arith in
    rw (be_at_past k n a t o e, p, get_or-append-add a t (o + k) 0)

be_at_one : (a : ℕ) (t : List ℕ) → be_at 1 (a ∷ t) 0 ≡ a
unfolding be_at
be_at_one a t = omega arith

be_at_cons : (k a : ℕ) (t : List ℕ) → be_at (suc k) (a ∷ t) 0 ≡ a * 256 ^ k + be_at k t 0
be_at_cons k a t =
    let e : 1 + k ≡ suc k = omega arith in
    let p = be_at_past k 1 (a ∷ []) t 0 refl in
    rw e at (be_at_cat 1 k (a ∷ t) 0) ∙ ap₂ (λ (x y : ℕ). x * 256 ^ k + y) (be_at_one a t) p

be_at_none : (t : List ℕ) → be_at 0 t 0 ≡ 0
unfolding be_at
be_at_none t = refl

pub read_be : (k v : ℕ) (t : List ℕ) → be_at k (be k v ++ t) 0 ≡ v % 256 ^ k
unfolding be
read_be zero v t = be_at_none t ∙ sym (mod-one v)
read_be (suc k) v t = rw (be_at_cons, read_be k v t, pow-suc, mul_comm (256 ^ k) 256)
    (sym (mod-mul v (zero-lt-suc 255) (one-le-pow k 256 (zero-lt-suc 255))))

-- j + k bytes are j bytes and the k below them
pub be_cat : (j k v : ℕ) → be (j + k) v ≡ be j (v / 256 ^ k) ++ be k v
unfolding be
be_cat zero k v = rw zero-add
be_cat (suc j) k v =
    let e : suc j + k ≡ suc (j + k) = omega arith in
    let p : v / 256 ^ k / 256 ^ j ≡ v / 256 ^ (j + k) =
    div-div-eq-div-mul v (256 ^ k) (256 ^ j) ∙ rw (pow-add 256 j k, mul_comm (256 ^ j) (256 ^ k)) in
    rw (e, p, be_cat j k v)

-- ---- stored

-- stores side by side are one store
pub sets_cat : (d : List ℕ) (at : ℕ) (a b : List ℕ) → sets (sets d at a) (at + length a) b ≡ sets d at (a ++ b)
sets_cat d at [] b = rw add-zero
sets_cat d at (x ∷ a) b =
    let e : at + length (x ∷ a) ≡ suc at + length a = omega arith in
    rw e (sets_cat (set d at x) (suc at) a b)

pub sets_then : (c d e : List ℕ) (at p : ℕ) (a b : List ℕ) → d ≡ sets c at a → p ≡ at + length a → e ≡ sets d p b
    → e ≡ sets c at (a ++ b)
sets_then c d e at p a b x n y = y ∙ rw (x, n) (sets_cat c at a b)

pub sets_be : (j k v : ℕ) (c : List ℕ) {d e : List ℕ} (at : ℕ) → d ≡ sets c at (be j (v / 256 ^ k))
    → e ≡ sets d (at + j) (be k v) → e ≡ sets c at (be (j + k) v)
sets_be j k v c at p q =
    let a : List ℕ = be j (v / 256 ^ k) in
    let n : at + j ≡ at + length a = omega (arith, length_be j (v / 256 ^ k)) in
    q ∙ rw (p, n, be_cat) (sets_cat c at a (be k v))

-- outside what is stored nothing changes
pub sets_other : (l d : List ℕ) (at i : ℕ) → (i < at) ⊎ (at + length l ≤ i) → get_or (sets d at l) i 0 ≡ get_or d i 0
sets_other [] d at i h = refl
sets_other (x ∷ l) d at i (inl h) =
    sets_other l (set d at x) (suc at) i (inl (omega arith)) ∙ get_or-set_other d at i x 0 (λ e. omega arith)
sets_other (x ∷ l) d at i (inr h) =
    sets_other l (set d at x) (suc at) i (inr (omega arith)) ∙ get_or-set_other d at i x 0 (λ e. omega arith)

pub be_at_sets : (m : ℕ) (l d : List ℕ) (at p : ℕ) → (p + m ≤ at) ⊎ (at + length l ≤ p)
    → be_at m (sets d at l) p ≡ be_at m d p
be_at_sets m l d at p (inl h) = be_at_same m (sets d at l) d p (λ i a b. sets_other l d at i (inl (omega arith)))
be_at_sets m l d at p (inr h) = be_at_same m (sets d at l) d p (λ i a b. sets_other l d at i (inr (omega arith)))

-- and a number that is stored is read again
pub read_sets : (k v : ℕ) (d : List ℕ) (at : ℕ) → at + k ≤ length d → be_at k (sets d at (be k v)) at ≡ v % 256 ^ k
read_sets k v d at h =
    let n : at + length (be k v) ≤ length d = omega (arith, length_be k v) in
    let p =
    be_at_past k at (take at d) (be k v ++ drop (at + length (be k v)) d) 0 (length-take-le at d (omega arith)) in
    rw (sets-eq (be k v) d at n, append_assoc) (rw add-zero at p ∙ read_be k v (drop (at + length (be k v)) d))

-- ---- words

pub length_words : (m v : ℕ) → length (words m v) ≡ 8 * m
unfolding words
length_words zero v = refl
length_words (suc m) v = rw (length-append, length_be 8 v) (omega (arith, length_words m (v / 2 ^ 64)))

pub read_words : (m v : ℕ) (t : List ℕ) (k : ℕ) → k < m → be_at 8 (words m v ++ t) (8 * k) ≡ v / 2 ^ (64 * k) % 2 ^ 64
unfolding words
read_words zero v t k h = absurd (omega arith)
read_words (suc m) v t zero h = rw (append_assoc, read_be 8 v, div-one)
read_words (suc m) v t (suc k) h =
    let e : 8 * suc k ≡ 8 + 8 * k = omega arith in
    let g : 64 * suc k ≡ 64 + 64 * k = omega arith in
    rw (append_assoc, e, g, ← shr-shr v 64 (64 * k))
    (be_at_past 8 8 (be 8 v) (words m (v / 2 ^ 64) ++ t) (8 * k) (length_be 8 v)
    ∙ read_words m (v / 2 ^ 64) t k (omega arith))

-- ---- bytes

pub bytes_be : (k v : ℕ) → Bytes (be k v)
unfolding be
bytes_be zero v i = lit< tt
bytes_be (suc k) v zero = mod-lt (v / 256 ^ k) (zero-lt-suc 255)
bytes_be (suc k) v (suc i) = bytes_be k v i

pub bytes_cat : (a b : List ℕ) → Bytes a → Bytes b → Bytes (a ++ b)
bytes_cat [] b p q i = q i
bytes_cat (x ∷ a) b p q zero = p 0
bytes_cat (x ∷ a) b p q (suc i) = bytes_cat a b (λ j. p (suc j)) q i

pub bytes_words : (m v : ℕ) → Bytes (words m v)
unfolding words
bytes_words zero v i = lit< tt
bytes_words (suc m) v i = bytes_cat (be 8 v) (words m (v / 2 ^ 64)) (bytes_be 8 v) (λ j. bytes_words m (v / 2 ^ 64) j) i

pub bytes_take : (n : ℕ) (s : List ℕ) → Bytes s → Bytes (take n s)
bytes_take zero s b i = lit< tt
bytes_take (suc n) [] b i = lit< tt
bytes_take (suc n) (x ∷ s) b zero = b 0
bytes_take (suc n) (x ∷ s) b (suc i) = bytes_take n s (λ j. b (suc j)) i

pub bytes_drop : (n : ℕ) (s : List ℕ) → Bytes s → Bytes (drop n s)
bytes_drop n s b i = rw get_or-drop (b (n + i))

-- ---- read in a part

pub be_at_front : (k : ℕ) (a t : List ℕ) (p : ℕ) → p + k ≤ length a → be_at k (a ++ t) p ≡ be_at k a p
be_at_front k a t p h = be_at_same k (a ++ t) a p (λ i l u. get_or-append a t 0 i (omega arith))

pub be_at_take : (k n : ℕ) (s : List ℕ) (p : ℕ) → p + k ≤ n → be_at k (take n s) p ≡ be_at k s p
be_at_take k n s p h = be_at_same k (take n s) s p (λ i l u. get_or-take n s i 0 (omega arith))

pub be_at_drop : (k n : ℕ) (s : List ℕ) (p : ℕ) → be_at k (drop n s) p ≡ be_at k s (n + p)
unfolding be_at
be_at_drop zero n s p = refl
be_at_drop (suc k) n s p = rw (be_at_drop k n s p, get_or-drop n s (p + k) 0, add_assoc n p k)

-- ---- the same readings

module _ (s t : List ℕ) where
  -- the bytes from place a up to place b are the same
  abbrev pub Alike : ℕ → ℕ → Type 0
  Alike a b = (i : ℕ) → a ≤ i → i < b → get_or s i 0 ≡ get_or t i 0

  pub alike_append : (a b c : ℕ) → Alike a b → Alike b c → Alike a c
  alike_append a b c f g i l h = elim (dec_lt i b) [ yes y ↦ f i l y | no y ↦ g i (omega arith) h ]

  pub alike_byte : (a : ℕ) → get_or s a 0 ≡ get_or t a 0 → Alike a (a + 1)
  alike_byte a e i l h =
      let g : a ≡ i = omega arith in
      rw g at e

  pub alike_same : length s ≡ length t → Alike 0 (length s) → s ≡ t
  alike_same e a = ext_get_or 0 s t e (λ i h. a i (omega arith) h)

  module _ (bs : Bytes s) (bt : Bytes t) where
    pub alike_read : (k at : ℕ) → be_at k s at ≡ be_at k t at → Alike at (at + k)
    unfolding be_at
    alike_read zero at e i l h = absurd (omega arith)
    alike_read (suc k) at e i l h =
        let x = bs (at + k) in
        let y = bt (at + k) in
        elim (dec_lt i (at + k)) [
          | yes a ↦ alike_read k at (omega arith) i l a
          | no b ↦
              let g : at + k ≡ i = omega arith in
              let r : get_or s (at + k) 0 ≡ get_or t (at + k) 0 = omega arith in
              rw g at r
        ]

    -- c numbers of k bytes
    pub alike_reads : (k at c : ℕ) → ((q : ℕ) → q < c → be_at k s (at + k * q) ≡ be_at k t (at + k * q))
        → Alike at (at + k * c)
    alike_reads k at zero e = rw (mul-zero k) (λ i l h. absurd (omega arith))
    alike_reads k at (suc c) e =
        let g : at + k * c + k ≡ at + k * suc c = rw mul-suc (omega arith) in
        alike_append at (at + k * c) (at + k * suc c) (alike_reads k at c (λ q h. e q (omega arith)))
        (rw g at (alike_read k (at + k * c) (e c (omega arith))))

-- read, and written again
pub be_read : (k : ℕ) (s : List ℕ) → Bytes s → k ≤ length s → be k (be_at k s 0) ≡ take k s
be_read k s b h =
    let v : ℕ = be_at k s 0 in
    let m : length (take k s) ≡ k = length-take-le k s h in
    let e : be_at k (be k v ++ []) 0 ≡ be_at k (take k s) 0 =
    read_be k v [] ∙ mod-eq_of_lt (be_at_lt k s 0 b) ∙ sym (be_at_take k k s 0 (omega arith)) in
    let a = alike_read (be k v) (take k s) (bytes_be k v) (bytes_take k s b) k 0 (rw (append-nil (be k v)) at e) in
    alike_same (be k v) (take k s) (length_be k v ∙ sym m) (λ i l u. a i l (omega (arith, length_be k v)))

-- the k bytes at place n are those of the number that is read there
pub drop_read : (k n : ℕ) (s : List ℕ) → Bytes s → n + k ≤ length s → drop n s ≡ be k (be_at k s n) ++ drop (n + k) s
drop_read k n s b h =
    let e : be_at k (drop n s) 0 ≡ be_at k s n = rw (add-zero n) at (be_at_drop k n s 0) in
    let l : k ≤ length (drop n s) = rw length-drop (omega arith) in
    sym (rw (← e, be_read k (drop n s) (bytes_drop n s b) l, ← drop-drop k n s) (take-append-drop k (drop n s)))
