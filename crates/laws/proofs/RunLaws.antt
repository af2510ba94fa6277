-- Laws of words, bits and fields of a run.
use mathlib.Core.Path.{◌≡◌, refl, sym, ap, ◌∙◌, subst}
use mathlib.Core.Logic.{◌⊎◌, inl, inr}
use mathlib.Core.List.{List}
use Prim.Native.Nat.{ℕ, zero, suc, ◌+◌, ◌-◌, ◌*◌, ◌/◌, ◌%◌, ◌^◌, ◌≤◌, ◌<◌}
use native.Mathlib.Nat.{add_comm, mul_assoc, add-zero, add-suc, add_assoc, pow-suc}
use native.Mathlib.Nat.{add-mul, mod-one, mod-eq_of_lt, mul_comm, zero-add}
use native.Mathlib.Decide.{dec_lt}
use native.Mathlib.Omega.{arith}
use lib.Dec.{lit<}
use lib.ListN.{length, get_or, take, drop}
use lib.Pow.{pow_pos, pow-add, mod-pow-add}
use Rattle.rules.specs.Bytes.{be_at}
use Rattle.rules.specs.Runs.{bit, run_word, run_bit, field, words_for}
use Rattle.rules.specs.Counts.{ones_below}
use Rattle.laws.proofs.BitLaws.{bit_cases, bit_above, bit_shr, bit_low, bit_high, bit_mod, bit_beyond}
use Rattle.laws.proofs.ByteLaws.{be_at_lt, be_at_beyond, be_at_part}

-- ---- a word

pub words_hold : (b : ℕ) → b ≤ 64 * words_for b
unfolding words_for
words_hold b = omega arith

pub word_is : (s : List ℕ) (at k p : ℕ) → p ≡ at + 8 * k → be_at 8 s p ≡ run_word s at k
unfolding run_word
word_is s at k p e = ap (be_at 8 s) e

pub run_bit_lem : (s : List ℕ) (at k j : ℕ) → j < 64 → run_bit s at (64 * k + j) ≡ bit (run_word s at k) j
unfolding run_bit
run_bit_lem s at k j h =
    let q : (64 * k + j) / 64 ≡ k = omega arith in
    let r : (64 * k + j) % 64 ≡ j = omega arith in
    rw (q, r)

pub run_cases : (s : List ℕ) (at i : ℕ) → (run_bit s at i ≡ 0) ⊎ (run_bit s at i ≡ 1)
unfolding run_bit
run_cases s at i = bit_cases (run_word s at (i / 64)) (i % 64)

word_lt : (s : List ℕ) (at : ℕ) → ((i : ℕ) → get_or s i 0 < 256) → (k : ℕ) → run_word s at k < 2 ^ 64
unfolding run_word
word_lt s at b k = be_at_lt 8 s (at + 8 * k) b

-- behind the end of the bytes
pub run_beyond : (s : List ℕ) (at i : ℕ) → length s ≤ at + 8 * (i / 64) → run_bit s at i ≡ 0
unfolding run_bit run_word
run_beyond s at i h = rw (be_at_beyond 8 s (at + 8 * (i / 64)) h) (bit_beyond 0 (i % 64) (pow_pos (i % 64)))

-- a run as a list of its own, of m bytes
pub word_part : (s : List ℕ) (m at k : ℕ) → 8 * k + 8 ≤ m → run_word (take m (drop at s)) 0 k ≡ run_word s at k
unfolding run_word
word_part s m at k h = rw zero-add (be_at_part 8 s m at (8 * k) h)

pub run_part : (s : List ℕ) (m at i : ℕ) → 8 * (i / 64) + 8 ≤ m → run_bit (take m (drop at s)) 0 i ≡ run_bit s at i
unfolding run_bit
run_part s m at i h = ap (λ (x : ℕ). bit x (i % 64)) (word_part s m at (i / 64) h)

-- ---- a field

-- a number's w low bits are the field that has those bits
pub field_is : (s : List ℕ) (at o x w : ℕ) → ((j : ℕ) → j < w → bit x j ≡ run_bit s at (o + j))
    → x % 2 ^ w ≡ field s at o w
unfolding field bit
field_is s at o x zero h = mod-one x
field_is s at o x (suc w) h =
    let one : 1 + w ≡ suc w = omega arith in
    let ih = field_is s at o x w (λ j l. h j (omega arith)) in
    let top : x / 2 ^ w % 2 ≡ run_bit s at (o + w) = h w (omega arith) in
    subst (λ (n : ℕ). x % 2 ^ n ≡ field s at o w + run_bit s at (o + w) * 2 ^ w) one
    (mod-pow-add x 1 w ∙ rw (top, ih) (add_comm (run_bit s at (o + w) * 2 ^ w) (field s at o w)))

-- two words of a run, side by side
pub two_words : (s : List ℕ) (at k lo hi i : ℕ) → lo ≡ run_word s at k → lo < 2 ^ 64 → i < 128
    → (64 ≤ i → hi ≡ run_word s at (k + 1)) → bit (hi * 2 ^ 64 + lo) i ≡ run_bit s at (64 * k + i)
unfolding run_bit
two_words s at k lo hi i e l u t = go (dec_lt i 64)
  where
    go : Dec (i < 64) → bit (hi * 2 ^ 64 + lo) i ≡ bit (run_word s at ((64 * k + i) / 64)) ((64 * k + i) % 64)
    go (yes a) =
        let q : (64 * k + i) / 64 ≡ k = omega arith in
        let r : (64 * k + i) % 64 ≡ i = omega arith in
        rw (q, r, ← e) (bit_low hi lo 64 i a)
    go (no b) =
        let g : 64 ≤ i = omega arith in
        let q : (64 * k + i) / 64 ≡ k + 1 = omega arith in
        let r : (64 * k + i) % 64 ≡ i - 64 = omega arith in
        let v : 64 + (i - 64) ≡ i = omega arith in
        rw (q, r, ← t g)
        (subst (λ (n : ℕ). bit (hi * 2 ^ 64 + lo) n ≡ bit hi (i - 64)) v (bit_high hi lo 64 (i - 64) l))

-- what `field2` gives of two words of a run
pub run_field : (s : List ℕ) (at lo hi o w : ℕ) → w ≤ 64 → lo ≡ run_word s at (o / 64) → lo < 2 ^ 64
    → (64 < o % 64 + w → hi ≡ run_word s at (o / 64 + 1)) → (hi * 2 ^ 64 + lo) / 2 ^ (o % 64) % 2 ^ w ≡ field s at o w
run_field s at lo hi o w g e l t =
    field_is s at o ((hi * 2 ^ 64 + lo) / 2 ^ (o % 64)) w (λ j u.
    let q : 64 * (o / 64) + (o % 64 + j) ≡ o + j = omega arith in
    bit_shr (hi * 2 ^ 64 + lo) (o % 64) j
    ∙ two_words s at (o / 64) lo hi (o % 64 + j) e l (omega arith) (λ v. t (omega arith)) ∙ ap (run_bit s at) q)

low_bit : {r : ℕ} → (r ≡ 0) ⊎ (r ≡ 1) → bit r 0 ≡ r
unfolding bit
low_bit (inl e) = rw e
low_bit (inr e) = rw e

module _ (s : List ℕ) (at : ℕ) where
  pub field_none : (o : ℕ) → field s at o 0 ≡ 0
  unfolding field
  field_none o = refl

  pub field_suc : (o w : ℕ) → field s at o (suc w) ≡ field s at o w + run_bit s at (o + w) * 2 ^ w
  unfolding field
  field_suc o w = refl

  pub field_lt : (o w : ℕ) → field s at o w < 2 ^ w
  unfolding field
  field_lt o zero = lit< tt
  field_lt o (suc w) = elim (run_cases s at (o + w)) [
    | inl e ↦ rw (e, pow-suc) (omega (arith, field_lt o w))
    | inr e ↦ rw (e, pow-suc) (omega (arith, field_lt o w))
  ]

  pub field_cat : (o a b : ℕ) → field s at o (a + b) ≡ field s at o a + field s at (o + a) b * 2 ^ a
  unfolding field
  field_cat o a zero = rw add-zero (omega arith)
  field_cat o a (suc b) =
      let p : run_bit s at (o + (a + b)) * 2 ^ (a + b) ≡ run_bit s at (o + a + b) * 2 ^ b * 2 ^ a =
      rw (← add_assoc o a b, pow-add, mul_assoc, mul_comm (2 ^ a) (2 ^ b)) in
      rw (add-suc, add-mul, ← p) (omega (arith, field_cat o a b))

  pub field_bit : (o m i : ℕ) → i < m → bit (field s at o m) i ≡ run_bit s at (o + i)
  unfolding field
  field_bit o zero i h = absurd (omega arith)
  field_bit o (suc m) i h =
      rw (add_comm (field s at o m) (run_bit s at (o + m) * 2 ^ m)) (go (field_bit o m i) (dec_lt i m))
    where
      go : (i < m → bit (field s at o m) i ≡ run_bit s at (o + i)) → Dec (i < m)
          → bit (run_bit s at (o + m) * 2 ^ m + field s at o m) i ≡ run_bit s at (o + i)
      go ih (yes a) = bit_low (run_bit s at (o + m)) (field s at o m) m i a ∙ ih a
      go ih (no b) =
          let e : m + 0 ≡ i = omega arith in
          let t : bit (run_bit s at (o + m)) 0 ≡ run_bit s at (o + m) = low_bit (run_cases s at (o + m)) in
          let e' : m ≡ i = omega arith in
          subst (λ (j : ℕ). bit (run_bit s at (o + m) * 2 ^ m + field s at o m) j ≡ run_bit s at (o + i)) e
          (bit_high (run_bit s at (o + m)) (field s at o m) m 0 (field_lt o m) ∙ t
          ∙ ap (λ (j : ℕ). run_bit s at (o + j)) e')

  -- the run's bits are those of the number that its first m bits make, if those from m on are 0, and only then
  pub run_agrees : (m c : ℕ) → ((i : ℕ) → m ≤ i → i < c → run_bit s at i ≡ 0) → (i : ℕ) → i < c
      → run_bit s at i ≡ bit (field s at 0 m) i
  run_agrees m c z i h = go (dec_lt i m)
    where
      go : Dec (i < m) → run_bit s at i ≡ bit (field s at 0 m) i
      go (yes a) =
          let e : 0 + i ≡ i = omega arith in
          sym (field_bit 0 m i a ∙ ap (run_bit s at) e)
      go (no b) = z i (omega arith) h ∙ sym (bit_above (field s at 0 m) m i (field_lt 0 m) (omega arith))

  pub run_spare : (m c : ℕ) → ((i : ℕ) → i < c → run_bit s at i ≡ bit (field s at 0 m) i) → (i : ℕ) → m ≤ i → i < c
      → run_bit s at i ≡ 0
  run_spare m c e i l h = e i h ∙ bit_above (field s at 0 m) m i (field_lt 0 m) l

  pub ones_mono : (a d : ℕ) → ones_below s at a ≤ ones_below s at (a + d)
  unfolding ones_below
  ones_mono a zero = rw add-zero (omega arith)
  ones_mono a (suc d) = rw add-suc (omega (arith, ones_mono a d))

  pub ones_flat : (m d : ℕ) → ((i : ℕ) → m ≤ i → i < m + d → run_bit s at i ≡ 0)
      → ones_below s at (m + d) ≡ ones_below s at m
  unfolding ones_below
  ones_flat m zero z = rw add-zero
  ones_flat m (suc d) z =
      rw add-suc (omega (arith, ones_flat m d (λ i l u. z i l (omega arith)), z (m + d) (omega arith) (omega arith)))

  -- with no one among the spare bits the words hold the ones of the run's b bits
  pub ones_whole : (b : ℕ) → ((i : ℕ) → b ≤ i → i < 64 * words_for b → run_bit s at i ≡ 0)
      → ones_below s at (64 * words_for b) ≡ ones_below s at b
  ones_whole b z =
      let e : b + (64 * words_for b - b) ≡ 64 * words_for b = omega (arith, words_hold b) in
      rw e at (ones_flat b (64 * words_for b - b) (λ i l h. z i l (omega arith)))

-- ---- words and a number

module _ (s : List ℕ) (at m v : ℕ) where
  pub words_bits : ((k : ℕ) → k < m → run_word s at k ≡ v / 2 ^ (64 * k) % 2 ^ 64) → (i : ℕ) → i < 64 * m
      → run_bit s at i ≡ bit v i
  unfolding run_bit
  words_bits e i h =
      let g : 64 * (i / 64) + i % 64 ≡ i = omega arith in
      rw (e (i / 64) (omega arith), bit_mod (v / 2 ^ (64 * (i / 64))) 64 (i % 64) (omega arith), bit_shr) (ap (bit v) g)

  pub bits_words : ((i : ℕ) → get_or s i 0 < 256) → ((i : ℕ) → i < 64 * m → run_bit s at i ≡ bit v i) → (k : ℕ) → k < m
      → run_word s at k ≡ v / 2 ^ (64 * k) % 2 ^ 64
  bits_words b e k h =
      sym (mod-eq_of_lt (word_lt s at b k))
      ∙ field_is s at (64 * k) (run_word s at k) 64 (λ j l. sym (run_bit_lem s at k j l))
      ∙ sym (field_is s at (64 * k) (v / 2 ^ (64 * k)) 64
      (λ j l. bit_shr v (64 * k) j ∙ sym (e (64 * k + j) (omega arith))))
