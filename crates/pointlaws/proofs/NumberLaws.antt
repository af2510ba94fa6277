-- Laws of a run as one number: its words, the ones in and below them, and that it is the same where the bytes are.
use mathlib.Core.Path.{◌≡◌, refl, sym, ap, ◌∙◌}
use mathlib.Core.List.{List}
use Prim.Native.Nat.{ℕ, zero, suc, ◌+◌, ◌-◌, ◌*◌, ◌/◌, ◌%◌, ◌^◌, ◌≤◌, ◌<◌}
use native.Mathlib.Nat.{add_comm, div-one}
use native.Mathlib.Omega.{arith}
use lib.Count.{ones}
use lib.ListN.{drop}
use lib.Pow.{shr-shr, high, low, mod-mod-pow}
use lib.Seq.{drop-drop}
use Rattle.rules.specs.Bytes.{Bytes, be_at}
use Rattle.rules.specs.Runs.{run_word}
use Rattle.rules.specs.Counts.{ones_below}
use Rattle.rules.specs.InPlace.{number_of}
use Rattle.laws.proofs.ByteLaws.{Alike, be_at_lt, be_at_same, be_at_drop, bytes_drop}
use Rattle.laws.proofs.CountLaws.{ones_parts, next_word}
use Rattle.listlaws.specs.Sound.{ones_to}
use Rattle.listlaws.proofs.AfterLaws.{ones_none}

-- ---- words

number_word : (m k : ℕ) (s : List ℕ) → Bytes s → k < m → number_of m s / 2 ^ (64 * k) % 2 ^ 64 ≡ run_word s 0 k
unfolding number_of run_word
number_word zero k s b h = absurd (omega arith)
number_word (suc m) zero s b h =
    let rest : ℕ = number_of m (drop 8 s) in
    rw (div-one, add_comm (be_at 8 s 0) (rest * 2 ^ 64)) (low rest 64 (be_at_lt 8 s 0 b))
number_word (suc m) (suc k) s b h =
    let e : 64 * suc k ≡ 64 + 64 * k = omega arith in
    let g : 8 + (0 + 8 * k) ≡ 0 + 8 * suc k = omega arith in
    let rest : ℕ = number_of m (drop 8 s) in
    rw (e, ← shr-shr, add_comm (be_at 8 s 0) (rest * 2 ^ 64), high rest 64 (be_at_lt 8 s 0 b))
    (number_word m k (drop 8 s) (bytes_drop 8 s b) (omega arith) ∙ be_at_drop 8 8 s (0 + 8 * k) ∙ ap (be_at 8 s) g)

-- ---- ones

module _ (m k x : ℕ) (s : List ℕ) (b : Bytes s) (inside : k < m) (word : x ≡ run_word s 0 k) where
  pub number_ones : (j : ℕ) → j ≤ 64
      → ones_to (number_of m s) (64 * k + j) ≡ ones_to (number_of m s) (64 * k) + ones_to x j
  number_ones j h =
      let e : 64 - j + j ≡ 64 = omega arith in
      let w = number_word m k s b inside in
      let l : x % 2 ^ j ≡ number_of m s / 2 ^ (64 * k) % 2 ^ j =
      rw (word, ← w) (rw e at (mod-mod-pow (number_of m s / 2 ^ (64 * k)) (64 - j) j)) in
      rw l (ones_parts (number_of m s) (64 * k) j)

  pub number_next : ones_to (number_of m s) (64 * (k + 1)) ≡ ones_to (number_of m s) (64 * k) + ones x
  unfolding run_word
  number_next =
      let e : 64 * k + 64 ≡ 64 * (k + 1) = omega arith in
      let l : x % 2 ^ 64 ≡ x = omega (arith, word, be_at_lt 8 s (0 + 8 * k) b) in
      rw (e, l) at (number_ones 64 (omega arith))

-- a word of the run that starts at byte `at`, and the ones below it
word_drop : (at k : ℕ) (s : List ℕ) → run_word s at k ≡ run_word (drop at s) 0 k
unfolding run_word
word_drop at k s =
    let e : at + (0 + 8 * k) ≡ at + 8 * k = omega arith in
    sym (be_at_drop 8 at s (0 + 8 * k) ∙ ap (be_at 8 s) e)

word_lt : (at k : ℕ) (s : List ℕ) → Bytes s → run_word s at k < 2 ^ 64
unfolding run_word
word_lt at k s b = be_at_lt 8 s (at + 8 * k) b

module _ (m at : ℕ) (s : List ℕ) (b : Bytes s) where
  pub number_below : (k : ℕ) → k ≤ m → ones_below s at (64 * k) ≡ ones_to (number_of m (drop at s)) (64 * k)
  unfolding ones_below
  number_below zero h = sym (ones_none (number_of m (drop at s)))
  number_below (suc k) h =
      let e : k + 1 ≡ suc k = omega arith in
      let p = next_word s at k (run_word s at k) refl (word_lt at k s b) in
      let q = number_next m k (run_word s at k) (drop at s) (bytes_drop at s b) (omega arith) (word_drop at k s) in
      omega (arith, rw e at p, rw e at q, number_below k (omega arith))

-- ---- the same bytes

pub number_same : (m p : ℕ) (s t : List ℕ) → Alike s t p (p + 8 * m) → number_of m (drop p s) ≡ number_of m (drop p t)
unfolding number_of
number_same zero p s t a = refl
number_same (suc m) p s t a =
    let first : be_at 8 (drop p s) 0 ≡ be_at 8 (drop p t) 0 =
    rw (be_at_drop, be_at_drop) (be_at_same 8 s t (p + 0) (λ i l h. a i (omega arith) (omega arith))) in
    rw (first, drop-drop, drop-drop, number_same m (p + 8) s t (λ i l h. a i (omega arith) (omega arith)))
