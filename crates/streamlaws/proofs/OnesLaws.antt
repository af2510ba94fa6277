-- Laws of the words of a number: none of its bits set, ones set among them, and the number read again.
use mathlib.Core.Path.{◌≡◌, refl, sym, ap, ap₂, ◌∙◌}
use mathlib.Core.List.{List, [], ◌++◌, append_assoc}
use Prim.Native.Nat.{ℕ, zero, suc, ◌+◌, ◌*◌, ◌/◌, ◌%◌, ◌^◌, ◌<◌}
use native.Mathlib.Omega.{arith}
use lib.Bits.{bit_or, or_shr}
use lib.ListN.{drop, replicate, replicate-append-replicate}
use lib.Pow.{shr_lt}
use lib.Seq.{drop_at}
use Rattle.rules.specs.Bytes.{be, be_at}
use Rattle.rules.specs.Runs.{words}
use Rattle.rules.specs.InPlace.{with_ones, number_of}
use Rattle.laws.proofs.ByteLaws.{length_be, read_be}
use Rattle.addlaws.proofs.MoreLaws.{or_word}

-- the number 0
pub words_zero : (m : ℕ) → words m 0 ≡ replicate (8 * m) 0
unfolding words be
words_zero zero = refl
words_zero (suc m) =
    let e : 8 * suc m ≡ 8 + 8 * m = omega arith in
    rw (e, words_zero m) (replicate-append-replicate 8 (8 * m) 0)

module _ (m v : ℕ) (rest : List ℕ) where
  first_word : be_at 8 (words (suc m) v ++ rest) 0 ≡ v % 2 ^ 64
  unfolding words
  first_word = rw append_assoc (read_be 8 v (words m (v / 2 ^ 64) ++ rest))

  later_words : drop 8 (words (suc m) v ++ rest) ≡ words m (v / 2 ^ 64) ++ rest
  unfolding words
  later_words = rw append_assoc (drop_at (be 8 v) (words m (v / 2 ^ 64) ++ rest) 8 (length_be 8 v))

words_none : (u : ℕ) → words 0 u ≡ []
unfolding words
words_none u = refl

words_more : (m u : ℕ) → words (suc m) u ≡ be 8 u ++ words m (u / 2 ^ 64)
unfolding words
words_more m u = refl

-- ones set
pub ones_words : (m u v : ℕ) (rest : List ℕ) → with_ones m v (words m u ++ rest) ≡ words m (bit_or u v) ++ rest
unfolding with_ones
ones_words zero u v rest = ap (λ (l : List ℕ). l ++ rest) (words_none u ∙ sym (words_none (bit_or u v)))
ones_words (suc m) u v rest =
    ap₂ (λ (x : ℕ) (l : List ℕ). be 8 (bit_or x (v % 2 ^ 64)) ++ with_ones m (v / 2 ^ 64) l)
    (first_word m u rest) (later_words m u rest)
    ∙ ap₂ (λ (a b : List ℕ). a ++ b) (or_word u v) (ones_words m (u / 2 ^ 64) (v / 2 ^ 64) rest)
    ∙ ap (λ (x : ℕ). be 8 (bit_or u v) ++ (words m x ++ rest)) (sym (or_shr u v 64))
    ∙ sym (append_assoc (be 8 (bit_or u v)) (words m (bit_or u v / 2 ^ 64)) rest)
    ∙ ap (λ (l : List ℕ). l ++ rest) (sym (words_more m (bit_or u v)))

-- the number read again
pub number_words : (m v : ℕ) (rest : List ℕ) → v < 2 ^ (64 * m) → number_of m (words m v ++ rest) ≡ v
unfolding number_of
number_words zero v rest h = omega arith
number_words (suc m) v rest h =
    let e : 64 * suc m ≡ 64 * m + 64 = omega arith in
    let l : v / 2 ^ 64 < 2 ^ (64 * m) = shr_lt {n = v} (64 * m) 64 (rw e at h) in
    ap₂ (λ (x : ℕ) (b : List ℕ). x + number_of m b * 2 ^ 64) (first_word m v rest) (later_words m v rest)
    ∙ ap (λ (x : ℕ). v % 2 ^ 64 + x * 2 ^ 64) (number_words m (v / 2 ^ 64) rest l)
    ∙ omega arith
