-- Runs of bits in words of 64 [01 What the card holds].
--
--   bit x j          bit j of x, which weighs 2 ^ j
--   run_word s p k    word k of the run that starts at byte p of s
--   run_bit s p i     bit i of that run: bit i mod 64 of word i div 64
--   field s p o w    the w bits of that run from bit o on, lowest first, as a number
--   words_for b       the words that b bits fill
--   words m v        the m words of the number v, the lowest first, as bytes
use Rattle.std.specs.Prelude.{List, [], ◌++◌, ℕ, zero, suc, ◌+◌, ◌*◌, ◌/◌, ◌%◌, ◌^◌}
use Rattle.rules.specs.Bytes.{be, be_at}

unfoldable pub bit : ℕ → ℕ → ℕ
bit x j = x / 2 ^ j % 2

unfoldable pub run_word : List ℕ → ℕ → ℕ → ℕ
run_word s p k = be_at 8 s (p + 8 * k)

unfoldable pub run_bit : List ℕ → ℕ → ℕ → ℕ
run_bit s p i = bit (run_word s p (i / 64)) (i % 64)

unfoldable pub field : List ℕ → ℕ → ℕ → ℕ → ℕ
field s p o zero = 0
field s p o (suc w) = field s p o w + run_bit s p (o + w) * 2 ^ w

unfoldable pub words_for : ℕ → ℕ
words_for b = (b + 63) / 64

unfoldable pub words : ℕ → ℕ → List ℕ
words zero v = []
words (suc m) v = be 8 v ++ words m (v / 2 ^ 64)
