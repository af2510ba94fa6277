-- Counts of ones byte by byte, each count a byte of one number.
--
--   each m b           b in each of m bytes
--   byte_ones m x       byte i holds how many ones byte i of x has, for the m low bytes of x
--   running_ones m a x  byte i holds a and how many ones bytes 0 to i of x have, for the m low bytes of x
--   highest_byte s      the highest byte of a word s; how many ones the word has whose eight running counts are s
--   marked m s j       the highest bit of each of the m low bytes of s that is above j; j and these bytes below 128
use Rattle.std.specs.Prelude.{ℕ, zero, suc, ◌+◌, ◌-◌, ◌*◌, ◌/◌, ◌%◌, ◌^◌}
use Rattle.std.specs.Int.Bits.{bit_and, bit_or}
use Rattle.std.specs.Int.Count.{ones}

abbrev pub each : ℕ → ℕ → ℕ
each zero b = 0
each (suc m) b = each m b * 256 + b

unfoldable pub byte_ones : ℕ → ℕ → ℕ
byte_ones zero x = 0
byte_ones (suc m) x = byte_ones m (x / 256) * 256 + ones (x % 256)

unfoldable pub running_ones : ℕ → ℕ → ℕ → ℕ
running_ones zero a x = 0
running_ones (suc m) a x = running_ones m (a + ones (x % 256)) (x / 256) * 256 + (a + ones (x % 256))

abbrev pub highest_byte : ℕ → ℕ
highest_byte s = s / 2 ^ 56

-- `((s | 0x80..) - (j + 1) * 0x01..) & 0x80..`
abbrev pub marked : ℕ → ℕ → ℕ → ℕ
marked m s j = bit_and (bit_or s (each m 128) - (j + 1) * each m 1) (each m 128)
