-- Places of bits in a word.
--
--   place_of_one k x j   the place of the 1 number j, counted from 0, among the k low bits of x; k where there is none
--   place_of_zero k x j  the place of the 0 number j among the k bits of an x below 2 ^ k: that 1 of its complement
--   next_one k x i      the first place at or after i, which is at most k, of a 1 among the k low bits of x;
--                      k where there is none
use Rattle.std.specs.Prelude.{ℕ, zero, suc, ◌+◌, ◌-◌, ◌/◌, ◌%◌, ◌^◌}

unfoldable pub place_of_one : ℕ → ℕ → ℕ → ℕ
place_of_one zero x j = 0
place_of_one (suc k) x j =
    elim (x % 2) [
      | zero ↦ suc (place_of_one k (x / 2) j)
      | suc _ ↦ elim j [ zero ↦ 0 | suc i ↦ suc (place_of_one k (x / 2) i) ]
    ]

unfoldable pub place_of_zero : ℕ → ℕ → ℕ → ℕ
place_of_zero k x j = place_of_one k (2 ^ k - 1 - x) j

unfoldable pub next_one : ℕ → ℕ → ℕ → ℕ
next_one k x i = i + place_of_one (k - i) (x / 2 ^ i) 0
