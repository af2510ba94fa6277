-- Laws of the block of a bitmap, of any list: its length, its numbers and its bits;
-- and of a valid one, that reading gives the list back.
use mathlib.Core.Bool.{true}
use mathlib.Core.Path.{◌≡◌, refl, sym, ap, ◌∙◌}
use mathlib.Core.List.{List, [], ◌++◌, append-nil}
use Prim.Native.Nat.{ℕ, ◌+◌, ◌-◌, ◌*◌, ◌/◌, ◌%◌, ◌^◌, ◌≤◌, ◌<◌}
use native.Mathlib.Nat.{zero-add}
use native.Mathlib.Omega.{arith}
use lib.Dec.{lit<}
use lib.ListN.{length, get_or, length-append}
use Rattle.rules.specs.Limits.{map_version}
use Rattle.rules.specs.Bytes.{Bytes, be_at}
use Rattle.rules.specs.Runs.{bit, run_word, run_bit, words_for, words}
use Rattle.rules.specs.List.{rising, fours, headed, map_of, pages_below, map_at, map_size, map_body, map_block}
use Rattle.rules.specs.ReadList.{stated, list_u, list_n, read_map}
use Rattle.laws.proofs.ByteLaws.{be_at_past, length_words, read_words, bytes_cat, bytes_words}
use Rattle.laws.proofs.RunLaws.{words_hold, words_bits}
use Rattle.listlaws.proofs.AfterLaws.{length_fours, read_fours, bytes_fours}
use Rattle.listlaws.proofs.BlockLaws.{headed_length, headed_bytes, headed_stated, headed_version, headed_U, headed_n}
use Rattle.listlaws.proofs.BlockLaws.{past_header}
use Rattle.maplaws.proofs.PageLaws.{pages_are}

module _ (U : ℕ) (xs : List ℕ) where
  abbrev numbers : List ℕ
  numbers = fours (pages_below (map_of xs)) 1 (U / 256)

  abbrev bits : List ℕ
  bits = words (words_for U) (map_of xs)

  body_is : map_body U xs ≡ numbers ++ bits
  unfolding map_body
  body_is = refl

  map_is : map_block U xs ≡ headed map_version U (length xs) (map_body U xs)
  unfolding map_block
  map_is = refl

  pub map_size_lem : length (map_block U xs) ≡ map_size U
  unfolding map_size map_at
  map_size_lem =
      ap length map_is ∙ headed_length map_version U (length xs) (map_body U xs) ∙ rw body_is (rw (
        length-append,
        length_fours (pages_below (map_of xs)) 1 (U / 256),
        length_words (words_for U) (map_of xs),
      ) (omega arith))

  pub map_bytes : Bytes (map_block U xs)
  map_bytes =
      rw map_is (headed_bytes map_version U (length xs) (map_body U xs) (lit< tt)
      (rw body_is (bytes_cat numbers bits (bytes_fours (pages_below (map_of xs)) 1 (U / 256))
      (bytes_words (words_for U) (map_of xs)))))

  pub map_stated : stated (map_block U xs) ≡ length (map_block U xs) % 2 ^ 32
  map_stated = rw map_is (headed_stated map_version U (length xs) (map_body U xs))

  pub map_version_lem : get_or (map_block U xs) 4 0 ≡ map_version
  map_version_lem = ap (λ (l : List ℕ). get_or l 4 0) map_is ∙ headed_version map_version U (length xs) (map_body U xs)

  pub map_U : list_u (map_block U xs) ≡ U % 2 ^ 32
  map_U = ap list_u map_is ∙ headed_U map_version U (length xs) (map_body U xs)

  pub map_n : list_n (map_block U xs) ≡ length xs % 2 ^ 32
  map_n = ap list_n map_is ∙ headed_n map_version U (length xs) (map_body U xs)

  past : (k o : ℕ) → be_at k (map_block U xs) (13 + o) ≡ be_at k (numbers ++ bits) o
  past k o =
      ap (λ (l : List ℕ). be_at k l (13 + o)) map_is ∙ past_header map_version U (length xs) (map_body U xs) k o
      ∙ ap (λ (l : List ℕ). be_at k l o) body_is

  pub map_number : (q : ℕ) → 0 < q → q ≤ U / 256
      → be_at 4 (map_block U xs) (9 + 4 * q) ≡ pages_below (map_of xs) q % 2 ^ 32
  map_number q g h =
      let e : 9 + 4 * q ≡ 13 + 4 * (q - 1) = omega arith in
      let p : 1 + (q - 1) ≡ q = omega arith in
      let t = read_fours (pages_below (map_of xs)) 1 (U / 256) bits (q - 1) (omega arith) in
      rw e (past 4 (4 * (q - 1)) ∙ rw p at t)

  pub map_word : (k : ℕ) → k < words_for U
      → run_word (map_block U xs) (map_at U) k ≡ map_of xs / 2 ^ (64 * k) % 2 ^ 64
  unfolding run_word map_at
  map_word k h =
      let e : 13 + 4 * (U / 256) + 8 * k ≡ 13 + (4 * (U / 256) + 8 * k) = omega arith in
      rw e (past 8 (4 * (U / 256) + 8 * k)
      ∙ be_at_past 8 (4 * (U / 256)) numbers bits (8 * k) (length_fours (pages_below (map_of xs)) 1 (U / 256))
      ∙ ap (λ (l : List ℕ). be_at 8 l (8 * k)) (sym (append-nil bits)) ∙ read_words (words_for U) (map_of xs) [] k h)

  pub map_bits : (p : ℕ) → p < 64 * words_for U → run_bit (map_block U xs) (map_at U) p ≡ bit (map_of xs) p
  map_bits = words_bits (map_block U xs) (map_at U) (words_for U) (map_of xs) map_word

  pub map_read : rising 0 U xs ≡ true → read_map (map_block U xs) U ≡ xs
  unfolding read_map
  map_read r =
      pages_are (map_block U xs) (map_at U) U 0 U xs r (sym (zero-add U))
      (λ i l h. map_bits i (omega (arith, words_hold U)))
