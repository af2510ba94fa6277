-- Laws of the block of any list: its length, its header, where its parts are, and the test that two lists are one.
use mathlib.Core.Bool.{true, false≢true}
use mathlib.Core.Path.{◌≡◌, refl, sym, ap, ap₂, ◌∙◌}
use mathlib.Core.List.{List, [], ◌∷◌, ◌++◌, append-nil}
use Prim.Native.Nat.{ℕ, zero, suc, ◌+◌, ◌-◌, ◌*◌, ◌/◌, ◌%◌, ◌^◌, ◌≤◌, ◌<◌}
use native.Mathlib.Omega.{arith}
use borrow.Author.Tests.{eqb-true, eq-eqb}
use lib.Dec.{lit<, eqb}
use lib.ListN.{length, get_or, length-append}
use lib.Seq.{get_or-append-add}
use Rattle.rules.specs.Limits.{version, list_header}
use Rattle.rules.specs.Bytes.{Bytes, be, be_at, sized, same}
use Rattle.rules.specs.Runs.{run_word, words_for, words}
use Rattle.rules.specs.List.{width, zeros, upper, lower, pointer, pointers, lower_at, upper_at, size, runs, body, headed}
use Rattle.rules.specs.List.{block}
use Rattle.rules.specs.ReadList.{stated, list_u, list_n}
use Rattle.laws.proofs.ByteLaws.{length_be, be_at_past, read_be, length_words}
use Rattle.laws.proofs.ByteLaws.{read_words, bytes_be, bytes_cat, bytes_words}
use Rattle.listlaws.proofs.AfterLaws.{length_fours, read_fours, bytes_fours}
use Rattle.listlaws.proofs.RisingLaws.{and_parts}

-- ---- a header and what follows it, of any version

module _ (v U n : ℕ) (X : List ℕ) where
  abbrev rest : List ℕ
  rest = v ∷ (be 4 U ++ (be 4 n ++ X))

  abbrev total : ℕ
  total = 4 + length rest

  headed_is : headed v U n X ≡ be 4 total ++ rest
  unfolding sized
  headed_is = refl

  behind_length : (L : ℕ) → length (be 4 L ++ rest) ≡ 13 + length X
  behind_length L =
      rw (length-append, length-append, length-append, length_be 4 L, length_be 4 U, length_be 4 n) (omega arith)

  pub headed_length : length (headed v U n X) ≡ 13 + length X
  headed_length = ap length headed_is ∙ behind_length total

  total_is : total ≡ length (headed v U n X)
  total_is = sym (ap length headed_is ∙ length-append (be 4 total) rest
      ∙ ap (λ (k : ℕ). k + length rest) (length_be 4 total))

  pub headed_stated : stated (headed v U n X) ≡ length (headed v U n X) % 2 ^ 32
  unfolding stated
  headed_stated = ap (λ (l : List ℕ). be_at 4 l 0) headed_is ∙ read_be 4 total rest ∙ ap (λ (k : ℕ). k % 2 ^ 32) total_is

  pub headed_version : get_or (headed v U n X) 4 0 ≡ v
  headed_version =
      let e = length_be 4 total in
      let g : length (be 4 total) + 0 ≡ 4 = omega arith in
      ap (λ (l : List ℕ). get_or l 4 0) headed_is ∙ rw g at (get_or-append-add (be 4 total) rest 0 0)

  past_5 : (k o : ℕ) → be_at k (headed v U n X) (5 + o) ≡ be_at k (be 4 U ++ (be 4 n ++ X)) o
  past_5 k o =
      let e : 5 + o ≡ 4 + (1 + o) = omega arith in
      ap (λ (l : List ℕ). be_at k l (5 + o)) headed_is
      ∙ rw e (be_at_past k 4 (be 4 total) rest (1 + o) (length_be 4 total)
      ∙ be_at_past k 1 (v ∷ []) (be 4 U ++ (be 4 n ++ X)) o refl)

  past_9 : (k o : ℕ) → be_at k (headed v U n X) (9 + o) ≡ be_at k (be 4 n ++ X) o
  past_9 k o =
      let e : 9 + o ≡ 5 + (4 + o) = omega arith in
      rw e (past_5 k (4 + o) ∙ be_at_past k 4 (be 4 U) (be 4 n ++ X) o (length_be 4 U))

  pub past_header : (k o : ℕ) → be_at k (headed v U n X) (13 + o) ≡ be_at k X o
  past_header k o =
      let e : 13 + o ≡ 9 + (4 + o) = omega arith in
      rw e (past_9 k (4 + o) ∙ be_at_past k 4 (be 4 n) X o (length_be 4 n))

  pub headed_U : list_u (headed v U n X) ≡ U % 2 ^ 32
  unfolding list_u
  headed_U = past_5 4 0 ∙ read_be 4 U (be 4 n ++ X)

  pub headed_n : list_n (headed v U n X) ≡ n % 2 ^ 32
  unfolding list_n
  headed_n = past_9 4 0 ∙ read_be 4 n X

  pub headed_bytes : v < 256 → Bytes X → Bytes (headed v U n X)
  headed_bytes h b = rw headed_is (bytes_cat (be 4 total) rest (bytes_be 4 total) behind)
    where
      behind : Bytes rest
      behind zero = h
      behind (suc i) = bytes_cat (be 4 U) (be 4 n ++ X) (bytes_be 4 U) (bytes_cat (be 4 n) X (bytes_be 4 n) b) i

-- ---- what follows the header

module _ (U n w : ℕ) (xs : List ℕ) where
  abbrev Z : ℕ
  Z = zeros U w

  abbrev first : List ℕ
  first = pointers (n + Z) (upper w 0 xs) 1 (Z / 256)

  abbrev second : List ℕ
  second = words (words_for (n * w)) (lower w 0 xs)

  abbrev third : List ℕ
  third = words (words_for (n + Z)) (upper w 0 xs)

  first_length : length first ≡ 4 * (Z / 256)
  first_length = length_fours (pointer (n + Z) (upper w 0 xs)) 1 (Z / 256)

  runs_length : length (runs U n w xs) ≡ 4 * (Z / 256) + 8 * words_for (n * w) + 8 * words_for (n + Z)
  unfolding runs
  runs_length = rw (length-append, length-append, length_fours, length_words, length_words) (omega arith)

  runs_bytes : Bytes (runs U n w xs)
  unfolding runs
  runs_bytes =
      bytes_cat first (second ++ third) (bytes_fours (pointer (n + Z) (upper w 0 xs)) 1 (Z / 256)) (bytes_cat second third
      (bytes_words (words_for (n * w)) (lower w 0 xs)) (bytes_words (words_for (n + Z)) (upper w 0 xs)))

  runs_pointer : (q : ℕ) → q < Z / 256
      → be_at 4 (runs U n w xs) (4 * q) ≡ pointer (n + Z) (upper w 0 xs) (1 + q) % 2 ^ 32
  unfolding runs
  runs_pointer q h = read_fours (pointer (n + Z) (upper w 0 xs)) 1 (Z / 256) (second ++ third) q h

  runs_lower : (k : ℕ) → k < words_for (n * w)
      → be_at 8 (runs U n w xs) (4 * (Z / 256) + 8 * k) ≡ lower w 0 xs / 2 ^ (64 * k) % 2 ^ 64
  unfolding runs
  runs_lower k h = be_at_past 8 (4 * (Z / 256)) first (second ++ third) (8 * k) first_length
      ∙ read_words (words_for (n * w)) (lower w 0 xs) third k h

  runs_upper : (k : ℕ) → k < words_for (n + Z)
      → be_at 8 (runs U n w xs) (4 * (Z / 256) + (8 * words_for (n * w) + 8 * k)) ≡ upper w 0 xs / 2 ^ (64 * k) % 2 ^ 64
  unfolding runs
  runs_upper k h =
      be_at_past 8 (4 * (Z / 256)) first (second ++ third) (8 * words_for (n * w) + 8 * k) first_length
      ∙ be_at_past 8 (8 * words_for (n * w)) second third (8 * k) (length_words (words_for (n * w)) (lower w 0 xs))
      ∙ ap (λ (l : List ℕ). be_at 8 l (8 * k)) (sym (append-nil third))
      ∙ read_words (words_for (n + Z)) (upper w 0 xs) [] k h

body_runs : (U n w : ℕ) (xs : List ℕ) → length xs ≡ n → 0 < n → w ≡ width U n → body U xs ≡ runs U n w xs
unfolding body
body_runs U n w [] e h g = absurd (omega arith)
body_runs U n w (x ∷ xs) e h g = rw (e, g)

body_bytes : (U : ℕ) (xs : List ℕ) → Bytes (body U xs)
unfolding body
body_bytes U [] i = lit< tt
body_bytes U (x ∷ xs) i = runs_bytes U (length (x ∷ xs)) (width U (length (x ∷ xs))) (x ∷ xs) i

-- ---- the block of any list

module _ (U : ℕ) (xs : List ℕ) where
  block_is : block U xs ≡ headed version U (length xs) (body U xs)
  unfolding block
  block_is = refl

  pub block_body : length (block U xs) ≡ 13 + length (body U xs)
  block_body = ap length block_is ∙ headed_length version U (length xs) (body U xs)

  pub block_bytes : Bytes (block U xs)
  block_bytes = rw block_is (headed_bytes version U (length xs) (body U xs) (lit< tt) (body_bytes U xs))

  pub block_stated : stated (block U xs) ≡ length (block U xs) % 2 ^ 32
  block_stated = rw block_is (headed_stated version U (length xs) (body U xs))

  pub block_version : get_or (block U xs) 4 0 ≡ version
  block_version = ap (λ (l : List ℕ). get_or l 4 0) block_is ∙ headed_version version U (length xs) (body U xs)

  pub block_U : list_u (block U xs) ≡ U % 2 ^ 32
  block_U = ap list_u block_is ∙ headed_U version U (length xs) (body U xs)

  pub block_n : list_n (block U xs) ≡ length xs % 2 ^ 32
  block_n = ap list_n block_is ∙ headed_n version U (length xs) (body U xs)

  -- with elements there are runs
  module _ (n w : ℕ) (len : length xs ≡ n) (some : 0 < n) (ew : w ≡ width U n) where
    body_is : body U xs ≡ runs U n w xs
    body_is = body_runs U n w xs len some ew

    past : (k o : ℕ) → be_at k (block U xs) (13 + o) ≡ be_at k (runs U n w xs) o
    past k o = ap (λ (l : List ℕ). be_at k l (13 + o)) block_is ∙ past_header version U (length xs) (body U xs) k o
        ∙ ap (λ (l : List ℕ). be_at k l o) body_is

    pub block_length : length (block U xs) ≡ upper_at U n w + 8 * words_for (n + zeros U w)
    unfolding upper_at lower_at
    block_length = omega (arith, block_body, ap length body_is, runs_length U n w xs)

    pub block_pointer : (q : ℕ) → 0 < q → q ≤ zeros U w / 256
        → be_at 4 (block U xs) (9 + 4 * q) ≡ pointer (n + zeros U w) (upper w 0 xs) q % 2 ^ 32
    block_pointer q g h =
        let e : 9 + 4 * q ≡ 13 + 4 * (q - 1) = omega arith in
        let p : 1 + (q - 1) ≡ q = omega arith in
        rw e (past 4 (4 * (q - 1)) ∙ rw p at (runs_pointer U n w xs (q - 1) (omega arith)))

    pub block_lower : (k : ℕ) → k < words_for (n * w)
        → run_word (block U xs) (lower_at U w) k ≡ lower w 0 xs / 2 ^ (64 * k) % 2 ^ 64
    unfolding run_word lower_at
    block_lower k h =
        let e : 13 + 4 * (zeros U w / 256) + 8 * k ≡ 13 + (4 * (zeros U w / 256) + 8 * k) = omega arith in
        rw e (past 8 (4 * (zeros U w / 256) + 8 * k) ∙ runs_lower U n w xs k h)

    pub block_upper : (k : ℕ) → k < words_for (n + zeros U w)
        → run_word (block U xs) (upper_at U n w) k ≡ upper w 0 xs / 2 ^ (64 * k) % 2 ^ 64
    unfolding run_word lower_at upper_at
    block_upper k h =
        let e : 13 + 4 * (zeros U w / 256) + 8 * words_for (n * w) + 8 * k
        ≡ 13 + (4 * (zeros U w / 256) + (8 * words_for (n * w) + 8 * k)) = omega arith in
        rw e (past 8 (4 * (zeros U w / 256) + (8 * words_for (n * w) + 8 * k)) ∙ runs_upper U n w xs k h)

-- the length that U and n give, n at least 1
pub size_is : (U n : ℕ) → 0 < n → size U n ≡ upper_at U n (width U n) + 8 * words_for (n + zeros U (width U n))
unfolding size
size_is U zero h = absurd (omega arith)
size_is U (suc m) h = refl

pub size_none : (U : ℕ) → size U 0 ≡ list_header
unfolding size
size_none U = refl

pub block_size : (U : ℕ) (xs : List ℕ) → length (block U xs) ≡ size U (length xs)
unfolding body size
block_size U [] = block_body U []
block_size U (x ∷ xs) = block_length U (x ∷ xs) (length (x ∷ xs)) (width U (length (x ∷ xs))) refl (omega arith) refl

-- ---- the test that two lists are one

pub same_eq : (a b : List ℕ) → same a b ≡ true → a ≡ b
unfolding same
same_eq [] [] e = refl
same_eq [] (y ∷ b) e = absurd (false≢true e)
same_eq (x ∷ a) [] e = absurd (false≢true e)
same_eq (x ∷ a) (y ∷ b) e =
    let p = and_parts (eqb x y) (same a b) e in
    ap₂ (λ (z : ℕ) (l : List ℕ). z ∷ l) (eqb-true x y p.0) (same_eq a b p.1)

pub same_refl : (a : List ℕ) → same a a ≡ true
unfolding same
same_refl [] = refl
same_refl (x ∷ a) = rw (eq-eqb x x refl) (same_refl a)
