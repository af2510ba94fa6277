-- Laws of a list block that is written in place, in either form: with nothing laid it is the emptied block, elements
-- added to it are laid, and with all laid and its pointers or numbers it is the block of the list.
use mathlib.Core.Bool.{true}
use mathlib.Core.Path.{◌≡◌, refl, sym, ap, ap₂, ◌∙◌, subst}
use mathlib.Core.List.{List, [], ◌∷◌, ◌++◌, append_assoc}
use Prim.Native.Nat.{ℕ, zero, suc, ◌+◌, ◌-◌, ◌*◌, ◌/◌, ◌^◌, ◌<◌}
use native.Mathlib.Nat.{zero-add, lt_of_lt_of_le}
use native.Mathlib.Omega.{arith}
use lib.Bits.{bit_or}
use lib.ListN.{length, drop, replicate, length-append, length-replicate, replicate-append-replicate}
use lib.Pow.{pow_mono}
use lib.Seq.{drop_at}
use Rattle.rules.specs.Limits.{version, map_version, list_header}
use Rattle.rules.specs.Bytes.{be, sized}
use Rattle.rules.specs.Runs.{words_for, words}
use Rattle.rules.specs.List.{rising, width, zeros, lower, upper, pointer, fours, pointers, lower_at, upper_at, size}
use Rattle.rules.specs.List.{runs, body, headed, block, map_of, pages_below, map_at, map_size, map_body, map_block}
use Rattle.rules.specs.List.{Form, two_runs, bitmap, form_size, form_block}
use Rattle.rules.specs.Write.{laid}
use Rattle.rules.specs.InPlace.{emptied, from, with_ones, number_of, added, pointed, map_emptied, map_added, map_numbered}
use Rattle.rules.specs.InPlace.{form_emptied, form_added, form_pointed}
use Rattle.laws.proofs.ByteLaws.{length_be, length_words}
use Rattle.laws.proofs.PartLaws.{length_sized}
use Rattle.laws.proofs.RunLaws.{words_hold}
use Rattle.listlaws.proofs.AfterLaws.{length_fours}
use Rattle.listlaws.proofs.UpperLaws.{upper_ones}
use Rattle.listlaws.proofs.BlockLaws.{block_size}
use Rattle.maplaws.proofs.NumberLaws.{map_nil, map_lt}
use Rattle.addlaws.proofs.MoreLaws.{from_here, from_past, lower_or, upper_or, map_or}
use Rattle.streamlaws.specs.Partly.{laid_runs, partly, map_partly, form_partly}
use Rattle.streamlaws.proofs.OnesLaws.{words_zero, ones_words, number_words}
use Rattle.streamlaws.proofs.FromLaws.{drop_past, laid_over}

-- ---- a header and what follows it

-- the 13 bytes of a header of version ver, L the length
abbrev header : ℕ → ℕ → ℕ → ℕ → List ℕ
header ver L U n = be 4 L ++ (ver ∷ (be 4 U ++ be 4 n))

length_header : (ver L U n : ℕ) → length (header ver L U n) ≡ 13
length_header ver L U n = rw (length-append, length-append, length_be 4 L, length_be 4 U, length_be 4 n)

module _ (ver L U n : ℕ) (X : List ℕ) (long : 13 + length X ≡ L) where
  length_headed : length (headed ver U n X) ≡ L
  length_headed =
      length_sized (ver ∷ (be 4 U ++ (be 4 n ++ X)))
      ∙ rw (length-append, length-append, length_be 4 U, length_be 4 n) (omega (arith, long))

  headed_apart : (rest : List ℕ) → headed ver U n X ++ rest ≡ header ver L U n ++ (X ++ rest)
  unfolding sized
  headed_apart rest =
      let e : 4 + length (ver ∷ (be 4 U ++ (be 4 n ++ X))) ≡ L =
      rw (length-append, length-append, length_be 4 U, length_be 4 n) (omega (arith, long)) in
      rw e (simp append_assoc)

-- ---- a block with k pointers or numbers and two runs of a and b words; of a bitmap the first run has no words

module _ (ver L U n k a b : ℕ) where
  abbrev none : List ℕ
  none = replicate (4 * k) 0

  -- before its pointers are written, with the runs' numbers v and u
  abbrev holding : ℕ → ℕ → List ℕ → List ℕ
  holding v u rest = header ver L U n ++ (none ++ (words a v ++ (words b u ++ rest)))

  holds : (v u : ℕ) (X rest : List ℕ) → 13 + length X ≡ L → X ≡ none ++ (words a v ++ words b u)
      → headed ver U n X ++ rest ≡ holding v u rest
  holds v u X rest long e = headed_apart ver L U n X long rest ∙ rw e (simp append_assoc)

  ones_lower : (v u x : ℕ) (rest : List ℕ)
      → from (13 + 4 * k) (with_ones a x) (holding v u rest) ≡ holding (bit_or v x) u rest
  ones_lower v u x rest =
      let f = with_ones a x in
      let h : List ℕ = header ver L U n in
      from_past f (13 + 4 * k) (4 * k) h (none ++ (words a v ++ (words b u ++ rest)))
      (omega (arith, length_header ver L U n))
      ∙ ap (λ (l : List ℕ). h ++ l) (from_here f (4 * k) none (words a v ++ (words b u ++ rest))
      (length-replicate {A = ℕ} (4 * k) 0)
      ∙ ap (λ (l : List ℕ). none ++ l) (ones_words a v x (words b u ++ rest)))

  ones_upper : (v u x : ℕ) (rest : List ℕ)
      → from (13 + 4 * k + 8 * a) (with_ones b x) (holding v u rest) ≡ holding v (bit_or u x) rest
  ones_upper v u x rest =
      let f = with_ones b x in
      let h : List ℕ = header ver L U n in
      let m : ℕ = 8 * a in
      from_past f (13 + 4 * k + m) (4 * k + m) h (none ++ (words a v ++ (words b u ++ rest)))
      (omega (arith, length_header ver L U n))
      ∙ ap (λ (l : List ℕ). h ++ l) (from_past f (4 * k + m) m none (words a v ++ (words b u ++ rest))
      (omega (arith, length-replicate {A = ℕ} (4 * k) 0))
      ∙ ap (λ (l : List ℕ). none ++ l) (from_here f m (words a v) (words b u ++ rest) (length_words a v)
      ∙ ap (λ (l : List ℕ). words a v ++ l) (ones_words b u x rest)))

  -- the upper run's number, of which the pointers come
  upper_read : (v u : ℕ) (rest : List ℕ) → u < 2 ^ (64 * b)
      → number_of b (drop (13 + 4 * k + 8 * a) (holding v u rest)) ≡ u
  upper_read v u rest h =
      let m : ℕ = 8 * a in
      ap (number_of b) (drop_past (13 + 4 * k + m) (4 * k + m) (header ver L U n)
      (none ++ (words a v ++ (words b u ++ rest))) (omega (arith, length_header ver L U n))
      ∙ drop_past (4 * k + m) m none (words a v ++ (words b u ++ rest))
      (omega (arith, length-replicate {A = ℕ} (4 * k) 0))
      ∙ drop_at (words a v) (words b u ++ rest) m (length_words a v))
      ∙ number_words b u rest h

  -- behind its header, once the pointers or numbers ps are written
  abbrev full : List ℕ → ℕ → ℕ → List ℕ
  full ps v u = ps ++ (words a v ++ words b u)

  pointed_holds : (f : ℕ → ℕ → ℕ) (v u : ℕ) (rest : List ℕ) → u < 2 ^ (64 * b)
      → (let s : List ℕ = holding v u rest in
      from 13 (laid (fours (f (number_of b (drop (13 + 4 * k + 8 * a) s))) 1 k)) s
      ≡ header ver L U n ++ (full (fours (f u) 1 k) v u ++ rest))
  pointed_holds f v u rest h =
      let ps : List ℕ = fours (f u) 1 k in
      let t : List ℕ = words a v ++ (words b u ++ rest) in
      ap (λ (x : ℕ). from 13 (laid (fours (f x) 1 k)) (holding v u rest)) (upper_read v u rest h)
      ∙ from_here (laid ps) 13 (header ver L U n) (none ++ t) (length_header ver L U n)
      ∙ ap (λ (l : List ℕ). header ver L U n ++ l) (laid_over ps none t
      (length-replicate {A = ℕ} (4 * k) 0 ∙ sym (length_fours (f u) 1 k))
      ∙ simp append_assoc)

-- ---- two runs with elements

module _ (U m : ℕ) where
  abbrev n : ℕ
  n = suc m

  abbrev w : ℕ
  w = width U n

  abbrev Z : ℕ
  Z = zeros U w

  -- the words of the two runs
  abbrev la : ℕ
  la = words_for (n * w)

  abbrev ub : ℕ
  ub = words_for (n + Z)

  abbrev runs_hold : ℕ → ℕ → List ℕ → List ℕ
  runs_hold v u rest = holding version (size U n) U n (Z / 256) la ub v u rest

  length_laid : (xs : List ℕ) → 13 + length (laid_runs U n xs) ≡ size U n
  unfolding laid_runs size upper_at lower_at
  length_laid xs = rw (length-append, length-append, length-replicate, length_words, length_words) (omega arith)

  partly_holds : (xs rest : List ℕ) → partly U n xs ++ rest ≡ runs_hold (lower w 0 xs) (upper w 0 xs) rest
  unfolding partly laid_runs
  partly_holds xs rest =
      holds version (size U n) U n (Z / 256) la ub (lower w 0 xs) (upper w 0 xs) (laid_runs U n xs) rest (length_laid xs)
      refl

  added_some : (xs ys rest : List ℕ) → rising 0 U (xs ++ ys) ≡ true
      → added U n (length xs) ys (partly U n xs ++ rest) ≡ partly U n (xs ++ ys) ++ rest
  unfolding added lower_at upper_at
  added_some xs ys rest r =
      let v : ℕ = lower w 0 xs in
      let u : ℕ = upper w 0 xs in
      let a : ℕ = lower w (length xs) ys in
      let b : ℕ = upper w (length xs) ys in
      let lo : List ℕ → List ℕ = from (13 + 4 * (Z / 256)) (with_ones la a) in
      let up : List ℕ → List ℕ = from (13 + 4 * (Z / 256) + 8 * la) (with_ones ub b) in
      ap (λ (l : List ℕ). lo (up l)) (partly_holds xs rest)
      ∙ ap lo (ones_upper version (size U n) U n (Z / 256) la ub v u b rest)
      ∙ ones_lower version (size U n) U n (Z / 256) la ub v (bit_or u b) a rest
      ∙ ap₂ (λ (x y : ℕ). runs_hold x y rest) (rw (zero-add (length xs)) at (lower_or w 0 xs ys))
      (rw (zero-add (length xs)) at (upper_or w U 0 xs ys r))
      ∙ sym (partly_holds (xs ++ ys) rest)

  pointed_some : (xs rest : List ℕ) → rising 0 U xs ≡ true → length xs ≡ n
      → pointed U n (partly U n xs ++ rest) ≡ header version (size U n) U n ++ (runs U n w xs ++ rest)
  unfolding pointed runs lower_at upper_at
  pointed_some xs rest r e =
      let fits : upper w 0 xs < 2 ^ (64 * ub) =
      (upper_ones w U 0 0 xs r (64 * ub) (omega (arith, words_hold (n + Z)))).0 in
      let at : ℕ = 13 + 4 * (Z / 256) + 8 * la in
      ap (λ (s : List ℕ). from 13 (laid (pointers (n + Z) (number_of ub (drop at s)) 1 (Z / 256))) s)
      (partly_holds xs rest)
      ∙ pointed_holds version (size U n) U n (Z / 256) la ub (pointer (n + Z)) (lower w 0 xs) (upper w 0 xs) rest fits

-- ---- two runs of any list

laid_none : (U n : ℕ) → laid_runs U n [] ≡ replicate (size U n - list_header) 0
unfolding laid_runs lower upper size upper_at lower_at
laid_none U zero = refl
laid_none U (suc m) =
    let a : ℕ = 4 * (Z U m / 256) in
    let b : ℕ = 8 * la U m in
    let c : ℕ = 8 * ub U m in
    let e : a + (b + c) ≡ 13 + a + b + c - 13 = omega arith in
    rw (words_zero (la U m), words_zero (ub U m))
    (ap (λ (l : List ℕ). replicate a 0 ++ l) (replicate-append-replicate b c 0)
    ∙ replicate-append-replicate a (b + c) 0 ∙ ap (λ (k : ℕ). replicate k 0) e)

runs_long : (U n : ℕ) (xs : List ℕ) → 13 + length (laid_runs U n xs) ≡ size U n
unfolding laid_runs size
runs_long U zero xs = refl
runs_long U (suc m) xs = length_laid U m xs

runs_added : (U n : ℕ) (xs ys rest : List ℕ) → rising 0 U (xs ++ ys) ≡ true
    → added U n (length xs) ys (partly U n xs ++ rest) ≡ partly U n (xs ++ ys) ++ rest
unfolding added partly laid_runs
runs_added U zero xs ys rest r = refl
runs_added U (suc m) xs ys rest r = added_some U m xs ys rest r

body_long : (U : ℕ) (xs : List ℕ) → 13 + length (body U xs) ≡ size U (length xs)
unfolding block
body_long U xs =
    sym (length_headed version (13 + length (body U xs)) U (length xs) (body U xs) refl) ∙ block_size U xs

runs_pointed : (U : ℕ) (xs rest : List ℕ) → rising 0 U xs ≡ true
    → pointed U (length xs) (partly U (length xs) xs ++ rest) ≡ block U xs ++ rest
unfolding pointed partly laid_runs block body
runs_pointed U [] rest r = refl
runs_pointed U (x ∷ xs) rest r =
    let n : ℕ = suc (length xs) in
    pointed_some U (length xs) (x ∷ xs) rest r refl
    ∙ sym (headed_apart version (size U n) U n (body U (x ∷ xs)) (body_long U (x ∷ xs)) rest)

-- ---- a bitmap

module _ (U n : ℕ) where
  abbrev wb : ℕ
  wb = words_for U

  abbrev map_holds : ℕ → List ℕ → List ℕ
  map_holds u rest = holding map_version (map_size U) U n (U / 256) 0 wb 0 u rest

  map_at_lem : map_at U ≡ 13 + 4 * (U / 256) + 8 * 0
  unfolding map_at
  map_at_lem = omega arith

  map_long : (ps : List ℕ) (u : ℕ) → length ps ≡ 4 * (U / 256) → 13 + length (ps ++ words wb u) ≡ map_size U
  unfolding map_size
  map_long ps u e = rw (length-append, length_words wb u, e) (omega (arith, map_at_lem))

  words_none : words 0 0 ≡ []
  unfolding words
  words_none = refl

  map_partly_holds : (xs rest : List ℕ) → map_partly U n xs ++ rest ≡ map_holds (map_of xs) rest
  unfolding map_partly
  map_partly_holds xs rest =
      let z : List ℕ = replicate (4 * (U / 256)) 0 in
      holds map_version (map_size U) U n (U / 256) 0 wb 0 (map_of xs) (z ++ words wb (map_of xs)) rest
      (map_long z (map_of xs) (length-replicate {A = ℕ} (4 * (U / 256)) 0)) (rw words_none)

  map_added_lem : (xs ys rest : List ℕ) → rising 0 U (xs ++ ys) ≡ true
      → map_added U ys (map_partly U n xs ++ rest) ≡ map_partly U n (xs ++ ys) ++ rest
  unfolding map_added
  map_added_lem xs ys rest r =
      ap₂ (λ (p : ℕ) (l : List ℕ). from p (with_ones wb (map_of ys)) l) map_at_lem (map_partly_holds xs rest)
      ∙ ones_upper map_version (map_size U) U n (U / 256) 0 wb 0 (map_of xs) (map_of ys) rest
      ∙ ap (λ (u : ℕ). map_holds u rest) (map_or U xs ys r)
      ∙ sym (map_partly_holds (xs ++ ys) rest)

  map_pointed : (xs rest : List ℕ) → rising 0 U xs ≡ true → length xs ≡ n
      → map_numbered U (map_partly U n xs ++ rest) ≡ map_block U xs ++ rest
  unfolding map_numbered map_block map_body
  map_pointed xs rest r e =
      let ps : List ℕ = fours (pages_below (map_of xs)) 1 (U / 256) in
      let fits : map_of xs < 2 ^ (64 * wb) = lt_of_lt_of_le (map_lt 0 U xs r) (pow_mono (words_hold U)) in
      ap₂ (λ (p : ℕ) (s : List ℕ). from 13 (laid (fours (pages_below (number_of wb (drop p s))) 1 (U / 256))) s) map_at_lem
      (map_partly_holds xs rest)
      ∙ pointed_holds map_version (map_size U) U n (U / 256) 0 wb pages_below 0 (map_of xs) rest fits
      ∙ ap (λ (l : List ℕ). header map_version (map_size U) U n ++ ((ps ++ (l ++ words wb (map_of xs))) ++ rest))
      words_none
      ∙ sym (headed_apart map_version (map_size U) U n (ps ++ words wb (map_of xs))
      (map_long ps (map_of xs) (length_fours (pages_below (map_of xs)) 1 (U / 256))) rest)
      ∙ ap (λ (k : ℕ). headed map_version U k (ps ++ words wb (map_of xs)) ++ rest) (sym e)

  map_laid_none : replicate (4 * (U / 256)) 0 ++ words wb (map_of []) ≡ replicate (map_size U - list_header) 0
  unfolding map_size map_at
  map_laid_none =
      let e : 4 * (U / 256) + 8 * wb ≡ 13 + 4 * (U / 256) + 8 * wb - 13 = omega arith in
      rw (map_nil, words_zero wb) (replicate-append-replicate (4 * (U / 256)) (8 * wb) 0
      ∙ ap (λ (k : ℕ). replicate k 0) e)

-- ---- either form

-- nothing is laid
pub partly_none : (o : Form) (U n : ℕ) → form_partly o U n [] ≡ form_emptied o U n
unfolding partly emptied map_partly map_emptied
partly_none two_runs U n = ap (headed version U n) (laid_none U n)
partly_none bitmap U n = ap (headed map_version U n) (map_laid_none U n)

pub length_partly : (o : Form) (U n : ℕ) (xs : List ℕ) → length (form_partly o U n xs) ≡ form_size o U n
unfolding partly map_partly
length_partly two_runs U n xs = length_headed version (size U n) U n (laid_runs U n xs) (runs_long U n xs)
length_partly bitmap U n xs =
    let z : List ℕ = replicate (4 * (U / 256)) 0 in
    length_headed map_version (map_size U) U n (z ++ words (words_for U) (map_of xs))
    (map_long U n z (map_of xs) (length-replicate {A = ℕ} (4 * (U / 256)) 0))

-- elements xs are laid, and ys behind them
pub added_partly : (o : Form) (U n : ℕ) (xs ys rest : List ℕ) → rising 0 U (xs ++ ys) ≡ true
    → form_added o U n (length xs) ys (form_partly o U n xs ++ rest) ≡ form_partly o U n (xs ++ ys) ++ rest
added_partly two_runs U n xs ys rest r = runs_added U n xs ys rest r
added_partly bitmap U n xs ys rest r = map_added_lem U n xs ys rest r

-- all elements are laid
pub pointed_partly : (o : Form) (U n : ℕ) (xs rest : List ℕ) → rising 0 U xs ≡ true → length xs ≡ n
    → form_pointed o U n (form_partly o U n xs ++ rest) ≡ form_block o U xs ++ rest
pointed_partly two_runs U n xs rest r e =
    subst (λ (k : ℕ). pointed U k (partly U k xs ++ rest) ≡ block U xs ++ rest) e (runs_pointed U xs rest r)
pointed_partly bitmap U n xs rest r e = map_pointed U n xs rest r e
