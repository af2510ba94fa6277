-- Laws of bytes that are changed in place: a session's calls change those of its block alone.
use mathlib.Core.Path.{◌≡◌, refl, sym, ap, ◌∙◌}
use mathlib.Core.List.{List, ◌++◌}
use Prim.Native.Nat.{ℕ, zero, suc, ◌+◌, ◌-◌, ◌*◌, ◌/◌, ◌%◌, ◌^◌, ◌≤◌}
use native.Mathlib.Omega.{arith}
use lib.Bits.{bit_or}
use lib.ListN.{length, take, drop, length-append, length-drop}
use lib.Seq.{length-take-le, drop-append-add, drop-drop}
use Rattle.rules.specs.declared.Stream.{Stream}
use Rattle.rules.specs.Bytes.{be, be_at}
use Rattle.rules.specs.Runs.{words_for}
use Rattle.rules.specs.List.{width, zeros, lower, upper, pointers, fours, pointer, lower_at, upper_at, size}
use Rattle.rules.specs.List.{map_of, pages_below, map_at, map_size, Form, two_runs, bitmap, form_size}
use Rattle.rules.specs.Write.{laid}
use Rattle.rules.specs.Term.{Word, sums, placed}
use Rattle.rules.specs.InPlace.{from, with_ones, number_of, added, pointed, map_added, map_numbered}
use Rattle.rules.specs.InPlace.{form_added, form_pointed}
use Rattle.rules.specs.Stream.{counts_at, positions_at, stream_size, stream_form, second_at, third_at, added_word, size_of}
use Rattle.rules.specs.Stream.{pointed_word}
use Rattle.laws.proofs.ByteLaws.{length_be}
use Rattle.laws.proofs.RoomLaws.{length_laid, drop_laid}
use Rattle.listlaws.proofs.AfterLaws.{length_fours}
use Rattle.demands.specs.Streams.{Kept}

-- ---- changes within the first n bytes

pub kept_same : (n : ℕ) (s : List ℕ) → Kept n s s
kept_same n s = (refl, refl)

kept_then : (n : ℕ) (s t u : List ℕ) → Kept n s t → Kept n t u → Kept n s u
kept_then n s t u a b = (b.0 ∙ a.0, b.1 ∙ a.1)

kept_more : (n m : ℕ) (s t : List ℕ) → n ≤ m → Kept n s t → Kept m s t
kept_more n m s t h k =
    let d : n + (m - n) ≡ m = omega arith in (
      k.0,
      ap (λ (j : ℕ). drop j t) (sym d) ∙ sym (drop-drop (m - n) n t) ∙ ap (drop (m - n)) k.1
          ∙ drop-drop (m - n) n s ∙ ap (λ (j : ℕ). drop j s) d,
    )

-- p bytes for the first p, and t for what is behind them
kept_behind : (p n q : ℕ) (a s t : List ℕ) → length a ≡ p → q ≡ p + n → p ≤ length s → Kept n (drop p s) t
    → Kept q s (a ++ t)
kept_behind p n q a s t l e h k = (
  length-append a t ∙ omega (arith, k.0, length-drop p s),
  ap (λ (j : ℕ). drop j (a ++ t)) (e ∙ ap (λ (j : ℕ). j + n) (sym l)) ∙ drop-append-add a t n ∙ k.1
      ∙ drop-drop n p s ∙ ap (λ (j : ℕ). drop j s) (sym e),
)

-- f changes some of the first n bytes of what has so many
abbrev Inside : ℕ → (List ℕ → List ℕ) → Type 0
Inside n f = (s : List ℕ) → n ≤ length s → Kept n s (f s)

-- changed from byte p on
kept_from : (p n q : ℕ) (f : List ℕ → List ℕ) → Inside n f → p + n ≤ q → Inside q (from p f)
unfolding from
kept_from p n q f k h s l =
    kept_more (p + n) q s (from p f s) h
    (kept_behind p n (p + n) (take p s) s (f (drop p s)) (length-take-le p s (omega arith)) refl (omega arith)
    (k (drop p s) (rw length-drop (omega arith))))

pub kept_laid : (n : ℕ) (b s : List ℕ) → length b ≡ n → n ≤ length s → Kept n s (laid b s)
kept_laid n b s e h = (length_laid b s (omega arith), rw (← e) (drop_laid b s))

-- ---- a list

kept_ones : (m v : ℕ) (s : List ℕ) → 8 * m ≤ length s → Kept (8 * m) s (with_ones m v s)
unfolding with_ones
kept_ones zero v s h = (refl, refl)
kept_ones (suc m) v s h =
    kept_behind 8 (8 * m) (8 * suc m) (be 8 (bit_or (be_at 8 s 0) (v % 2 ^ 64))) s
    (with_ones m (v / 2 ^ 64) (drop 8 s)) (length_be 8 (bit_or (be_at 8 s 0) (v % 2 ^ 64))) (omega arith)
    (omega arith) (kept_ones m (v / 2 ^ 64) (drop 8 s) (rw length-drop (omega arith)))

kept_added : (U n i : ℕ) (xs s : List ℕ) → size U n ≤ length s → Kept (size U n) s (added U n i xs s)
unfolding added size upper_at
kept_added U zero i xs s h = kept_same 13 s
kept_added U (suc m) i xs s h =
    let n : ℕ = suc m in
    let w : ℕ = width U n in
    let e : ℕ = upper_at U n w + 8 * words_for (n + zeros U w) in
    let f : List ℕ → List ℕ = with_ones (words_for (n * w)) (lower w i xs) in
    let g : List ℕ → List ℕ = with_ones (words_for (n + zeros U w)) (upper w i xs) in
    let t : List ℕ = from (upper_at U n w) g s in
    let a = kept_from (upper_at U n w) (8 * words_for (n + zeros U w)) e g
    (kept_ones (words_for (n + zeros U w)) (upper w i xs)) (omega arith) s h in
    kept_then e s t (from (lower_at U w) f t) a
    (kept_from (lower_at U w) (8 * words_for (n * w)) e f (kept_ones (words_for (n * w)) (lower w i xs)) (omega arith)
    t (omega (arith, a.0)))

kept_pointed : (U n : ℕ) (s : List ℕ) → size U n ≤ length s → Kept (size U n) s (pointed U n s)
unfolding pointed size upper_at lower_at
kept_pointed U zero s h = kept_same 13 s
kept_pointed U (suc m) s h =
    let n : ℕ = suc m in
    let w : ℕ = width U n in
    let Z : ℕ = zeros U w in
    let u : ℕ = number_of (words_for (n + Z)) (drop (upper_at U n w) s) in
    let b : List ℕ = pointers (n + Z) u 1 (Z / 256) in
    let l : length b ≡ 4 * (Z / 256) = length_fours (pointer (n + Z) u) 1 (Z / 256) in
    kept_from 13 (4 * (Z / 256)) (size U n) (laid b) (λ d k. kept_laid (4 * (Z / 256)) b d l k) (omega arith) s h

-- in either form
kept_formed : (f : Form) (U n i : ℕ) (xs s : List ℕ) → form_size f U n ≤ length s
    → Kept (form_size f U n) s (form_added f U n i xs s)
kept_formed two_runs U n i xs s h = kept_added U n i xs s h
kept_formed bitmap U n i xs s h = unfold map_added map_size in
    kept_from (map_at U) (8 * words_for U) (map_at U + 8 * words_for U) (with_ones (words_for U) (map_of xs))
    (kept_ones (words_for U) (map_of xs)) (omega arith) s (unfold map_size in h)

kept_finished : (f : Form) (U n : ℕ) (s : List ℕ) → form_size f U n ≤ length s
    → Kept (form_size f U n) s (form_pointed f U n s)
kept_finished two_runs U n s h = kept_pointed U n s h
kept_finished bitmap U n s h = unfold map_numbered map_size map_at in
    let u : ℕ = number_of (words_for U) (drop (map_at U) s) in
    let b : List ℕ = fours (pages_below u) 1 (U / 256) in
    kept_from 13 (4 * (U / 256)) (map_size U) (laid b)
    (λ d k. kept_laid (4 * (U / 256)) b d (length_fours (pages_below u) 1 (U / 256)) k) (omega arith) s h

-- ---- a word

module _ (s : Stream) where
  -- three changes, each in one of its lists
  kept_lists : (f g h : List ℕ → List ℕ) → Inside (form_size (stream_form s) s.n s.pages) f
      → Inside (size s.positions s.pages) g → Inside (size s.u s.positions) h
      → (room : List ℕ) → size_of s ≤ length room
      → Kept (size_of s) room
      (from (third_at s) h (from (second_at s) g (from 5 f room)))
  unfolding size_of stream_size second_at third_at positions_at counts_at stream_form
  kept_lists f g h kf kg kh room l =
      let p : ℕ = form_size (stream_form s) s.n s.pages in
      let q : ℕ = size s.positions s.pages in
      let u : ℕ = size s.u s.positions in
      let e : ℕ = 5 + p + q + u in
      let a : List ℕ = from 5 f room in
      let b : List ℕ = from (5 + p) g a in
      let x = kept_from 5 p e f kf (omega arith) room l in
      let y = kept_from (5 + p) q e g kg (omega arith) a (omega (arith, x.0)) in
      let z = kept_from (5 + p + q) u e h kh (omega arith) b (omega (arith, x.0, y.0)) in
      kept_then e room a (from (5 + p + q) h b) x (kept_then e a b (from (5 + p + q) h b) y z)

  pub kept_word : (t : Word) (room : List ℕ) → size_of s ≤ length room → Kept (size_of s) room (added_word s t room)
  unfolding added_word
  kept_word t room l =
      kept_lists
      (form_added (stream_form s) s.n s.pages s.laid t.pages)
      (added s.positions s.pages s.laid (sums s.filled t.counts))
      (added s.u s.positions s.filled (placed s.base t.counts t.positions))
      (kept_formed (stream_form s) s.n s.pages s.laid t.pages)
      (kept_added s.positions s.pages s.laid (sums s.filled t.counts))
      (kept_added s.u s.positions s.filled (placed s.base t.counts t.positions))
      room l

  pub kept_close : (room : List ℕ) → size_of s ≤ length room → Kept (size_of s) room (pointed_word s room)
  unfolding pointed_word
  kept_close room l =
      kept_lists
      (form_pointed (stream_form s) s.n s.pages)
      (pointed s.positions s.pages)
      (pointed s.u s.positions)
      (kept_finished (stream_form s) s.n s.pages)
      (kept_pointed s.positions s.pages)
      (kept_pointed s.u s.positions)
      room l
