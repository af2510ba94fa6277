-- Laws of answers as lines.
use mathlib.Core.Path.{◌≡◌, refl, sym, ap, ◌∙◌}
use mathlib.Core.List.{List, [], ◌∷◌, ◌++◌}
use Prim.Native.Nat.{ℕ, zero, suc, ◌+◌, ◌*◌, ◌-◌, ◌≤◌, ◌<◌}
use native.Mathlib.Numerals.{add-one}
use native.Mathlib.Omega.{arith}
use lib.ListN.{length, get_or, take, drop, length-append, length-take, length-drop}
use lib.Seq.{take_all, drop-cons, drop-drop, get_or-take, get_or-drop, take_at, drop_at}
use Rattle.rules.specs.Program.{digits, line, lines}
use Rattle.rules.specs.Ask.{joined}
use Rattle.text.specs.Answers.{cut, answers_in, Counted}
use Rattle.text.proofs.DigitLaws.{digits_most}

-- ---- a line

-- what stands behind the first number of a line, ns those after it
unfoldable pub ending : List ℕ → List ℕ
ending [] = 10 ∷ []
ending (n ∷ ns) = 32 ∷ (digits n ++ ending ns)

line_cons : (n : ℕ) (ns : List ℕ) → line (n ∷ ns) ≡ digits n ++ ending ns
unfolding line ending
line_cons n [] = refl
line_cons n (m ∷ ns) = rw (line_cons m ns)

ending_none : (ns : List ℕ) → ending (drop (length ns) ns) ≡ 10 ∷ []
unfolding ending
ending_none [] = refl
ending_none (n ∷ ns) = ending_none ns

-- the numbers of a line behind the first
abbrev pub further : List ℕ → List ℕ
further ns = take (length ns - 1) (drop 1 ns)

pub further_long : (ns : List ℕ) → length (further ns) ≡ length ns - 1
further_long ns = rw (length-take, length-drop) (omega arith)

pub line_first : (ns : List ℕ) → 0 < length ns → digits (get_or ns 0 0) ++ ending (further ns) ≡ line ns
line_first [] h = absurd (omega arith)
line_first (n ∷ ns) h =
    let e : take (length (n ∷ ns) - 1) ns ≡ ns = take_all (length (n ∷ ns) - 1) ns (omega arith) in
    rw e (sym (line_cons n ns))

pub first_length : (ns : List ℕ) → 0 < length ns → length (line ns)
    ≡ length (digits (get_or ns 0 0)) + length (ending (further ns))
first_length ns h = sym (ap length (line_first ns h)) ∙ length-append (digits (get_or ns 0 0)) (ending (further ns))

module _ (ns : List ℕ) where
  pub ending_at : (i : ℕ) → i < length ns → ending (drop i ns) ≡ (32 ∷ digits (get_or ns i 0)) ++ ending (drop (i + 1) ns)
  unfolding ending
  ending_at i h = rw (add-one i, drop-cons ns i 0 h)

  pub ending_length : (i : ℕ) → i < length ns → length (ending (drop i ns))
      ≡ length (digits (get_or ns i 0)) + 1 + length (ending (drop (i + 1) ns))
  ending_length i h = ap length (ending_at i h) ∙ rw (length-append) (omega arith)

  pub ending_last : (i : ℕ) → i ≡ length ns → ending (drop i ns) ≡ 10 ∷ []
  ending_last i e = rw e (ending_none ns)

ending_most : (ns : List ℕ) → length (ending ns) ≤ 11 * length ns + 1
unfolding ending
ending_most [] = omega arith
ending_most (n ∷ ns) = rw (length-append) (omega (arith, digits_most n, ending_most ns))

pub line_most : (ns : List ℕ) → 0 < length ns → length (line ns) ≤ 11 * length ns
line_most [] h = absurd (omega arith)
line_most (n ∷ ns) h = rw (line_cons, length-append) (omega (arith, digits_most n, ending_most ns))

-- ---- answers

-- more turns than numbers change nothing
cut_more : (f g : ℕ) (ns : List ℕ) → length ns ≤ f → length ns ≤ g → cut f ns ≡ cut g ns
unfolding cut
cut_more zero zero ns h l = refl
cut_more zero (suc g) [] h l = refl
cut_more zero (suc g) (c ∷ ns) h l = absurd (omega arith)
cut_more (suc f) zero [] h l = refl
cut_more (suc f) zero (c ∷ ns) h l = absurd (omega arith)
cut_more (suc f) (suc g) [] h l = refl
cut_more (suc f) (suc g) (c ∷ ns) h l =
    rw (cut_more f g (drop c ns) (rw length-drop (omega arith)) (rw length-drop (omega arith)))

answers_none : (ns : List ℕ) → answers_in (drop (length ns) ns) ≡ []
unfolding answers_in cut
answers_none [] = refl
answers_none (n ∷ ns) = answers_none ns

answers_cons : (c : ℕ) (ns : List ℕ) → answers_in (c ∷ ns) ≡ (c ∷ take c ns) ∷ answers_in (drop c ns)
unfolding answers_in cut
answers_cons c ns =
    rw (cut_more (length ns) (length (drop c ns)) (drop c ns) (rw length-drop (omega arith)) (omega arith))

module _ (ns : List ℕ) (i : ℕ) where
  answers_at : i < length ns → answers_in (drop i ns)
      ≡ take (1 + get_or ns i 0) (drop i ns) ∷ answers_in (drop (i + 1 + get_or ns i 0) ns)
  answers_at h =
      let c : ℕ = get_or ns i 0 in
      let e : drop i ns ≡ c ∷ drop (suc i) ns = drop-cons ns i 0 h in
      let k : 1 + c ≡ suc c = omega arith in
      let g : i + 1 + c ≡ suc i + c = omega arith in
      rw (e, k, g, ← drop-drop c (suc i) ns) (answers_cons c (drop (suc i) ns))

-- the numbers from place i of a run up to the place behind its answer
abbrev pub answer_at : List ℕ → ℕ → List ℕ
answer_at ns i = take (i + 1 + get_or ns i 0 - i) (drop i ns)

module _ (ns : List ℕ) (i : ℕ) (h : i < length ns) (w : Counted (answers_in (drop i ns))) where
  abbrev c : ℕ
  c = get_or ns i 0

  counted_at : (length (take (1 + c) (drop i ns)) ≡ get_or (take (1 + c) (drop i ns)) 0 0 + 1)
      × Counted (answers_in (drop (i + 1 + c) ns))
  counted_at = rw (answers_at ns i h) at w

  pub counted_fits : i + 1 + c ≤ length ns
  counted_fits =
      let z : i + 0 ≡ i = omega arith in
      let g : get_or (take (1 + c) (drop i ns)) 0 0 ≡ c =
      get_or-take (1 + c) (drop i ns) 0 0 (omega arith) ∙ rw (get_or-drop i ns 0 0, z) in
      omega (arith, rw (g, length-take, length-drop) at counted_at.0)

  pub counted_rest : Counted (answers_in (drop (i + 1 + c) ns))
  counted_rest = counted_at.1

  pub counted_some : 0 < length (answer_at ns i)
  counted_some = rw (length-take, length-drop) (omega arith)

  pub lines_at : lines (answers_in (drop i ns)) ≡ line (answer_at ns i) ++ lines (answers_in (drop (i + 1 + c) ns))
  unfolding lines
  lines_at =
      let g : 1 + c ≡ i + 1 + c - i = omega arith in
      rw (answers_at ns i h, ← g)

  pub lines_length : length (lines (answers_in (drop i ns)))
      ≡ length (line (answer_at ns i)) + length (lines (answers_in (drop (i + 1 + c) ns)))
  lines_length = ap length lines_at ∙ length-append (line (answer_at ns i)) (lines (answers_in (drop (i + 1 + c) ns)))

pub lines_none : (ns : List ℕ) (i : ℕ) → i ≡ length ns → lines (answers_in (drop i ns)) ≡ []
unfolding lines
lines_none ns i e = rw (e, answers_none ns)

-- ---- answers joined into a run

-- an answer that begins with its count, and a run behind it
answers_append : (a ns : List ℕ) → length a ≡ get_or a 0 0 + 1 → answers_in (a ++ ns) ≡ a ∷ answers_in ns
answers_append [] ns h = absurd (omega arith)
answers_append (c ∷ xs) ns h =
    let e : length xs ≡ c = omega arith in
    answers_cons c (xs ++ ns) ∙ rw (take_at xs ns c e, drop_at xs ns c e)

pub answers_joined : (given : List (List ℕ)) → Counted given → answers_in (joined given) ≡ given
unfolding joined
answers_joined [] w = answers_none []
answers_joined (a ∷ rest) w = answers_append a (joined rest) w.0 ∙ ap (λ l. a ∷ l) (answers_joined rest w.1)

-- each number of an answer takes at most ten digits and what is behind it
pub lines_most : (given : List (List ℕ)) → Counted given → length (lines given) ≤ 11 * length (joined given)
unfolding lines joined
lines_most [] w = omega arith
lines_most (a ∷ rest) w =
    rw (length-append, length-append) (omega (arith, line_most a (omega (arith, w.0)), lines_most rest w.1))
