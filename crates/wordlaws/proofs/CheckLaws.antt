-- Laws of the tests of a word, read from the front: what is left to test gives what all of it gives.
use mathlib.Core.Bool.{false, and-false}
use mathlib.Core.Path.{◌≡◌, refl, sym, ap, ◌∙◌}
use mathlib.Core.List.{List, [], ◌∷◌}
use Prim.Native.Nat.{ℕ, zero, suc, ◌+◌, ◌-◌, ◌≤◌, ◌<◌}
use native.Mathlib.Nat.{add-zero, add_assoc}
use native.Mathlib.Decide.{ℕ_discrete}
use native.Mathlib.Omega.{arith}
use borrow.Author.Tests.{lt-ltb, eq-eqb, ne_eqb}
use lib.Dec.{eqb}
use lib.ListN.{length, get_or, take, drop, length-drop, drop_of_length-le}
use lib.Seq.{length-take-le, get_or-take, get_or-drop, drop-drop}
use Rattle.rules.specs.Term.{total, next, raised, placed, positive}
use Rattle.termlaws.proofs.OrderLaws.{next_append}
use Rattle.filllaws.proofs.RiseLaws.{drop_front}
use Rattle.wordlaws.specs.Reach.{summing}

-- ---- counts

eqb_less : (c t n : ℕ) → c ≤ n → eqb (c + t) n ≡ eqb t (n - c)
eqb_less c t n h =
    elim (ℕ_discrete (c + t) n) [
      | yes e ↦ eq-eqb (c + t) n e ∙ sym (eq-eqb t (n - c) (omega arith))
      | no e ↦ ne_eqb (c + t) n e ∙ sym (ne_eqb t (n - c) (λ f. e (omega arith)))
    ]

module _ (n c : ℕ) (cs : List ℕ) where
  first_none : c ≡ 0 → summing n (c ∷ cs) ≡ false
  unfolding summing positive
  first_none e = rw e

  first_over : n < c → summing n (c ∷ cs) ≡ false
  unfolding summing total
  first_over h = rw (ne_eqb (c + total cs) n (λ e. omega arith)) (and-false (positive (c ∷ cs)))

  first_fits : 0 < c → c ≤ n → summing n (c ∷ cs) ≡ summing (n - c) cs
  unfolding summing positive total
  first_fits h l = rw (lt-ltb 0 c h, eqb_less c (total cs) n l)

module _ (n : ℕ) (cs : List ℕ) (i : ℕ) (h : i < length cs) where
  pub summing_none : get_or cs i 0 ≡ 0 → summing n (drop i cs) ≡ false
  summing_none e = ap (summing n) (drop_front cs i h) ∙ first_none n (get_or cs i 0) (drop (i + 1) cs) e

  pub summing_over : n < get_or cs i 0 → summing n (drop i cs) ≡ false
  summing_over l = ap (summing n) (drop_front cs i h) ∙ first_over n (get_or cs i 0) (drop (i + 1) cs) l

  pub summing_on : 0 < get_or cs i 0 → get_or cs i 0 ≤ n
      → summing n (drop i cs) ≡ summing (n - get_or cs i 0) (drop (i + 1) cs)
  summing_on s l = ap (summing n) (drop_front cs i h) ∙ first_fits n (get_or cs i 0) (drop (i + 1) cs) s l

pub summing_end : (n : ℕ) (cs : List ℕ) (i : ℕ) → length cs ≤ i → summing n (drop i cs) ≡ eqb n 0
unfolding summing positive total
summing_end n cs i h =
    ap (summing n) (drop_of_length-le cs h)
    ∙ elim (ℕ_discrete n 0) [
      | yes e ↦ eq-eqb 0 n (sym e) ∙ sym (eq-eqb n 0 e)
      | no e ↦ ne_eqb 0 n (λ f. e (sym f)) ∙ sym (ne_eqb n 0 e)
    ]

-- ---- how far positions reach

pub next_last : (lo : ℕ) (xs : List ℕ) (k : ℕ) → length xs ≡ suc k → next lo xs ≡ get_or xs k 0 + 1
unfolding next
next_last lo [] k e = absurd (omega arith)
next_last lo (x ∷ []) zero e = refl
next_last lo (x ∷ []) (suc k) e = absurd (omega arith)
next_last lo (x ∷ (y ∷ xs)) zero e = absurd (omega arith)
next_last lo (x ∷ (y ∷ xs)) (suc k) e = next_last (x + 1) (y ∷ xs) k (omega arith)

next_raised : (b lo : ℕ) (ps : List ℕ) → next (b + lo) (raised b ps) ≡ b + next lo ps
unfolding next raised
next_raised b lo [] = refl
next_raised b lo (p ∷ ps) = ap (λ k. next k (raised b ps)) (add_assoc b p 1) ∙ next_raised b (p + 1) ps

pub next_page : (b : ℕ) (ps : List ℕ) → next b (raised b ps) ≡ b + next 0 ps
next_page b ps = rw (add-zero b) at (next_raised b 0 ps)

-- how far the elements of all pages reach above the first page's base
unfoldable pub spanned : List ℕ → List ℕ → ℕ
spanned [] ps = 0
spanned (c ∷ cs) ps = next 0 (take c ps) + spanned cs (drop c ps)

pub next_placed : (b : ℕ) (cs ps : List ℕ) → next b (placed b cs ps) ≡ b + spanned cs ps
unfolding placed spanned next
next_placed b [] ps = sym (add-zero b)
next_placed b (c ∷ cs) ps =
    let q : List ℕ = raised b (take c ps) in
    next_append b q (placed (next b q) cs (drop c ps))
    ∙ omega (arith, next_placed (next b q) cs (drop c ps), next_page b (take c ps))

module _ (cs ps : List ℕ) (i from : ℕ) (h : i < length cs) where
  abbrev c : ℕ
  c = get_or cs i 0

  pub spanned_on : 0 < c → from + c ≤ length ps → spanned (drop i cs) (drop from ps)
      ≡ get_or ps (from + c - 1) 0 + 1 + spanned (drop (i + 1) cs) (drop (from + c) ps)
  unfolding spanned
  spanned_on some within =
      let l : length (take c (drop from ps)) ≡ suc (c - 1) =
      length-take-le c (drop from ps) (rw length-drop (omega arith)) ∙ omega arith in
      let e : from + (c - 1) ≡ from + c - 1 = omega arith in
      let n : next 0 (take c (drop from ps)) ≡ get_or ps (from + c - 1) 0 + 1 =
      next_last 0 (take c (drop from ps)) (c - 1) l
      ∙ rw (get_or-take c (drop from ps) (c - 1) 0 (omega arith), get_or-drop from ps (c - 1) 0, e) in
      ap (λ l. spanned l (drop from ps)) (drop_front cs i h) ∙ rw (drop-drop c from ps, n)

pub total_on : (cs : List ℕ) (i : ℕ) → i < length cs → total (drop i cs) ≡ get_or cs i 0 + total (drop (i + 1) cs)
unfolding total
total_on cs i h = ap total (drop_front cs i h)
