-- Laws of counts and of their sums, less 1: the sums rise to the total, and the gaps between them are the counts again.
use mathlib.Core.Bool.{true}
use mathlib.Core.Path.{◌≡◌, refl, sym, ap, ◌∙◌}
use mathlib.Core.List.{List, [], ◌∷◌}
use Prim.Native.Nat.{ℕ, ◌+◌, ◌-◌, ◌<◌}
use native.Mathlib.Nat.{add-zero}
use native.Mathlib.Omega.{arith}
use borrow.Author.Tests.{lt-ltb, ltb-true}
use lib.Dec.{ltb}
use lib.ListN.{length}
use Rattle.rules.specs.List.{rising}
use Rattle.rules.specs.Term.{total, sums, next, positive, in_order}
use Rattle.rules.specs.ReadTerm.{gaps}
use Rattle.listlaws.proofs.RisingLaws.{and_parts}
use Rattle.termlaws.proofs.OrderLaws.{order_parts, order_cons, order_rising}

pub positive_parts : (c : ℕ) (cs : List ℕ) → positive (c ∷ cs) ≡ true → (0 < c) × (positive cs ≡ true)
unfolding positive
positive_parts c cs e =
    let p = and_parts (ltb 0 c) (positive cs) e in
    (ltb-true 0 c p.0, p.1)

-- ---- sums

pub length_sums : (s : ℕ) (cs : List ℕ) → length (sums s cs) ≡ length cs
unfolding sums
length_sums s [] = refl
length_sums s (c ∷ cs) = rw (length_sums (s + c) cs)

pub sums_order : (s : ℕ) (cs : List ℕ) → positive cs ≡ true → in_order s (sums s cs) ≡ true
unfolding sums in_order
sums_order s [] p = refl
sums_order s (c ∷ cs) p =
    let q = positive_parts c cs p in
    let e : s + c - 1 + 1 ≡ s + c = omega (arith, q.0) in
    order_cons s (s + c - 1) (sums (s + c) cs) (omega (arith, q.0)) (rw e (sums_order (s + c) cs q.1))

pub next_sums : (s : ℕ) (cs : List ℕ) → positive cs ≡ true → next s (sums s cs) ≡ s + total cs
unfolding sums next total
next_sums s [] p = sym (add-zero s)
next_sums s (c ∷ cs) p =
    let q = positive_parts c cs p in
    let e : s + c - 1 + 1 ≡ s + c = omega (arith, q.0) in
    ap (λ (k : ℕ). next k (sums (s + c) cs)) e ∙ omega (arith, next_sums (s + c) cs q.1)

pub sums_rising : (cs : List ℕ) → positive cs ≡ true → rising 0 (total cs) (sums 0 cs) ≡ true
sums_rising cs p = order_rising 0 (total cs) (sums 0 cs) (sums_order 0 cs p) (omega (arith, next_sums 0 cs p))

pub gaps_sums : (s : ℕ) (cs : List ℕ) → positive cs ≡ true → gaps s (sums s cs) ≡ cs
unfolding sums gaps
gaps_sums s [] p = refl
gaps_sums s (c ∷ cs) p =
    let q = positive_parts c cs p in
    let e : s + c - 1 + 1 ≡ s + c = omega (arith, q.0) in
    let g : s + c - s ≡ c = omega arith in
    rw (e, g, gaps_sums (s + c) cs q.1)

-- ---- gaps

pub length_gaps : (s : ℕ) (es : List ℕ) → length (gaps s es) ≡ length es
unfolding gaps
length_gaps s [] = refl
length_gaps s (e ∷ es) = rw (length_gaps (e + 1) es)

pub sums_gaps : (s : ℕ) (es : List ℕ) → in_order s es ≡ true → sums s (gaps s es) ≡ es
unfolding sums gaps
sums_gaps s [] p = refl
sums_gaps s (e ∷ es) p =
    let q = order_parts s e es p in
    let m : s + (e + 1 - s) ≡ e + 1 = omega (arith, q.0) in
    let k : e + 1 - 1 ≡ e = omega arith in
    rw (m, k, sums_gaps (e + 1) es q.1)

pub gaps_positive : (s : ℕ) (es : List ℕ) → in_order s es ≡ true → positive (gaps s es) ≡ true
unfolding gaps positive
gaps_positive s [] p = refl
gaps_positive s (e ∷ es) p =
    let q = order_parts s e es p in
    let m : 0 < e + 1 - s = omega (arith, q.0) in
    rw (lt-ltb 0 (e + 1 - s) m) (gaps_positive (e + 1) es q.1)

pub total_gaps : (s : ℕ) (es : List ℕ) → in_order s es ≡ true → s + total (gaps s es) ≡ next s es
unfolding gaps next total
total_gaps s [] p = add-zero s
total_gaps s (e ∷ es) p =
    let q = order_parts s e es p in
    omega (arith, q.0, total_gaps (e + 1) es q.1)
