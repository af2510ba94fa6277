-- Laws of positions that do not rise: they rise within each page exactly when they fall only from one page to the next.
use mathlib.Core.Bool.{true, ◌&&◌}
use mathlib.Core.Path.{◌≡◌, refl, sym, ap, ◌∙◌}
use mathlib.Core.List.{List, [], ◌∷◌}
use Prim.Native.Nat.{ℕ, zero, suc, ◌+◌, ◌-◌, ◌≤◌, ◌<◌}
use native.Mathlib.Nat.{zero-add, add-zero}
use native.Mathlib.Decide.{dec_lt, ℕ_discrete}
use native.Mathlib.Omega.{arith}
use borrow.Author.Tests.{le-leb, lt-leb, eq-eqb, ne_eqb}
use lib.Dec.{eqb}
use lib.ListN.{length, get_or, take, drop}
use lib.Seq.{drop-cons, drop-drop}
use Rattle.rules.specs.Term.{total, positive, in_order, in_order_by_page}
use Rattle.termlaws.proofs.SumLaws.{positive_parts}
use Rattle.filllaws.proofs.RiseLaws.{drop_front}
use Rattle.wordlaws.specs.Reach.{fall_at, falls_in}

-- ---- one element

module _ (ps : List ℕ) (i : ℕ) where
  pub fall_none : get_or ps i 0 < get_or ps (suc i) 0 → fall_at ps (suc i) ≡ 0
  unfolding fall_at
  fall_none h = rw (lt-leb (get_or ps (suc i) 0) (get_or ps i 0) h)

  pub fall_one : get_or ps (suc i) 0 ≤ get_or ps i 0 → fall_at ps (suc i) ≡ 1
  unfolding fall_at
  fall_one h = rw (le-leb (get_or ps (suc i) 0) (get_or ps i 0) h)

pub fall_first : (ps : List ℕ) → fall_at ps 0 ≡ 0
unfolding fall_at
fall_first ps = refl

-- ---- some of them

pub falls_none : (ps : List ℕ) (i : ℕ) → falls_in ps i 0 ≡ 0
unfolding falls_in
falls_none ps i = refl

pub falls_on : (ps : List ℕ) (i k : ℕ) → 0 < k → falls_in ps i k ≡ fall_at ps i + falls_in ps (suc i) (k - 1)
unfolding falls_in
falls_on ps i zero h = absurd (omega arith)
falls_on ps i (suc k) h =
    let e : suc k - 1 ≡ k = omega arith in
    rw e

falls_split : (ps : List ℕ) (i j k : ℕ) → falls_in ps i (j + k) ≡ falls_in ps i j + falls_in ps (i + j) k
unfolding falls_in
falls_split ps i zero k =
    let e : 0 + k ≡ k = omega arith in
    rw (e, add-zero) (omega (arith, falls_none ps i))
falls_split ps i (suc j) k =
    let e : suc j + k ≡ suc (j + k) = omega arith in
    let f : suc i + j ≡ i + suc j = omega arith in
    rw (e, ← f) (omega (arith, falls_split ps (suc i) j k))

-- ---- one page

-- behind element i
order_falls : (ps : List ℕ) (i k : ℕ) → suc i + k ≤ length ps
    → in_order (get_or ps i 0 + 1) (take k (drop (suc i) ps)) ≡ eqb (falls_in ps (suc i) k) 0
unfolding in_order falls_in
order_falls ps i zero h = refl
order_falls ps i (suc k) h =
    ap (λ (l : List ℕ). in_order (get_or ps i 0 + 1) (take (suc k) l)) (drop-cons ps (suc i) 0 (omega arith))
    ∙ elim (dec_lt (get_or ps i 0) (get_or ps (suc i) 0)) [
      | yes l ↦
          rw (le-leb (get_or ps i 0 + 1) (get_or ps (suc i) 0) (omega arith), fall_none ps i l, zero-add)
          (order_falls ps (suc i) k (omega arith))
      | no l ↦
          rw (lt-leb (get_or ps i 0 + 1) (get_or ps (suc i) 0) (omega arith), fall_one ps i (omega arith))
          (sym (ne_eqb (1 + falls_in ps (suc (suc i)) k) 0 (λ e. omega arith)))
    ]

page_falls : (ps : List ℕ) (i c : ℕ) → 0 < c → i + c ≤ length ps
    → in_order 0 (take c (drop i ps)) ≡ eqb (falls_in ps (suc i) (c - 1)) 0
unfolding in_order
page_falls ps i zero s h = absurd (omega arith)
page_falls ps i (suc k) s h =
    let e : suc k - 1 ≡ k = omega arith in
    ap (λ (l : List ℕ). in_order 0 (take (suc k) l)) (drop-cons ps i 0 (omega arith))
    ∙ rw (le-leb 0 (get_or ps i 0) (omega arith), e) (order_falls ps i k (omega arith))

-- ---- all pages

-- the pages whose first position does not rise above the one before it; the first page starts at position i
unfoldable pub seams : ℕ → List ℕ → List ℕ → ℕ
seams i [] ps = 0
seams i (c ∷ cs) ps = fall_at ps i + seams (i + c) cs ps

pub seams_on : (j : ℕ) (cs ps : List ℕ) (i : ℕ) → i < length cs
    → seams j (drop i cs) ps ≡ fall_at ps j + seams (j + get_or cs i 0) (drop (i + 1) cs) ps
unfolding seams
seams_on j cs ps i h = ap (λ (l : List ℕ). seams j l ps) (drop_front cs i h)

pub seams_none : (j : ℕ) (ps : List ℕ) → seams j [] ps ≡ 0
unfolding seams
seams_none j ps = refl

seams_le : (i : ℕ) (cs ps : List ℕ) → positive cs ≡ true → seams i cs ps ≤ falls_in ps i (total cs)
unfolding seams total
seams_le i [] ps p = omega arith
seams_le i (c ∷ cs) ps p =
    let t = positive_parts c cs p in
    omega (arith, falls_split ps i c (total cs), falls_on ps i c t.0, seams_le (i + c) cs ps t.1)

eqb_parts : (a w f s : ℕ) → s ≤ f → eqb w 0 && eqb f s ≡ eqb (a + w + f) (a + s)
eqb_parts a w f s h =
    elim (ℕ_discrete w 0) [
      | yes e ↦ elim (ℕ_discrete f s) [
        | yes g ↦ rw (eq-eqb w 0 e, eq-eqb f s g) (sym (eq-eqb (a + w + f) (a + s) (omega arith)))
        | no g ↦ rw (eq-eqb w 0 e, ne_eqb f s g) (sym (ne_eqb (a + w + f) (a + s) (λ q. g (omega arith))))
      ]
      | no e ↦ rw (ne_eqb w 0 e) (sym (ne_eqb (a + w + f) (a + s) (λ q. e (omega arith))))
    ]

pub pages_in_order : (i : ℕ) (cs ps : List ℕ) → positive cs ≡ true → i + total cs ≡ length ps
    → in_order_by_page cs (drop i ps) ≡ eqb (falls_in ps i (total cs)) (seams i cs ps)
unfolding in_order_by_page total seams
pages_in_order i [] ps p e = sym (eq-eqb (falls_in ps i 0) 0 (falls_none ps i))
pages_in_order i (c ∷ cs) ps p e =
    let t = positive_parts c cs p in
    rw (
      drop-drop c i ps,
      page_falls ps i c t.0 (omega arith),
      pages_in_order (i + c) cs ps t.1 (omega arith),
      falls_split ps i c (total cs),
      falls_on ps i c t.0,
    )
    (eqb_parts (fall_at ps i) (falls_in ps (suc i) (c - 1)) (falls_in ps (i + c) (total cs)) (seams (i + c) cs ps)
    (seams_le (i + c) cs ps t.1))
