-- Laws of the order of lists in their slots: the lead, those before it, those behind it.
use mathlib.Core.Path.{◌≡◌, refl, ap, ap₂, ◌∙◌}
use mathlib.Core.List.{List, [], ◌∷◌, ◌++◌}
use Prim.Native.Nat.{ℕ, zero, suc, ◌+◌, ◌-◌, ◌≤◌, ◌<◌}
use native.Mathlib.Decide.{dec_lt, ℕ_discrete}
use native.Mathlib.Omega.{arith}
use borrow.Author.Tests.{eq-eqb, ne_eqb, le-leb, lt-leb, lt-ltb, le-ltb}
use lib.ListN.{get_or, take, drop}
use lib.Seq.{take_at, drop_at, get_or_at}
use Rattle.rules.specs.Common.{lead_of, lead_pages, other_pages}
use Rattle.querylaws.specs.Lists.{span}
use Rattle.querylaws.proofs.SpanLaws.{length_span, span_cons, span_split, span_same}
use Rattle.openlists.specs.Places.{source_of, slot_of}

-- ---- parts of a span

module _ {A : Type 0} (f : ℕ → A) where
  -- the first m of k, and the others
  span_parts : (k m : ℕ) → m ≤ k → span f 0 k ≡ span f 0 m ++ span f m (k - m)
  span_parts k m h =
      let z : 0 + m ≡ m = omega arith in
      let e : m + (k - m) ≡ k = omega arith in
      rw (z, e) at (span_split f m 0 (k - m))

  span_take : (k m : ℕ) → m ≤ k → take m (span f 0 k) ≡ span f 0 m
  span_take k m h = rw (span_parts k m h) (take_at (span f 0 m) (span f m (k - m)) m (length_span f 0 m))

  span_drop : (k m : ℕ) → m ≤ k → drop m (span f 0 k) ≡ span f m (k - m)
  span_drop k m h = rw (span_parts k m h) (drop_at (span f 0 m) (span f m (k - m)) m (length_span f 0 m))

  pub span_at : (k m : ℕ) (d : A) → m < k → get_or (span f 0 k) m d ≡ f m
  span_at k m d h =
      let l : m ≤ k = omega arith in
      rw (span_parts k m l, span_cons f m k h)
      (get_or_at (span f 0 m) (f m) (span f (m + 1) (k - (m + 1))) d m (length_span f 0 m))

  span_shift : (g : ℕ → A) (n i : ℕ) → ((j : ℕ) → i ≤ j → j < i + n → f (j + 1) ≡ g j) → span f (i + 1) n ≡ span g i n
  unfolding span
  span_shift g zero i h = refl
  span_shift g (suc n) i h =
      ap₂ ◌∷◌ (h i (omega arith) (omega arith)) (span_shift g n (i + 1) (λ j l m. h j (omega arith) (omega arith)))

-- ---- the sources

source_lead : (lead : ℕ) → source_of lead 0 ≡ lead
unfolding source_of
source_lead lead = refl

source_before : (lead t : ℕ) → t < lead → source_of lead (t + 1) ≡ t
unfolding source_of
source_before lead t h =
    let e : t + 1 - 1 ≡ t = omega arith in
    rw (ne_eqb (t + 1) 0 (λ z. omega arith), le-leb (t + 1) lead (omega arith), e)

source_behind : (lead t : ℕ) → lead < t → source_of lead t ≡ t
unfolding source_of
source_behind lead t h = rw (ne_eqb t 0 (λ z. omega arith), lt-leb t lead h)

pub source_lt : (lead t k : ℕ) → lead < k → t < k → source_of lead t < k
unfolding source_of
source_lt lead zero k h l = h
source_lt lead (suc t) k h l =
    elim (dec_lt lead (suc t)) [
      | yes g ↦ rw (source_behind lead (suc t) g) l
      | no g ↦
          let e : suc t ≡ t + 1 = omega arith in
          rw (e, source_before lead t (omega arith)) (omega arith)
    ]

-- ---- the slots, where the sources stand

slot_lead : (lead : ℕ) → slot_of lead lead ≡ 0
unfolding slot_of
slot_lead lead = rw (eq-eqb lead lead refl)

slot_before : (lead i : ℕ) → i < lead → slot_of lead i ≡ i + 1
unfolding slot_of
slot_before lead i h = rw (ne_eqb i lead (λ z. omega arith), lt-ltb i lead h)

slot_behind : (lead i : ℕ) → lead < i → slot_of lead i ≡ i
unfolding slot_of
slot_behind lead i h = rw (ne_eqb i lead (λ z. omega arith), le-ltb i lead (omega arith))

pub slot_lt : (lead i k : ℕ) → lead < k → i < k → slot_of lead i < k
slot_lt lead i k h l =
    elim (ℕ_discrete i lead) [
      | yes e ↦ rw (e, slot_lead lead) (omega arith)
      | no e ↦ elim (dec_lt lead i) [
        | yes g ↦ rw (slot_behind lead i g) l
        | no g ↦ rw (slot_before lead i (omega arith)) (omega arith)
      ]
    ]

pub source_slot : (lead i : ℕ) → source_of lead (slot_of lead i) ≡ i
source_slot lead i =
    elim (ℕ_discrete i lead) [
      | yes e ↦ rw (e, slot_lead lead) (source_lead lead)
      | no e ↦ elim (dec_lt lead i) [
        | yes g ↦ rw (slot_behind lead i g) (source_behind lead i g)
        | no g ↦ rw (slot_before lead i (omega arith)) (source_before lead i (omega arith))
      ]
    ]

pub slot_source : (lead t : ℕ) → slot_of lead (source_of lead t) ≡ t
slot_source lead zero = rw (source_lead lead) (slot_lead lead)
slot_source lead (suc t) =
    elim (dec_lt lead (suc t)) [
      | yes g ↦ rw (source_behind lead (suc t) g) (slot_behind lead (suc t) g)
      | no g ↦
          let e : suc t ≡ t + 1 = omega arith in
          rw (e, source_before lead t (omega arith)) (slot_before lead t (omega arith))
    ]

-- lists in the order of their sources: the lead, and the others in their order
pub source_order : (f : ℕ → List ℕ) (k lead : ℕ) → lead < k → lead ≡ lead_of (span f 0 k)
    → span (λ t. f (source_of lead t)) 0 k ≡ lead_pages (span f 0 k) ∷ other_pages (span f 0 k)
unfolding lead_pages other_pages
source_order f k lead h e =
    let g : ℕ → List ℕ = λ t. f (source_of lead t) in
    let z : k - 0 ≡ k = omega arith in
    let n : lead + (k - (lead + 1)) ≡ k - 1 = omega arith in
    let m : 1 + lead ≡ lead + 1 = omega arith in
    let first = rw z at (span_cons g 0 k (omega arith)) in
    let others = rw (n, m) at (span_split g lead 1 (k - (lead + 1))) in
    let before = span_shift g f lead 0 (λ j l l'. ap f (source_before lead j (omega arith))) in
    let behind = span_same g f (k - (lead + 1)) (lead + 1) (λ j l l'. ap f (source_behind lead j (omega arith))) in
    let within : lead ≤ k = omega arith in
    let next : lead + 1 ≤ k = omega arith in
    rw (← e, span_at f k lead [] h, span_take f k lead within, span_drop f k (lead + 1) next)
    (first ∙ ap₂ ◌∷◌ (ap f (source_lead lead)) (others ∙ rw (before, behind)))
