-- Of all places of accepted lists with one U: listing from the opened lists is the step rule on the lists in the question's
-- order.
use mathlib.Core.Bool.{true}
use mathlib.Core.Path.{◌≡◌, refl, sym, ap, ap₂, ◌∙◌}
use mathlib.Core.List.{List, ◌∷◌}
use Prim.Native.Nat.{ℕ, zero, suc, ◌+◌, ◌≤◌, ◌<◌}
use native.Mathlib.Omega.{arith}
use lib.ListN.{length}
use Rattle.rules.specs.List.{rising, Form, form_of}
use Rattle.rules.specs.ReadList.{list_u, form_at}
use Rattle.rules.specs.Seek.{fresh}
use Rattle.rules.specs.Common.{Reader, reader, readers_of, common_from}
use Rattle.maplaws.proofs.Theorems.{valid_rising, valid_length}
use Rattle.commonlaws.specs.Readers.{Rise}
use Rattle.commonlaws.specs.Next.{fresh_lead, fresh_others}
use Rattle.commonlaws.proofs.CommonLaws.{common_from_lem}
use Rattle.querylaws.specs.Lists.{span, form_in, pages_at, pages_in}
use Rattle.querylaws.specs.Listings.{fresh_at, readers_in, rule_on, rule_in}
use Rattle.querylaws.proofs.SpanLaws.{span_same}
use Rattle.openlists.specs.Places.{place_part, place_pages, placed_in, Places, Alike, Edited, Opened}

span_rise : (U : ℕ) (f : ℕ → List ℕ) (n i : ℕ) → ((j : ℕ) → i ≤ j → j < i + n → rising 0 U (f j) ≡ true)
    → Rise U (span f i n)
unfolding span
span_rise U f zero i h = tt
span_rise U f (suc n) i h =
    (h i (omega arith) (omega arith), span_rise U f n (i + 1) (λ j l m. h j (omega arith) (omega arith)))

span_readers : (v U : ℕ) (f : ℕ → List ℕ) (n i : ℕ) → span (λ j. reader v U (f j)) i n ≡ readers_of v U (span f i n)
unfolding span readers_of
span_readers v U f zero i = refl
span_readers v U f (suc n) i = ap (λ (l : List Reader). reader v U (f i) ∷ l) (span_readers v U f n (i + 1))

module _ (s ps : List ℕ) (k : ℕ) (p : Places s ps k) (a : Alike s ps k) where
  pub placed_rise : Rise (list_u (place_part s ps 0)) (placed_in s ps k)
  unfolding placed_in place_pages
  placed_rise = span_rise (list_u (place_part s ps 0)) (place_pages s ps) k 0 (λ j l h.
      let o = p.each j (omega arith) in
      rw (a j (omega arith)) at (valid_rising (form_at (place_part s ps j)) (place_part s ps j) o.accepted))

  module _ (v : ℕ) (e : Edited v s ps k) (r : List ℕ) (o : Opened s ps k r) where
    abbrev U : ℕ
    U = list_u (place_part s ps 0)

    -- each list is stored in the form that the version gives it
    slot_form : (i : ℕ) → i < k → form_in s r i ≡ form_of v U (length (pages_at s r i))
    unfolding form_in pages_at
    slot_form i h =
        let x = o.source i h in
        let part : List ℕ = place_part s ps x.0 in
        let n = valid_length (form_at part) part (p.each x.0 x.1).accepted in
        rw x.2 (e x.0 x.1 ∙ ap₂ (form_of v) (a x.0 x.1) (sym n))

    slot_reader : (i : ℕ) → i < k → fresh_at s r i ≡ reader v U (pages_at s r i)
    unfolding reader
    slot_reader i h = ap (λ (f : Form). record { form = f; pages = pages_at s r i; cursor = fresh }) (slot_form i h)

    readers_same : readers_in s r k ≡ readers_of v U (pages_in s r k)
    unfolding readers_in pages_in
    readers_same =
        span_same (fresh_at s r) (λ i. reader v U (pages_at s r i)) k 0 (λ j l h. slot_reader j (omega arith))
        ∙ span_readers v U (pages_at s r) k 0

    -- the rule on the lists in the question's order
    pub opened_common : (b n : ℕ) → rule_in s r k b n ≡ common_from v (list_u (place_part s ps 0)) (placed_in s ps k) b n
    unfolding rule_on fresh_lead fresh_others readers_of
    opened_common b n = rw (o.bound, readers_same, o.pages, common_from_lem v U (placed_in s ps k) b n)
