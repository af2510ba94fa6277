-- The step rule and the next common page by turns, without fuel: fuel that is more
-- than the lead has pages left never runs out, and what holds by turns holds.
use mathlib.Core.Path.{◌≡◌, refl, sym, ap, ◌∙◌}
use mathlib.Core.List.{List, [], ◌∷◌}
use Prim.Native.Nat.{ℕ, zero, suc, ◌+◌, ◌<◌}
use native.Mathlib.Nat.{add-zero}
use native.Mathlib.Numerals.{add-one}
use native.Mathlib.Omega.{arith}
use lib.ListN.{length}
use Rattle.rules.specs.Seek.{Found, none, page}
use Rattle.rules.specs.Common.{moved_by, Reader, Tally, Ended, agreed, exhausted, larger}
use Rattle.rules.specs.Common.{stopped, agree, counted, nothing, rounds}
use Rattle.commonlaws.specs.Readers.{Ready, AllReady, left_in}
use Rattle.commonlaws.specs.Next.{Turn, over, again, hit, Turned, turn_of, behind_lead, turned}
use Rattle.commonlaws.specs.Next.{Next, plus, next_by, next_in, next_common, rounds_to, rounds_by}
use Rattle.commonlaws.proofs.SharedLaws.{from_le}
use Rattle.commonlaws.proofs.TurnLaws.{this, To, turned_none, turned_page, turned_later}

-- ---- the rule by turns

rounds_over : (f U : ℕ) (lead : Reader) (others : List Reader) (b : ℕ) → rounds f 0 U lead others b ≡ nothing
unfolding rounds
rounds_over zero U lead others b = refl
rounds_over (suc f) U lead others b = refl

-- once all pages are listed
pub rounds_done : (U : ℕ) (lead : Reader) (others : List Reader) (b : ℕ) → rounds_to U lead others b 0 ≡ nothing
unfolding rounds_to
rounds_done U lead others b = rounds_over (length lead.pages + 1) U lead others b

rounds_on : ℕ → ℕ → Turned → ℕ → Tally
rounds_on f U t r = rounds_by (λ d n. rounds f n U t.lead t.others d) t t.turn r

module _ (f U : ℕ) (lead : Reader) (others : List Reader) (b : ℕ) where
  -- where a page may be listed
  rounds_some : (r : ℕ) → rounds (suc f) (suc r) U lead others b ≡ rounds_on f U (turned U lead others b) (suc r)
  rounds_some r = go (this U b lead others).found refl
    where
      go : (g : Found) → (this U b lead others).found ≡ g
          → rounds (suc f) (suc r) U lead others b ≡ rounds_on f U (turned U lead others b) (suc r)
      go (none m) e =
          rw (turned_none U b lead others m e)
          (unfold rounds rounds_on rounds_by behind_lead stopped in
          rw (e, rounds) (ap (λ (n : ℕ). counted 1 n [] nothing) (sym (add-zero (this U b lead others).looks))))
      go (page c i) e = rw (turned_page U b lead others c i e) (ends (agree U c others).ended refl)
        where
          ends : (d : Ended) → (agree U c others).ended ≡ d
              → rounds (suc f) (suc r) U lead others b ≡ rounds_on f U (behind_lead lead (this U b lead others)
              (turn_of c i (agree U c others).ended) (agree U c others)) (suc r)
          ends agreed q = unfold rounds rounds_on rounds_by behind_lead moved_by turn_of in rw (q, e, rounds, q, rounds)
          ends exhausted q = unfold rounds rounds_on rounds_by behind_lead moved_by turn_of in rw (q, e, rounds, q, rounds)
          ends (larger d) q = unfold rounds rounds_on rounds_by behind_lead moved_by turn_of in rw (q, e, rounds, q, rounds)

  rounds_on_lem : (r : ℕ) → rounds (suc f) r U lead others b ≡ rounds_on f U (turned U lead others b) r
  unfolding rounds rounds_on rounds_by
  rounds_on_lem zero = refl
  rounds_on_lem (suc r) = rounds_some r

-- ---- any two amounts of fuel that are enough give the same

fuel_all : (b : ℕ) (lead : Reader) → left_in b lead < length lead.pages + 1
fuel_all b lead = omega (arith, from_le b lead.pages)

module _ (U : ℕ) (A : Type 0) (run : ℕ → Reader → List Reader → ℕ → A) (by : (ℕ → A) → Turned → Turn → A)
    (unroll : (f : ℕ) (lead : Reader) (others : List Reader) (b : ℕ)
    → let t = turned U lead others b in
    run (suc f) lead others b ≡ by (run f t.lead t.others) t t.turn)
    (alike : (p q : ℕ → A) (t : Turned) (e : Turn) → ((d : ℕ) → To e d → p d ≡ q d) → by p t e ≡ by q t e) where
  fuel_any : (f g : ℕ) (lead : Reader) (others : List Reader) (b : ℕ) → left_in b lead < f → left_in b lead < g
      → Ready U b lead → AllReady U b others → run f lead others b ≡ run g lead others b
  fuel_any zero g lead others b h l k a = absurd (omega arith)
  fuel_any (suc f) zero lead others b h l k a = absurd (omega arith)
  fuel_any (suc f) (suc g) lead others b h l k a =
      let t : Turned = turned U lead others b in
      unroll f lead others b
      ∙ alike (run f t.lead t.others) (run g t.lead t.others) t t.turn (λ d to.
      let z = turned_later U b lead others k a d to in
      fuel_any f g t.lead t.others d (omega (arith, z.fewer)) (omega (arith, z.fewer)) z.ready
      z.all_ready)
      ∙ sym (unroll g lead others b)

  -- with as much fuel as the lead has pages, and one
  unroll_all : (lead : Reader) (others : List Reader) (b : ℕ) → Ready U b lead → AllReady U b others
      → let t = turned U lead others b in
      run (length lead.pages + 1) lead others b
      ≡ by (λ d. run (length t.lead.pages + 1) t.lead t.others d) t t.turn
  unroll_all lead others b k a =
      let t : Turned = turned U lead others b in
      let n : ℕ = length lead.pages in
      let m : ℕ = length t.lead.pages + 1 in
      ap (λ (f : ℕ). run f lead others b) (add-one n)
      ∙ unroll n lead others b
      ∙ alike (run n t.lead t.others) (λ d. run m t.lead t.others d) t t.turn (λ d to.
      let z = turned_later U b lead others k a d to in
      fuel_any n m t.lead t.others d (omega (arith, z.fewer, fuel_all b lead)) (fuel_all d t.lead) z.ready
      z.all_ready)

module _ (U : ℕ) where
  next_by_alike : (p q : ℕ → Next) (t : Turned) (e : Turn) → ((d : ℕ) → To e d → p d ≡ q d) → next_by p t e ≡ next_by q t e
  unfolding next_by
  next_by_alike p q t over h = refl
  next_by_alike p q t (again d) h = ap (plus t.seeks t.looks) (h d refl)
  next_by_alike p q t (hit c i) h = refl

  rounds_by_alike : (p q : ℕ → ℕ → Tally) (t : Turned) (e : Turn) → ((d : ℕ) → To e d → p d ≡ q d)
      → rounds_by p t e ≡ rounds_by q t e
  rounds_by_alike p q t e h = λ i r. each e h r i
    where
      each : (e : Turn) → ((d : ℕ) → To e d → p d ≡ q d) → (r : ℕ) → rounds_by p t e r ≡ rounds_by q t e r
      each e h zero = unfold rounds_by in refl
      each over h (suc r) = unfold rounds_by in refl
      each (again d) h (suc r) = unfold rounds_by in ap (counted t.seeks t.looks []) (λ i. h d refl i (suc r))
      each (hit c i) h (suc r) = unfold rounds_by in
          ap (counted t.seeks t.looks (c ∷ [])) (λ j. h (c + 1) refl j r)

  rounds_unrolled : (f : ℕ) (lead : Reader) (others : List Reader) (b : ℕ)
      → let t = turned U lead others b in
      (λ (r : ℕ). rounds (suc f) r U lead others b)
      ≡ rounds_by (λ d r. rounds f r U t.lead t.others d) t t.turn
  unfolding rounds_on
  rounds_unrolled f lead others b = λ i r. rounds_on_lem f U lead others b r i

  -- the rounds that the rule allows suffice: more of them change nothing
  pub rounds_fuel : (f g : ℕ) (lead : Reader) (others : List Reader) (b : ℕ) → left_in b lead < f → left_in b lead < g
      → Ready U b lead → AllReady U b others → (r : ℕ) → rounds f r U lead others b ≡ rounds g r U lead others b
  rounds_fuel f g lead others b h l k a r =
      ap (λ (run : ℕ → Tally). run r)
      (fuel_any U (ℕ → Tally) (λ f lead others b r. rounds f r U lead others b) rounds_by rounds_unrolled rounds_by_alike
      f g lead others b h l k a)

  module _ (lead : Reader) (others : List Reader) (b : ℕ) (k : Ready U b lead) (a : AllReady U b others) where
    abbrev t : Turned
    t = turned U lead others b

    pub next_turn : next_common U lead others b ≡ next_by (next_common U t.lead t.others) t t.turn
    unfolding next_common next_in
    next_turn = unroll_all U Next (λ f. next_in f U) next_by (λ f lead others b. refl) next_by_alike lead others b k a

    pub rounds_turn : (r : ℕ)
        → rounds_to U lead others b r ≡ rounds_by (rounds_to U t.lead t.others) t t.turn r
    unfolding rounds_to
    rounds_turn r =
        ap (λ (run : ℕ → Tally). run r)
        (unroll_all U (ℕ → Tally) (λ f lead others b r. rounds f r U lead others b) rounds_by rounds_unrolled
        rounds_by_alike lead others b k a)

  -- ---- what holds of readers and a bound if it holds where a turn goes on

  module _ (P : Reader → List Reader → ℕ → Type 0)
      (step : (lead : Reader) (others : List Reader) (b : ℕ) → Ready U b lead → AllReady U b others
      → let t = turned U lead others b in
      ((d : ℕ) → To t.turn d → P t.lead t.others d) → P lead others b)
    where
      within : (f : ℕ) (lead : Reader) (others : List Reader) (b : ℕ) → left_in b lead < f → Ready U b lead
          → AllReady U b others → P lead others b
      within zero lead others b h k a = absurd (omega arith)
      within (suc f) lead others b h k a =
          let t = turned U lead others b in
          step lead others b k a (λ d to.
          let z = turned_later U b lead others k a d to in
          within f t.lead t.others d (omega (arith, z.fewer)) z.ready z.all_ready)

      pub by_turns : (lead : Reader) (others : List Reader) (b : ℕ) → Ready U b lead → AllReady U b others
          → P lead others b
      by_turns lead others b k a = within (suc (left_in b lead)) lead others b (omega arith) k a
