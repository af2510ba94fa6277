-- The premises of ScreenSentences.antt can be met: every input has a result that the promise allows, and of every card
-- screens can be taken until one is not full. Screens by their numbers are rows of the table (crates/rules).
use mathlib.Core.Bool.{true}
use mathlib.Core.Logic.{inl, inr}
use mathlib.Core.Path.{◌≡◌, refl, ap, ◌∙◌}
use mathlib.Core.List.{List, [], ◌∷◌}
use Prim.Native.Nat.{ℕ, zero, suc, ◌≤◌, ◌<◌}
use native.Mathlib.Omega.{arith}
use lib.ListN.{length, replicate, length-append, length-replicate, length-take}
use Rattle.rules.specs.Refusal.{number}
use Rattle.rules.specs.Limits.{screen_limit}
use Rattle.rules.specs.Term.{Word}
use Rattle.rules.specs.Index.{card, valid_card}
use Rattle.rules.specs.Plain.{at_least, common_pages}
use Rattle.rules.specs.Questions.{lists_in, all_below}
use Rattle.rules.specs.Screen.{screen_pages, Screening, screen}
use Rattle.cardlaws.proofs.Theorems.{card_accepted}
use Rattle.telling.specs.declared.HostScreened.{HostScreened}
use Rattle.hostlaws.specs.Host.{HostScreenShown}
use Rattle.demands.specs.Asking.{pages_named}
use Rattle.demands.specs.Screens.{Shot, Took, shows, Full}
use Rattle.demands.proofs.KindLaws.{states_T}
use Rattle.demands.proofs.ScreenLaws.{good_screen}
use Rattle.demands.proofs.ScreenSentences.{screen_accepted, ends, shot_full}

-- what the definition answers
abbrev answer_of : Screening → HostScreened
answer_of m = record { refusal = number m.refusal; found = m.found; full = m.full; next = m.next }

pub screened_met : (s : List ℕ) (b r : ℕ) (ts pages counts : List ℕ) → (x : HostScreened) × (pages' : List ℕ)
    × (counts' : List ℕ) × HostScreenShown s b r ts pages counts x pages' counts'
screened_met s b r ts pages counts =
    let m : Screening = screen s b r ts pages counts in
    (answer_of m, m.pages, m.counts, refl)

-- ---- until one is not full

module _ (ver N : ℕ) (ts : List Word) (v : valid_card ver N ts ≡ true)
    (terms : List ℕ) (some : 1 ≤ length terms) (few : length terms ≤ 8) (below : all_below (length ts) terms ≡ true)
    (r : ℕ) (least : 1 ≤ r) (most : r ≤ screen_limit) where
  abbrev C : List ℕ
  C = common_pages (pages_named ts terms)

  -- the screen from b on, in rooms of r numbers and of two
  shot : ℕ → Shot
  shot b =
      let m : Screening = screen (card ver N ts) b r terms (replicate r 0) (replicate 2 0) in
      record {
        pages = replicate r 0;
        counts = replicate 2 0;
        answer = answer_of m;
        pages_after = m.pages;
        counts_after = m.counts;
      }

  shot_took : (b : ℕ) → Took (card ver N ts) terms r b (shot b)
  unfolding shot screen_pages
  shot_took b =
      let x : Shot = shot b in
      let pages = at_least b (common_pages (lists_in (card ver N ts) terms)) in (
        refl,
        (screen_accepted (card ver N ts) b r terms x.pages x.counts x.answer x.pages_after x.counts_after
            refl).1 (
              card_accepted ver N ts v,
              rw (states_T ver N ts v) (good_screen (length ts) r terms least most some few below),
              omega (arith, length-take r pages, length-replicate {A = ℕ} r 0),
              omega arith,
            ),
      )

  taken : (f b : ℕ) → length (at_least b C) < f → (xs : List Shot) × (c : ℕ) × (y : Shot)
      × Full (card ver N ts) terms r b xs c × Took (card ver N ts) terms r c y × (y.answer.full ≡ 0)
  taken zero b h = absurd (omega (arith, h))
  taken (suc f) b h =
      let x : Shot = shot b in
      let t = shot_took b in
      elim (ends ver N ts v terms some few below r least most b x t) [
        | inr e ↦ ([], b, x, refl, t, e.1)
        | inl e ↦
            let w = shot_full ver N ts v terms some few below r least most b x t e.1 in
            let l = ap length w.1 ∙ length-append (shows x) (at_least x.answer.next C) in
            let g = taken f x.answer.next (omega (arith, h, l, w.0, least)) in
            (x ∷ g.0, g.1, g.2, (t, e.1, g.3), g.4, g.5)
      ]

  pub screens_taken : (b : ℕ) → (xs : List Shot) × (c : ℕ) × (y : Shot)
      × Full (card ver N ts) terms r b xs c × Took (card ver N ts) terms r c y × (y.answer.full ≡ 0)
  screens_taken b = taken (suc (length (at_least b C))) b (omega arith)
