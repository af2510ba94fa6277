-- What the step rule lists from a bound on, by plain reading, and the bounds on its seeks and looks.
use mathlib.Core.Path.{refl, sym, ap, ◌∙◌}
use mathlib.Core.List.{List, ◌∷◌}
use Prim.Native.Nat.{ℕ, zero, suc, ◌+◌}
use native.Mathlib.Omega.{arith}
use lib.ListN.{take}
use Rattle.rules.specs.Common.{Reader, Tally, counted, nothing}
use Rattle.commonlaws.specs.Readers.{pages_of, Ready, AllReady, reached_by}
use Rattle.commonlaws.specs.Next.{Turn, over, again, hit, Turned, turned, rounds_to, rounds_by}
use Rattle.commonlaws.specs.Outcomes.{Carried, Goes, Tallied}
use Rattle.commonlaws.proofs.TurnLaws.{To, reached_words, turned_carried, turned_goes}
use Rattle.commonlaws.proofs.FuelLaws.{rounds_turn, by_turns}
use Rattle.commonlaws.proofs.NextLaws.{same_length}

module _ (U : ℕ) where
  abbrev pub TalliedFrom : Reader → List Reader → ℕ → Type 0
  TalliedFrom lead others b =
      (r : ℕ) → Tallied U b r lead others (reached_by U (lead ∷ others)) (rounds_to U lead others b r)

  -- the tally of other readers of the same lists
  carried_tally : (b r : ℕ) (lead : Reader) (others : List Reader) (lead' : Reader) (others' : List Reader)
      (s l reach : ℕ) (t : Tally)
      → Carried U lead others lead' others' s l → Tallied U b r lead' others' reach t
      → Tallied U b r lead others reach t
  carried_tally b r lead others lead' others' s l reach t w m = record {
    listed = rw (w.lead_pages_lem, w.pages) at m.listed;
    seeks = rw (w.lead_pages_lem, same_length U lead others lead' others' w.lead_pages_lem w.pages) at m.seeks;
    looks = omega (arith, w.words, m.looks);
  }

  tally_step : (lead : Reader) (others : List Reader) (b : ℕ) → Ready U b lead → AllReady U b others
      → ((d : ℕ) → To (turned U lead others b).turn d
      → TalliedFrom (turned U lead others b).lead (turned U lead others b).others d)
      → TalliedFrom lead others b
  tally_step lead others b k a ih r =
      rw (rounds_turn U lead others b k a r)
      (go t.turn (turned_goes U b lead others k a) (λ d to n. carried_tally d n lead others t.lead t.others
      t.seeks t.looks (reached_by U (t.lead ∷ t.others)) (rest d n) w (ih d to n)) r)
    where
      t : Turned
      t = turned U lead others b

      rest : ℕ → ℕ → Tally
      rest = rounds_to U t.lead t.others

      w : Carried U lead others t.lead t.others t.seeks t.looks
      w = turned_carried U b lead others k a

      go : (e : Turn) → Goes U b lead others t e
          → ((d : ℕ) → To e d → (n : ℕ) → Tallied U d n lead others (reached_by U (t.lead ∷ t.others)) (rest d n))
          → (n : ℕ) → Tallied U b n lead others (reached_by U (lead ∷ others)) (rounds_by rest t e n)
      go e o ih zero = unfold rounds_by nothing in record {
        listed = refl;
        seeks = omega arith;
        looks = omega (arith, reached_words U b (lead ∷ others) (k, a));
      }
      go over o ih (suc n) = unfold rounds_by counted nothing in record {
        listed = ap (take (suc n)) (sym o.shared);
        seeks = omega (arith, o.few);
        looks = omega (arith, w.paid, w.reach);
      }
      go (again d) o ih (suc n) = unfold rounds_by counted in record {
        listed = (ih d refl (suc n)).listed ∙ ap (take (suc n)) (sym o.shared);
        seeks = omega (arith, (ih d refl (suc n)).seeks, o.few);
        looks = omega (arith, w.paid, (ih d refl (suc n)).looks);
      }
      go (hit c i) o ih (suc n) = unfold rounds_by counted in record {
        listed = ap (λ (l : List ℕ). c ∷ l) (ih (c + 1) refl n).listed ∙ ap (take (suc n)) (sym o.shared);
        seeks = omega (arith, (ih (c + 1) refl n).seeks, o.few);
        looks = omega (arith, w.paid, (ih (c + 1) refl n).looks);
      }

  pub rounds_tallied : (lead : Reader) (others : List Reader) (b : ℕ) → Ready U b lead → AllReady U b others
      → TalliedFrom lead others b
  rounds_tallied = by_turns U TalliedFrom tally_step
