-- The next common page seek by seek: one law for each way on from a seek of the lead and from a seek of another.
use mathlib.Core.Path.{◌≡◌, refl, sym, ap, ◌∙◌}
use mathlib.Core.List.{List, [], ◌∷◌, ◌++◌, append_assoc, append-nil}
use Prim.Native.Nat.{ℕ, ◌+◌, ◌≤◌, ◌<◌}
use native.Mathlib.Nat.{add-zero, add_assoc, add_comm}
use lib.ListN.{length}
use Rattle.rules.specs.Seek.{none, page, Sought}
use Rattle.rules.specs.Common.{moved_by, seek_by, Reader, Round, before, stopped, agree}
use Rattle.commonlaws.specs.Readers.{Ready, AllReady, moved}
use Rattle.commonlaws.specs.Next.{Turn, over, again, hit, Turned, turn_of, behind_lead, Next}
use Rattle.commonlaws.specs.Next.{ending, stop, plus, next_by, next_common, mid_turn, midway}
use Rattle.commonlaws.proofs.AgreeLaws.{agree_none, agree_larger, agree_same}
use Rattle.commonlaws.proofs.TurnLaws.{turned_none, turned_page}
use Rattle.commonlaws.proofs.FuelLaws.{next_turn}

pub plus_plus : (s l s' l' : ℕ) (n : Next) → plus s l (plus s' l' n) ≡ plus (s + s') (l + l') n
unfolding plus
plus_plus s l s' l' n = rw (← add_assoc s s' n.seeks, ← add_assoc l l' n.looks)

-- a turn with seeks and looks more in front
abbrev more : ℕ → ℕ → Turned → Turned
more s l t = record { turn = t.turn; lead = t.lead; others = t.others; seeks = s + t.seeks; looks = l + t.looks }

next_by_more : (s l : ℕ) (go : ℕ → Next) (t : Turned) (e : Turn) → next_by go (more s l t) e ≡ plus s l (next_by go t e)
next_by_more s l go t over = unfold next_by ending plus in refl
next_by_more s l go t (hit c i) = unfold next_by ending plus in refl
next_by_more s l go t (again d) = unfold next_by in sym (plus_plus s l t.seeks t.looks (go d))

-- ---- the lead is sought for b

module _ (U : ℕ) (lead : Reader) (others : List Reader) (b : ℕ) (k : Ready U b lead) (a : AllReady U b others) where
  abbrev first : Sought
  first = seek_by U lead b

  pub next_none : (m : ℕ) → first.found ≡ none m → next_common U lead others b
      ≡ plus 1 first.looks (stop (none (length lead.pages)) (moved U b lead) others)
  next_none m e = next_turn U lead others b k a
      ∙ rw (turned_none U b lead others m e) (unfold next_by behind_lead ending stopped plus stop moved moved_by in refl)

  pub next_page : (c i : ℕ) → first.found ≡ page c i
      → next_common U lead others b ≡ plus 1 first.looks (midway U (moved U b lead) c i [] others)
  next_page c i e =
      next_turn U lead others b k a ∙ rw (turned_page U b lead others c i e) (unfold midway mid_turn behind_lead moved in
      next_by_more 1 first.looks (next_common U (moved U b lead) (agree U c others).readers)
      (mid_turn (moved U b lead) c i [] (agree U c others)) (turn_of c i (agree U c others).ended))

-- ---- the others are sought for c

module _ (U : ℕ) (lead : Reader) (c i : ℕ) (done : List Reader) where
  pub midway_end : midway U lead c i done [] ≡ stop (page c i) lead done
  midway_end = unfold midway mid_turn agree stopped turn_of next_by ending stop in rw append-nil

  module _ (r : Reader) (rest : List Reader) where
    abbrev this : Sought
    this = seek_by U r c

    pub midway_none : (m : ℕ) → this.found ≡ none m → midway U lead c i done (r ∷ rest)
        ≡ plus 1 this.looks (stop (none (length lead.pages)) lead (done ++ moved U c r ∷ rest))
    midway_none m e = unfold midway mid_turn in
        rw (agree_none U c r rest m e) (unfold before stopped turn_of next_by ending plus stop moved in refl)

    pub midway_larger : (d j : ℕ) → this.found ≡ page d j → c < d
        → midway U lead c i done (r ∷ rest) ≡ plus 1 this.looks (next_common U lead (done ++ moved U c r ∷ rest) d)
    midway_larger d j e h =
        unfold midway mid_turn in rw (agree_larger U c r rest d j e h) (unfold before stopped turn_of next_by moved in
        ap (λ (n : ℕ). plus 1 n (next_common U lead (done ++ moved U c r ∷ rest) d)) (add-zero this.looks))

    -- a round with one seek more is a turn with one seek more
    mid_before : (n : Round) → mid_turn lead c i done (before r this n)
        ≡ more 1 this.looks (mid_turn lead c i (done ++ moved U c r ∷ []) n)
    unfolding mid_turn before moved
    mid_before n = rw (append_assoc, add_comm n.seeks 1)

    pub midway_same : (d j : ℕ) → this.found ≡ page d j → d ≤ c
        → midway U lead c i done (r ∷ rest) ≡ plus 1 this.looks (midway U lead c i (done ++ moved U c r ∷ []) rest)
    unfolding midway
    midway_same d j e h =
        let t : Turned = mid_turn lead c i (done ++ moved U c r ∷ []) (agree U c rest) in
        rw (agree_same U c r rest d j e h, mid_before (agree U c rest))
        (next_by_more 1 this.looks (next_common U t.lead t.others) t t.turn)
