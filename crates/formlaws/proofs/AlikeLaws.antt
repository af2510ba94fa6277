-- Laws of alike readers: a seek, a round of the others, a turn and the whole rule find the same with as many seeks.
use mathlib.Core.Path.{◌≡◌, refl, sym, ap, ap₂, ◌∙◌}
use mathlib.Core.List.{List, [], ◌∷◌, ◌++◌}
use Prim.Native.Nat.{ℕ, zero, suc, ◌+◌, ◌≤◌, ◌<◌}
use native.Mathlib.Decide.{dec_lt}
use native.Mathlib.Omega.{arith}
use Rattle.rules.specs.Seek.{Found, none, page, Sought}
use Rattle.rules.specs.Common.{Reader, Tally, Ended, agreed, exhausted, larger, Round, seek_by, moved_by, before, stopped}
use Rattle.rules.specs.Common.{agree, counted, nothing}
use Rattle.seeklaws.proofs.SeekLaws.{forms_seek}
use Rattle.commonlaws.specs.Readers.{Ready, AllReady}
use Rattle.commonlaws.specs.Next.{Turn, over, again, hit, Turned, turn_of, behind_lead, turned, rounds_to, rounds_by}
use Rattle.commonlaws.proofs.AgreeLaws.{agree_none, agree_larger, agree_same, all_ready_more, sought_least}
use Rattle.commonlaws.proofs.TurnLaws.{To, turned_none, turned_page}
use Rattle.commonlaws.proofs.FuelLaws.{rounds_turn, by_turns}
use Rattle.formlaws.specs.Alike.{Alike, AllAlike}

pub alike_ready : (U b : ℕ) (r z : Reader) → Alike r z → Ready U b r → Ready U b z
alike_ready U b r z a k = record {
  rises = rw a.pages k.rises;
  placed = rw (a.pages, a.cursor) k.placed;
  behind = rw (a.pages, a.cursor) k.behind;
}

pub all_alike_ready : (U b : ℕ) (rs zs : List Reader) → AllAlike rs zs → AllReady U b rs → AllReady U b zs
all_alike_ready U b [] [] a k = tt
all_alike_ready U b [] (z ∷ zs) a k = absurd a
all_alike_ready U b (r ∷ rs) [] a k = absurd a
all_alike_ready U b (r ∷ rs) (z ∷ zs) a k =
    (alike_ready U b r z a.0 k.0, all_alike_ready U b rs zs a.1 k.1)

-- ---- one seek

module _ (U b : ℕ) (r z : Reader) (a : Alike r z) (k : Ready U b r) where
  seeks_alike : ((seek_by U z b).found ≡ (seek_by U r b).found) × ((seek_by U z b).cursor ≡ (seek_by U r b).cursor)
  unfolding seek_by
  seeks_alike =
      rw (a.pages, a.cursor) (forms_seek z.form r.form U r.pages k.rises r.cursor b k.placed)

  moved_alike : Alike (moved_by r (seek_by U r b)) (moved_by z (seek_by U z b))
  unfolding moved_by
  moved_alike = record { pages = a.pages; cursor = seeks_alike.1 }

-- ---- a round of the others

pub record SameRound (r z : Round) : Type 0 where
  pub ended : z.ended ≡ r.ended
  pub readers : AllAlike r.readers z.readers
  pub seeks : z.seeks ≡ r.seeks

before_same : (U c : ℕ) (r z : Reader) (n m : Round) → Alike r z → Ready U c r → SameRound n m
    → SameRound (before r (seek_by U r c) n) (before z (seek_by U z c) m)
unfolding before
before_same U c r z n m a k s = record {
  ended = s.ended;
  readers = (moved_alike U c r z a k, s.readers);
  seeks = ap (λ (x : ℕ). x + 1) s.seeks;
}

stopped_same : (e : Ended) (rs zs : List Reader) → AllAlike rs zs → SameRound (stopped e rs) (stopped e zs)
unfolding stopped
stopped_same e rs zs a = record { ended = refl; readers = a; seeks = refl }

agree_alike : (U c : ℕ) (rs zs : List Reader) → AllAlike rs zs → AllReady U c rs
    → SameRound (agree U c rs) (agree U c zs)
unfolding agree
agree_alike U c [] [] a k = stopped_same agreed [] [] tt
agree_alike U c [] (z ∷ zs) a k = absurd a
agree_alike U c (r ∷ rs) [] a k = absurd a
agree_alike U c (r ∷ rs) (z ∷ zs) a k = go (agree_alike U c rs zs a.1 k.1) (seek_by U r c).found refl
  where
    same : (seek_by U z c).found ≡ (seek_by U r c).found
    same = (seeks_alike U c r z a.0 k.0).0

    go : SameRound (agree U c rs) (agree U c zs) → (f : Found) → (seek_by U r c).found ≡ f
        → SameRound (agree U c (r ∷ rs)) (agree U c (z ∷ zs))
    go m (none n) e =
        rw (agree_none U c r rs n e, agree_none U c z zs n (same ∙ e))
        (before_same U c r z (stopped exhausted rs) (stopped exhausted zs) a.0 k.0
        (stopped_same exhausted rs zs a.1))
    go m (page d i) e =
        elim (dec_lt c d) [
          | yes h ↦ rw (agree_larger U c r rs d i e h, agree_larger U c z zs d i (same ∙ e) h)
              (before_same U c r z (stopped (larger d) rs) (stopped (larger d) zs) a.0 k.0
              (stopped_same (larger d) rs zs a.1))
          | no h ↦
              rw (agree_same U c r rs d i e (omega arith), agree_same U c z zs d i (same ∙ e) (omega arith))
              (before_same U c r z (agree U c rs) (agree U c zs) a.0 k.0 m)
        ]

-- ---- a turn

pub record SameTurn (t u : Turned) : Type 0 where
  pub turn : u.turn ≡ t.turn
  pub lead : Alike t.lead u.lead
  pub others : AllAlike t.others u.others
  pub seeks : u.seeks ≡ t.seeks

module _ (U b : ℕ) (lead lead' : Reader) (others others' : List Reader) (a : Alike lead lead')
    (o : AllAlike others others') (k : Ready U b lead) (ks : AllReady U b others) where
  same_lead : (seek_by U lead' b).found ≡ (seek_by U lead b).found
  same_lead = (seeks_alike U b lead lead' a k).0

  behind_same : (t : Turn) (n m : Round) → SameRound n m
      → SameTurn (behind_lead lead (seek_by U lead b) t n) (behind_lead lead' (seek_by U lead' b) t m)
  unfolding behind_lead
  behind_same t n m s = record {
    turn = refl;
    lead = moved_alike U b lead lead' a k;
    others = s.readers;
    seeks = ap (λ (x : ℕ). 1 + x) s.seeks;
  }

  turned_alike : SameTurn (turned U lead others b) (turned U lead' others' b)
  unfolding agree
  turned_alike = go (seek_by U lead b).found refl
    where
      go : (f : Found) → (seek_by U lead b).found ≡ f → SameTurn (turned U lead others b) (turned U lead' others' b)
      go (none m) e =
          rw (turned_none U b lead others m e, turned_none U b lead' others' m (same_lead ∙ e))
          (behind_same over (stopped exhausted others) (stopped exhausted others')
          (stopped_same exhausted others others' o))
      go (page c i) e =
          let s = agree_alike U c others others' o (all_ready_more U b c others ks (sought_least U b lead k c i e)) in
          rw (turned_page U b lead others c i e, turned_page U b lead' others' c i (same_lead ∙ e), s.ended)
          (behind_same (turn_of c i (agree U c others).ended) (agree U c others) (agree U c others') s)

-- ---- the whole rule

-- as many seeks, and the same pages
abbrev pub SameTally : Tally → Tally → Type 0
SameTally t u = (u.seeks ≡ t.seeks) × (u.listed ≡ t.listed)

counted_same : (s z l m : ℕ) (ps : List ℕ) (t u : Tally) → z ≡ s → SameTally t u
    → SameTally (counted s l ps t) (counted z m ps u)
unfolding counted
counted_same s z l m ps t u e k = (ap₂ ◌+◌ e k.0, ap (λ (x : List ℕ). ps ++ x) k.1)

module _ (U : ℕ) where
  abbrev SameFrom : Reader → List Reader → ℕ → Type 0
  SameFrom lead others b = (lead' : Reader) (others' : List Reader) → Alike lead lead' → AllAlike others others' → (r : ℕ)
      → SameTally (rounds_to U lead others b r) (rounds_to U lead' others' b r)

  same_step : (lead : Reader) (others : List Reader) (b : ℕ) → Ready U b lead → AllReady U b others
      → let t = turned U lead others b in
      ((d : ℕ) → To t.turn d → SameFrom t.lead t.others d) → SameFrom lead others b
  unfolding turned
  same_step lead others b k ks ih lead' others' a o r =
      rw (
        rounds_turn U lead others b k ks r,
        rounds_turn U lead' others' b (alike_ready U b lead lead' a k) (all_alike_ready U b others others' o ks) r,
        s.turn,
      ) (go t.turn ih r)
    where
      t : Turned
      t = turned U lead others b

      u : Turned
      u = turned U lead' others' b

      s : SameTurn t u
      s = turned_alike U b lead lead' others others' a o k ks

      go : (e : Turn) → ((d : ℕ) → To e d → SameFrom t.lead t.others d) → (r : ℕ)
          → SameTally (rounds_by (rounds_to U t.lead t.others) t e r)
          (rounds_by (rounds_to U u.lead u.others) u e r)
      go e ih zero = unfold rounds_by in (refl, refl)
      go over ih (suc r) = unfold rounds_by in
          counted_same t.seeks u.seeks t.looks u.looks [] nothing nothing s.seeks (refl, refl)
      go (again d) ih (suc r) = unfold rounds_by in
          counted_same t.seeks u.seeks t.looks u.looks []
          (rounds_to U t.lead t.others d (suc r)) (rounds_to U u.lead u.others d (suc r)) s.seeks
          (ih d refl u.lead u.others s.lead s.others (suc r))
      go (hit c i) ih (suc r) = unfold rounds_by in
          counted_same t.seeks u.seeks t.looks u.looks (c ∷ [])
          (rounds_to U t.lead t.others (c + 1) r) (rounds_to U u.lead u.others (c + 1) r) s.seeks
          (ih (c + 1) refl u.lead u.others s.lead s.others r)

  pub rounds_alike : (lead : Reader) (others : List Reader) (b : ℕ) → Ready U b lead → AllReady U b others
      → SameFrom lead others b
  rounds_alike = by_turns U SameFrom same_step
