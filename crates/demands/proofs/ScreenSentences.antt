-- What the customer asks of screens, sentence by sentence [02 e]. Like those of Demands.antt, the theorems are of any
-- result that the promise of the exported call allows, and of nothing else of the program; ScreenWitnesses.antt shows
-- that their premises can be met.
use mathlib.Core.Bool.{Bool, true, false}
use mathlib.Core.Logic.{◌↔◌, ◌⊎◌, inl, inr}
use mathlib.Core.Path.{◌≡◌, refl, sym, ap, ◌∙◌}
use mathlib.Core.List.{List, [], ◌∷◌, ◌++◌, append_assoc, append-nil}
use Prim.Native.Nat.{ℕ, suc, ◌+◌, ◌-◌, ◌*◌, ◌^◌, ◌≤◌, ◌<◌}
use native.Mathlib.Omega.{arith}
use borrow.Author.Tests.{eqb-true, eqb-false}
use lib.ListN.{length, get_or, take, drop, length-append, length-take}
use lib.Seq.{take_at, take-nil}
use Rattle.rules.specs.Verdict.{Accepted}
use Rattle.rules.specs.Refusal.{number}
use Rattle.rules.specs.Limits.{screen_limit}
use Rattle.rules.specs.List.{rising}
use Rattle.rules.specs.Write.{laid}
use Rattle.rules.specs.Term.{Word}
use Rattle.rules.specs.Index.{card, valid_card, index_v, index_n, index_t}
use Rattle.rules.specs.Common.{common_from}
use Rattle.rules.specs.Plain.{at_least, common_pages}
use Rattle.rules.specs.Questions.{lists_in, all_below}
use Rattle.rules.specs.Screen.{screen_good, screen_pages, screen_counts, is_full, Screening, unshown, filled, screen}
use Rattle.laws.proofs.RefusalLaws.{number_inj}
use Rattle.cardlaws.proofs.Theorems.{card_accepted}
use Rattle.commonlaws.proofs.SharedLaws.{from_zero}
use Rattle.commonlaws.proofs.CommonLaws.{past_all}
use Rattle.telling.specs.declared.HostAsked.{HostAsked}
use Rattle.telling.specs.declared.HostScreened.{HostScreened}
use Rattle.telling.specs.Told.{Seen, seen, seen_of}
use Rattle.hostlaws.specs.Host.{HostAnswered, HostScreenShown}
use Rattle.demands.specs.Asking.{pages_at, pages_named, upper_runs}
use Rattle.demands.specs.Sentences.{First}
use Rattle.demands.specs.Screens.{screening, Unwritten, Fills, Falls, Shot, Took, shows, Full, shown}
use Rattle.demands.proofs.WriteLaws.{number_le}
use Rattle.demands.proofs.KindLaws.{states_V, states_N, states_T, holds_lists, common_rise}
use Rattle.demands.proofs.KindLaws.{seeks_from, looks_from, fit_from}
use Rattle.demands.proofs.ScreenLaws.{Passes, passes_whole, by_end, screen_first, good_screen}
use Rattle.demands.proofs.ScreenLaws.{falls_all, fills_some}
use Rattle.demands.proofs.Demands.{by_common_lem}

-- ---- 1. its refusals

module _ (s : List ℕ) (b r : ℕ) (ts pages counts : List ℕ) (x : HostScreened) (pages' counts' : List ℕ)
    (p : HostScreenShown s b r ts pages counts x pages' counts') where
  abbrev ps : List ℕ
  ps = screen_pages b r (lists_in s ts)

  refusal_is : x.refusal ≡ number (screen s b r ts pages counts).refusal
  refusal_is = ap (λ (y : Seen). y.refusal) p

  pub screen_number : x.refusal ≤ 10
  screen_number = rw refusal_is (number_le (screen s b r ts pages counts).refusal)

  -- "The card is checked first; wrong r or wrong words are 8; room below the pages found is 9": the number is that of
  -- the first of these sentences that holds.
  pub screen_refusal : First x.refusal (screening s b r ts pages counts)
  screen_refusal = rw refusal_is (screen_first s b r ts pages counts)

  -- "On every refusal both rooms are unchanged and all other numbers are 0."
  pub screen_refused : (x.refusal ≡ 0 → ⊥) → Unwritten x pages counts pages' counts'
  screen_refused n = by_end s b r ts pages counts
      (λ m. seen_of x pages' counts' ≡ seen m → Unwritten x pages counts pages' counts')
      (λ q a e. unfold unshown in record {
        pages_kept = ap (λ (y : Seen). y.pages) e;
        counts_kept = ap (λ (y : Seen). y.counts) e;
        found = ap (λ (y : Seen). y.found) e;
        full = ap (λ (y : Seen). y.full) e;
        next = ap (λ (y : Seen). y.next) e;
      })
      (λ c e. absurd (n (ap (λ (y : Seen). y.refusal) e))) p

  -- 0 is given exactly where the card is accepted, r and the words are good and the rooms are long enough.
  pub screen_accepted : (x.refusal ≡ 0) ↔ Passes s b r ts pages counts
  screen_accepted = (
    λ z. by_end s b r ts pages counts
        (λ m. seen_of x pages' counts' ≡ seen m → Passes s b r ts pages counts)
        (λ q a e. absurd (a (number_inj q Accepted
        (unfold unshown in sym (ap (λ (y : Seen). y.refusal) e) ∙ z))))
        (λ c e. c) p,
    λ c. refusal_is ∙ ap (λ (m : Screening). number m.refusal) (passes_whole s b r ts pages counts c),
  )

  -- ---- 2. what it shows

  module _ (z : x.refusal ≡ 0) where
    told : seen_of x pages' counts'
        ≡ seen (filled r ps (screen_counts (index_v s) (index_n s) b r (lists_in s ts)) pages counts)
    told = p ∙ ap seen (passes_whole s b r ts pages counts (screen_accepted.0 z))

    -- "`pages` gets the pages found, `counts` the seeks and the looks. Numbers of a room past what is written are
    -- unchanged."
    pub screen_rooms : (pages' ≡ laid ps pages)
        × (counts' ≡ laid (screen_counts (index_v s) (index_n s) b r (lists_in s ts)) counts)
        × (x.found ≡ length ps)
    screen_rooms = (
      ap (λ (y : Seen). y.pages) told,
      ap (λ (y : Seen). y.counts) told,
      ap (λ (y : Seen). y.found) told,
    )

    few : length ps ≤ r
    few = unfold screen_pages in omega (arith, length-take r (at_least b (common_pages (lists_in s ts))))

    -- "`full` is 1 where exactly r pages were listed, and `next` is then the last page plus 1; else both are 0."
    pub screen_full : Fills r ps x ⊎ Falls r ps x
    screen_full = go (is_full r ps) refl
      where
        go : (f : Bool) → is_full r ps ≡ f → Fills r ps x ⊎ Falls r ps x
        go true e =
            let t = rw e at told in inl (
              unfold is_full in eqb-true (length ps) r e,
              ap (λ (y : Seen). y.full) t,
              ap (λ (y : Seen). y.next) t,
            )
        go false e =
            let t = rw e at told in
            let n : length ps ≡ r → ⊥ = unfold is_full in eqb-false (length ps) r e in inr (
              omega (arith, few, n),
              ap (λ (y : Seen). y.full) t,
              ap (λ (y : Seen). y.next) t,
            )

    -- the pages that it shows
    pub screen_front : take x.found pages' ≡ ps
    unfolding laid
    screen_front = rw (screen_rooms.0, screen_rooms.2) (take_at ps (drop (length ps) pages) (length ps) refl)

-- ---- "The pages are the first r common pages at or above the bound by plain reading; seeks and looks are the step
-- rule's from that bound, stopped at r."

module _ (ver N : ℕ) (ts : List Word) (v : valid_card ver N ts ≡ true)
    (terms : List ℕ) (some : 1 ≤ length terms) (few : length terms ≤ 8) (below : all_below (length ts) terms ≡ true)
    (r : ℕ) (least : 1 ≤ r) (most : r ≤ screen_limit) where
  abbrev ls : List (List ℕ)
  ls = pages_named ts terms

  lists_are : lists_in (card ver N ts) terms ≡ ls
  lists_are = holds_lists ver N ts v terms below

  good : screen_good (index_t (card ver N ts)) r terms ≡ true
  good = rw (states_T ver N ts v) (good_screen (length ts) r terms least most some few below)

  module _ (b : ℕ) (pages counts : List ℕ) (x : HostScreened) (pages' counts' : List ℕ)
      (p : HostScreenShown (card ver N ts) b r terms pages counts x pages' counts')
      (room : length (screen_pages b r ls) ≤ length pages) (numbers : 2 ≤ length counts) where
    pub by_screen : (x.refusal ≡ 0)
        × (pages' ≡ laid (take r (at_least b (common_pages ls))) pages)
        × (counts' ≡ laid ((common_from ver N ls b r).seeks ∷ ((common_from ver N ls b r).looks ∷ [])) counts)
        × (x.found ≡ length (take r (at_least b (common_pages ls))))
    unfolding screen_pages screen_counts
    by_screen =
        let c : Passes (card ver N ts) b r terms pages counts =
        (card_accepted ver N ts v, good, rw lists_are room, numbers) in
        let z = (screen_accepted (card ver N ts) b r terms pages counts x pages' counts' p).1 c in
        let t = rw (lists_are, states_V ver N ts v, states_N ver N ts v) at
        (screen_rooms (card ver N ts) b r terms pages counts x pages' counts' p z) in
        (z, t.0, t.1, t.2)

    -- They are the step rule's counts.
    pub screen_counts_lem : (get_or counts' 0 0 ≡ (common_from ver N ls b r).seeks)
        × (get_or counts' 1 0 ≡ (common_from ver N ls b r).looks)
    unfolding laid
    screen_counts_lem = (
      ap (λ (l : List ℕ). get_or l 0 0) by_screen.2,
      ap (λ (l : List ℕ). get_or l 1 0) by_screen.2,
    )

    -- "The bound of demand 3 holds for each screen": k·m + 1 for the pages m of each word named, so for the rarest.
    pub screen_seeks : (j : ℕ) → j < length terms
        → get_or counts' 0 0 ≤ length terms * length (pages_at ts (get_or terms j 0)) + 1
    screen_seeks j h = rw screen_counts_lem.0 (seeks_from ver N ts v terms some few below b r j h)

    pub screen_looks : get_or counts' 1 0 ≤ get_or counts' 0 0 + upper_runs ver N ls
    screen_looks = rw (screen_counts_lem.0, screen_counts_lem.1) (looks_from ver N ts v terms some few below b r)

    -- Neither wraps in the 32-bit number that carries it.
    pub screen_carried : ((common_from ver N ls b r).seeks < 2 ^ 32) × ((common_from ver N ls b r).looks < 2 ^ 32)
    screen_carried = fit_from ver N ts v terms some few below b r

    -- "A bound at or above U makes one seek with no looks."
    pub screen_past : N ≤ b → (get_or counts' 0 0 ≡ 1) × (get_or counts' 1 0 ≡ 0)
    screen_past h =
        let z : suc (r - 1) ≡ r = omega (arith, least) in
        let e = rw z at (past_all ver N ls b (r - 1) h) in
        (screen_counts_lem.0 ∙ ap (λ t. t.seeks) e, screen_counts_lem.1 ∙ ap (λ t. t.looks) e)

  -- ---- "Screens taken from 0 until one is not full, joined, are exactly kind 3's list."

  abbrev C : List ℕ
  C = common_pages ls

  rise : rising 0 N C ≡ true
  rise = common_rise ver N ts v terms some few below

  -- what a screen shows, and what is left behind it
  module _ (b : ℕ) (x : Shot) (t : Took (card ver N ts) terms r b x) where
    abbrev here : List ℕ
    here = take r (at_least b C)

    shot_pages : shows x ≡ here
    unfolding screen_pages
    shot_pages =
        rw lists_are
        at (screen_front (card ver N ts) b r terms x.pages x.counts x.answer x.pages_after x.counts_after
        t.0 t.1)

    pub ends : Fills r here x.answer ⊎ Falls r here x.answer
    unfolding screen_pages
    ends =
        rw lists_are
        at (screen_full (card ver N ts) b r terms x.pages x.counts x.answer x.pages_after x.counts_after
        t.0 t.1)

    pub shot_full : x.answer.full ≡ 1
        → (length (shows x) ≡ r) × (at_least b C ≡ shows x ++ at_least x.answer.next C)
    shot_full f = elim ends [
      | inl e ↦ rw shot_pages (e.0, rw e.2 (fills_some N C rise b r least e.0))
      | inr e ↦ absurd (omega (arith, f, e.1))
    ]

    shot_last : x.answer.full ≡ 0 → (length (shows x) < r) × (at_least b C ≡ shows x)
    shot_last f = elim ends [
      | inl e ↦ absurd (omega (arith, f, e.1))
      | inr e ↦ rw shot_pages (e.0, falls_all N C rise b r least e.0)
    ]

  -- full screens show what lies between their bounds, r pages each
  full_run : (b : ℕ) (xs : List Shot) (c : ℕ) → Full (card ver N ts) terms r b xs c
      → (at_least b C ≡ shown xs ++ at_least c C) × (length (shown xs) ≡ length xs * r)
  unfolding shown
  full_run b [] c f = (rw f, omega arith)
  full_run b (x ∷ xs) c f =
      let e = shot_full b x f.0 f.1 in
      let t = full_run x.answer.next xs c f.2 in (
        e.1 ∙ ap (λ (l : List ℕ). shows x ++ l) t.0 ∙ sym (append_assoc (shows x) (shown xs) (at_least c C)),
        length-append (shows x) (shown xs) ∙ omega (arith, e.0, t.1),
      )

  shown_more : (xs : List Shot) (y : Shot) → shown (xs ++ (y ∷ [])) ≡ shown xs ++ shows y
  unfolding shown
  shown_more [] y = append-nil (shows y)
  shown_more (x ∷ xs) y =
      ap (λ (l : List ℕ). shows x ++ l) (shown_more xs y) ∙ sym (append_assoc (shows x) (shown xs) (shows y))

  pub screens_joined : (xs : List Shot) (c : ℕ) (y : Shot) → Full (card ver N ts) terms r 0 xs c
      → Took (card ver N ts) terms r c y → y.answer.full ≡ 0 → shown (xs ++ (y ∷ [])) ≡ C
  screens_joined xs c y f t z =
      shown_more xs y
      ∙ ap (λ (l : List ℕ). shown xs ++ l) (sym (shot_last c y t z).1)
      ∙ sym (full_run 0 xs c f).0
      ∙ from_zero C

  -- The same as the pages of kind 3's answer, behind its number and its counts.
  pub screens_answered : (xs : List Shot) (c : ℕ) (y : Shot) → Full (card ver N ts) terms r 0 xs c
      → Took (card ver N ts) terms r c y → y.answer.full ≡ 0
      → (room : List ℕ) (a : HostAsked) (after : List ℕ)
      → HostAnswered (card ver N ts) (3 ∷ (length terms ∷ terms)) room a after → length C + 3 ≤ length room
      → take (get_or after 0 0 - 2) (drop 3 after) ≡ shown (xs ++ (y ∷ []))
  unfolding laid
  screens_answered xs c y f t z room a after p enough =
      let e = (by_common_lem ver N ts v room a after terms some few below p enough).1 in
      let n : length C + 2 - 2 ≡ length C = omega arith in
      rw (e, n) (take_at C (drop (suc (suc (suc (length C)))) room) (length C) refl) ∙ sym (screens_joined xs c y f t z)

  -- It ends: however many screens are full, they have r pages each of those that there are.
  pub screens_end : (xs : List Shot) (c : ℕ) → Full (card ver N ts) terms r 0 xs c → length xs * r ≤ length C
  screens_end xs c f =
      let t = full_run 0 xs c f in
      let l = ap length (sym (from_zero C) ∙ t.0) ∙ length-append (shown xs) (at_least c C) in
      omega (arith, l, t.1)

  -- "Where the last screen is just full one more, empty, follows."
  pub screens_just_full : (xs : List Shot) (c : ℕ) (y : Shot) → Full (card ver N ts) terms r 0 xs c
      → length xs * r ≡ length C → Took (card ver N ts) terms r c y → (shows y ≡ []) × (y.answer.full ≡ 0)
  screens_just_full xs c y f e t =
      let w = full_run 0 xs c f in
      let l = ap length (sym (from_zero C) ∙ w.0) ∙ length-append (shown xs) (at_least c C) in
      let n : length (at_least c C) ≡ 0 = omega (arith, l, w.1, e) in
      let none = empty (at_least c C) n in
      (shot_pages c y t ∙ ap (take r) none ∙ take-nil {A = ℕ} r, last (ends c y t) none)
    where
      empty : (l : List ℕ) → length l ≡ 0 → l ≡ []
      empty [] h = refl
      empty (x ∷ l) h = absurd (omega (arith, h))

      last : Fills r (take r (at_least c C)) y.answer ⊎ Falls r (take r (at_least c C)) y.answer
          → at_least c C ≡ [] → y.answer.full ≡ 0
      last (inl g) n = absurd (omega (arith, g.0, length-take r (at_least c C), ap length n, least))
      last (inr g) n = g.1
