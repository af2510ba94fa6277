-- The places of the words' pages are places of lists that may be opened side by side; and what stands in the slots then.
use mathlib.Core.Bool.{true}
use mathlib.Core.Path.{◌≡◌, refl, sym, ap, ap₂, ◌∙◌}
use mathlib.Core.List.{List, [], ◌∷◌}
use Prim.Native.Nat.{ℕ, suc, ◌+◌, ◌<◌}
use native.Mathlib.Nat.{add-zero}
use native.Mathlib.Omega.{arith}
use lib.ListN.{length, get_or}
use Rattle.rules.specs.Verdict.{Accepted}
use Rattle.rules.specs.ReadList.{list_u, decode, part_refusal}
use Rattle.rules.specs.ReadTerm.{pages_of, read_word}
use Rattle.rules.specs.Index.{index_v, index_n, index_t, term_part, word_of, index_refusal}
use Rattle.rules.specs.Common.{Tally, lead_of, common_from, common}
use Rattle.rules.specs.Plain.{common_pages}
use Rattle.rules.specs.Questions.{pages_in, lists_in, words_good}
use Rattle.listlaws.proofs.RefusalLaws.{part_form as form_told}
use Rattle.maplaws.proofs.Theorems.{part_valid}
use Rattle.termlaws.proofs.Theorems.{accepted_lists}
use Rattle.cardlaws.proofs.Theorems.{accepted_term}
use Rattle.commonlaws.proofs.PickLaws.{lead_leads}
use Rattle.commonlaws.proofs.CommonLaws.{common_listed}
use Rattle.querylaws.specs.Lists.{span, pages_at, pages_in as allPages}
use Rattle.querylaws.specs.Listings.{whole_in}
use Rattle.openlists.specs.Places.{place_part, place_pages, placed_in, source_of, slot_of, Places, Alike, Edited, Opened}
use Rattle.openlists.proofs.SourceLaws.{span_at, slot_lt, source_slot, source_order}
use Rattle.openlists.proofs.Theorems.{placed_rise, opened_common}
use Rattle.questions.proofs.GoodLaws.{words_parts}
use Rattle.wordlists.specs.Lying.{list_of, AllLying}
use Rattle.wordlists.specs.Opened.{OpenedPages}
use Rattle.wordlists.proofs.LyingLaws.{word_below}

-- the words' lists, one after the other
listed_span : (s : List ℕ) (ts : List ℕ) (f : ℕ → List ℕ) (i : ℕ)
    → ((j : ℕ) → j < length ts → f (i + j) ≡ pages_in s (get_or ts j 0)) → span f i (length ts) ≡ lists_in s ts
unfolding span lists_in
listed_span s [] f i h = refl
listed_span s (t ∷ ts) f i h =
    ap₂ ◌∷◌ (ap f (sym (add-zero i)) ∙ h 0 (omega arith))
    (listed_span s ts f (i + 1) (λ j l.
    let e : i + 1 + j ≡ i + suc j = omega arith in
    ap f e ∙ h (suc j) (omega arith)))

module _ (s ts ps : List ℕ) (a : index_refusal s ≡ Accepted) (g : words_good (index_t s) ts ≡ true)
    (room : length ps ≡ 16) (l : AllLying s ts 0 (length ts) ps) where
  part_pages : (i : ℕ) → i < length ts → place_part s ps i ≡ pages_of (term_part (get_or ts i 0) s)
  unfolding place_part pages_of list_of
  part_pages i h = (l i h).bytes

  part_bound : (i : ℕ) → i < length ts → list_u (place_part s ps i) ≡ index_n s
  part_bound i h = ap list_u (part_pages i h) ∙ (accepted_term s a (get_or ts i 0) (word_below (index_t s) ts g i h)).same_N

  part_accepted : (i : ℕ) → i < length ts → part_refusal (index_v s) (place_part s ps i) ≡ Accepted
  part_accepted i h = rw (part_pages i h)
      (accepted_lists (index_v s) (term_part (get_or ts i 0) s)
      (accepted_term s a (get_or ts i 0) (word_below (index_t s) ts g i h)).accepts).pages

  -- the form that the card's version gives them
  pub part_form : Edited (index_v s) s ps (length ts)
  part_form i h = form_told (index_v s) (place_part s ps i) (part_accepted i h)

  pub pages_places : Places s ps (length ts)
  pages_places =
      let w = words_parts (index_t s) ts g in
      record {
        some = w.0;
        few = w.1;
        each = λ i h. record {
          room = omega (arith, w.1);
          starts = (l i h).starts;
          ends = (l i h).ends;
          accepted = rw (part_form i h) (part_valid (index_v s) (place_part s ps i) (part_accepted i h));
        };
      }

  pub pages_alike : Alike s ps (length ts)
  pages_alike i h = part_bound i h ∙ sym (part_bound 0 (words_parts (index_t s) ts g).0)

  pub placed_lists : placed_in s ps (length ts) ≡ lists_in s ts
  unfolding placed_in place_pages pages_in word_of read_word
  placed_lists =
      listed_span s ts (place_pages s ps) 0 (λ j h.
      let e : 0 + j ≡ j = omega arith in
      rw e (ap decode (part_pages j h)))

  pub pages_opened : (r : List ℕ) → Opened s ps (length ts) r → OpenedPages s ts r
  pages_opened r o = record {
    room = o.room;
    lists = o.lists;
    pages = rw placed_lists at o.pages;
    bound = o.bound ∙ part_bound 0 (words_parts (index_t s) ts g).0;
    rise =
        rw (part_bound 0 (words_parts (index_t s) ts g).0, placed_lists) at
        (placed_rise s ps (length ts) pages_places pages_alike);
    rule = λ b n.
        rw (part_bound 0 (words_parts (index_t s) ts g).0, placed_lists) at
        (opened_common s ps (length ts) pages_places pages_alike (index_v s) part_form r o b n);
  }

-- ---- the pages opened

length_lists : (s ts : List ℕ) → length (lists_in s ts) ≡ length ts
unfolding lists_in
length_lists s [] = refl
length_lists s (t ∷ ts) = ap suc (length_lists s ts)

module _ (s ts r : List ℕ) (o : OpenedPages s ts r) where
  pub opened_some : 0 < length (lists_in s ts)
  opened_some = rw (length_lists s ts) o.lists.some

  pub opened_whole : whole_in s r (length ts) ≡ common (index_v s) (index_n s) (lists_in s ts)
  unfolding common
  opened_whole =
      o.rule 0 (length (get_or (allPages s r (length ts)) 0 []) + 1)
      ∙ ap (λ (ls : List (List ℕ)). common_from (index_v s) (index_n s) (lists_in s ts) 0 (length (get_or ls 0 []) + 1)) o.pages

  -- plain reading lists the same pages
  pub opened_listed : (whole_in s r (length ts)).listed ≡ common_pages (lists_in s ts)
  opened_listed =
      ap (λ (t : Tally). t.listed) opened_whole ∙ common_listed (index_v s) (index_n s) (lists_in s ts) opened_some o.rise

  module _ (lead : ℕ) (e : lead ≡ lead_of (lists_in s ts)) where
    pub lead_within : lead < length ts
    lead_within = rw (e, ← length_lists s ts) (lead_leads (lists_in s ts) opened_some).within

    -- the pages of word i stand in its slot
    pub slot_pages : (i : ℕ) → i < length ts → pages_at s r (slot_of lead i) ≡ pages_in s (get_or ts i 0)
    unfolding allPages
    slot_pages i h =
        let f : ℕ → List ℕ = λ j. pages_in s (get_or ts j 0) in
        let lists : span f 0 (length ts) ≡ lists_in s ts =
        listed_span s ts f 0 (λ j l. let z : 0 + j ≡ j = omega arith in ap f z) in
        let t = slot_of lead i in
        let l = slot_lt lead i (length ts) lead_within h in
        let order = rw lists at (source_order f (length ts) lead lead_within (e ∙ ap lead_of (sym lists))) in
        sym (span_at (pages_at s r) (length ts) t [] l)
        ∙ ap (λ (x : List (List ℕ)). get_or x t []) (o.pages ∙ sym order)
        ∙ span_at (λ (j : ℕ). f (source_of lead j)) (length ts) t [] l
        ∙ ap f (source_slot lead i)
