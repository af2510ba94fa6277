-- Laws of counting the starts on a page: how it begins, what a word's next start leaves, and what it ends with.
use mathlib.Core.Bool.{true, false}
use mathlib.Core.Path.{◌≡◌, refl, sym, ap, ◌∙◌}
use mathlib.Core.List.{List}
use Prim.Native.Nat.{ℕ, ◌+◌, ◌-◌, ◌*◌, ◌^◌, ◌≤◌, ◌<◌}
use native.Mathlib.Decide.{dec_lt, ℕ_discrete}
use native.Mathlib.Omega.{arith}
use borrow.Author.Tests.{eq-eqb, ne_eqb, lt-ltb, le-ltb}
use lib.ListN.{length, get_or}
use Rattle.std.specs.Prelude.{Option, None, Some}
use Rattle.rules.specs.ReadList.{list_u}
use Rattle.rules.specs.ReadTerm.{positions_of}
use Rattle.rules.specs.Index.{index_v}
use Rattle.rules.specs.Limits.{limit}
use Rattle.rules.specs.Plain.{member, InPhrase, stands, starts}
use Rattle.walklaws.proofs.OpenLaws.{open_within}
use Rattle.querylaws.specs.declared.Query.{Query}
use Rattle.querylaws.specs.Lists.{part_at, shape_in}
use Rattle.span.specs.declared.Walk.{Walk}
use Rattle.turning.specs.Words.{count_walk, base_in, end_in, BlockAt}
use Rattle.phrase.specs.Pages.{page_at, Ready, Sought}
use Rattle.openlists.specs.Places.{source_of, slot_of}
use Rattle.openlists.proofs.SourceLaws.{slot_lt, source_lt, source_slot, slot_source}
use Rattle.wordlists.proofs.OpenLaws.{lead_within}
use Rattle.querylaws.specs.Ranks.{rank_by}
use Rattle.trial.specs.declared.Trial.{Trial}
use Rattle.triallaws.specs.Spans.{TermAt}
use Rattle.triallaws.specs.Starts.{starts_below}
use Rattle.triallaws.specs.Asked.{phrase_at, term_at, positions_here, Asked, OnAll, AheadOf, Ahead, TurnedTo}
use Rattle.trial.specs.Tries.{tried_at}
use Rattle.triallaws.specs.Asked.{Trying}
use Rattle.triallaws.proofs.WordLaws.{SameWord, same_other, counts_same, span_same, term_same}
use Rattle.triallaws.proofs.WordLaws.{ready_same, ready_more}
use Rattle.triallaws.proofs.SpanLaws.{before_mono}
use Rattle.triallaws.proofs.StartLaws.{stands_fails, stands_all, Rises, rises_more}
use Rattle.triallaws.proofs.StartLaws.{below_found, below_skip, below_le, starts_below_lem}
use Rattle.triallaws.proofs.PositionLaws.{page_positions, page_bounds, positions_rise}
use Rattle.triallaws.proofs.RankLaws.{is_ranked, page_there}
use Rattle.triallaws.proofs.PageLaws.{rank_later}

-- how much is left to be tried: starts, and for each the words
abbrev pub left : Trial → ℕ
left at = (16777217 - at.start) * 8 + (8 - at.standing)

-- ---- the beginning

pub trying_begins : (s ts ds : List ℕ) (lead : ℕ) (ct ps : List ℕ) (p : ℕ) (ws : List ℕ) → 0 < length ts
    → length ts ≤ length ds → Ahead s ts ct ps ws p
    → Trying s ts ds lead ct ps p (record { turned = 0; start = 0; standing = 0; count = 0 }) ws
unfolding starts_below
trying_begins s ts ds lead ct ps p ws n l f = record {
  room = f.room;
  enough = l;
  some = n;
  order = omega arith;
  within = omega arith;
  small = omega arith;
  words = λ i h l. absurd (omega arith);
  others = λ i h l. f.each i h;
  stand = λ i h l. absurd (omega arith);
  counted = refl;
}

module _ (s ts : List ℕ) (lead : ℕ) (pg ct ps : List ℕ) (a : Asked s ts lead pg ct ps) (ds : List ℕ) (p : ℕ)
    (at : Trial) (ws : List ℕ) (y : Trying s ts ds lead ct ps p at ws) where
  abbrev k : ℕ
  k = length ts

  abbrev phrase : List InPhrase
  phrase = phrase_at s ts ds

  -- the word to be tried, and its offset
  abbrev i : ℕ
  i = source_of lead at.standing

  abbrev d : ℕ
  d = get_or ds i 0

  pub next_within : i < k
  next_within = source_lt lead at.standing k (lead_within s ts pg a.pages lead a.leads) y.some

  pub next_slot : slot_of lead i ≡ at.standing
  next_slot = slot_source lead at.standing

  pub counted_few : at.count ≤ at.start
  counted_few = omega (arith, y.counted, below_le phrase p at.start)

  module _ (turned : at.standing < at.turned) where
    word : TurnedTo s ts ct ps p (at.start + d) ws i
    word = y.words i next_within (omega (arith, next_slot))

    -- what is asked where its position is sought
    pub seek_ready : d < 2 ^ 32 → BlockAt s ps i × (base_in ws i < 2 ^ 32) × (at.start + d < 2 ^ 33)
        × Ready s ps ws i (base_in ws i + (at.start + d))
    seek_ready fits =
        let b = (a.positions.slot i next_within).block in (
          b,
          omega (
            arith,
            (page_bounds s ps ws p i (term_at s ts i) word.term).1,
            open_within (part_at s ps i) (shape_in ps i) b.opened,
          ),
          omega (arith, y.small),
          word.ready,
        )

    module _ (sought : Option ℕ) (after : List ℕ) (t : Sought s ps ws i (at.start + d) sought after) where
      -- the words are as they were, but for where reading of the positions of this one stands
      same : (j : ℕ) → (j ≡ i → ⊥) → SameWord ws after j
      same = same_other ws i after (8 * i + 3) (8 * i + 6) (omega arith) (omega arith) t.kept

      span_kept : (j : ℕ) → (count_walk after j ≡ count_walk ws j) × (base_in after j ≡ base_in ws j)
          × (end_in after j ≡ end_in ws j)
      span_kept j =
          elim (ℕ_discrete j i) [
            | yes e ↦
                let z = span_same ws i after t.kept in
                rw e (counts_same ws i after (8 * i + 6) t.kept, z.0, z.1)
            | no e ↦ ((same j e).counts, (same j e).base, (same j e).end)
          ]

      abbrev term_after : (j : ℕ) → TermAt s ps ws p j (term_at s ts j) → TermAt s ps after p j (term_at s ts j)
      term_after j =
          term_same s ps ws after p j (term_at s ts j) (span_kept j).1 (span_kept j).2

      here : page_at s ps after i ≡ positions_here s ts p i
      here = page_positions s ps after p i (term_at s ts i) (term_after i word.term)

      -- a number that the word does not have is no start
      no_start : (b : ℕ) → member (b + d) (page_at s ps after i) ≡ false → stands phrase p b ≡ false
      no_start b e = stands_fails s p ts ds y.enough b i next_within (rw (← here) e)

      -- the words stand ready for that start and for later ones
      words_later : (n : ℕ) → at.start ≤ n → (j : ℕ) → j < k → slot_of lead j < at.turned
          → TurnedTo s ts ct ps p (n + get_or ds j 0) after j
      words_later n l j h g =
          let u = y.words j h g in
          let v = span_kept j in
          record {
            term = term_after j u.term;
            counted = rw v.0 u.counted;
            ready = ready_more s ps after j (base_in after j + (at.start + get_or ds j 0))
                (base_in after j + (n + get_or ds j 0)) (omega arith)
                (elim (ℕ_discrete j i) [
                  | yes e ↦ rw e t.ready
                  | no e ↦ rw v.1 (ready_same s ps ws after j (base_in ws j + (at.start + get_or ds j 0))
                      t.ready.room (same j e).positions v.2 u.ready)
                ]);
          }

      others_later : (j : ℕ) → j < k → at.turned ≤ slot_of lead j → AheadOf s ts ct ps after p j
      others_later j h g =
          let f = y.others j h g in
          let e = same j (λ z. omega (arith, ap (slot_of lead) z, next_slot)) in
          record {
            counted = rw e.counts f.counted;
            walked = rw e.positions f.walked;
            ahead = λ r l b.
                let g = f.ahead r l b in (
                  omega (arith, g.0, ap (λ (v : Walk). v.next) e.counts),
                  omega (arith, g.1, ap (λ (v : Walk). v.next) e.positions),
                );
          }

      -- ---- a start that the word allows

      module _ (found : ℕ) (some : sought ≡ Some found) where
        -- the start of which the position tells
        abbrev next : ℕ
        next = found - d

        -- the position, and that none is before it
        there : (at.start + d ≤ found) × (found < limit) × (member found (page_at s ps after i) ≡ true)
            × ((b : ℕ) → at.start + d ≤ b → b < found → member b (page_at s ps after i) ≡ false)
        there = rw some at t.first

        -- it is not before the one that was tried, and within the limit
        next_there : (next + d ≡ found) × (at.start ≤ next) × (next < limit)
        next_there =
            let f = there in
            (omega (arith, f.0), omega (arith, f.0), omega (arith, f.1))

        -- none lies before it
        later : starts_below phrase p next ≡ starts_below phrase p at.start
        later =
            below_skip phrase p at.start next next_there.1
            (λ b l h. no_start b (there.3 (b + d) (omega arith) (omega (arith, next_there.0))))

        -- the word stands at the start that was tried
        stands_there : next ≡ at.start → member (at.start + d) (positions_here s ts p i) ≡ true
        stands_there e =
            let f : found ≡ at.start + d = omega (arith, next_there.0) in
            rw (f, here) at there.2

        -- so do those that were tried before it
        all_stand : next ≡ at.start → (j : ℕ) → j < k → slot_of lead j < at.standing + 1
            → member (at.start + get_or ds j 0) (positions_here s ts p j) ≡ true
        all_stand e j h l =
            elim (ℕ_discrete j i) [
              | yes z ↦ rw z (stands_there e)
              | no z ↦ y.stand j h (apart (slot_of lead j) l (λ g.
                  z (sym (source_slot lead j) ∙ ap (source_of lead) g)))
            ]
          where
            apart : (m : ℕ) → m < at.standing + 1 → (m ≡ at.standing → ⊥) → m < at.standing
            apart m l g = omega arith

        all_there : next ≡ at.start → (at.standing + 1 < k → ⊥) → stands phrase p at.start ≡ true
        all_there e g =
            stands_all s p ts ds y.enough at.start (λ j h.
            all_stand e j h (omega (arith, slot_lt lead j k (lead_within s ts pg a.pages lead a.leads) h)))

        goes_on : (n m c : ℕ) → at.start ≤ n → n ≤ limit → m < k → m ≤ at.turned
            → ((j : ℕ) → j < k → slot_of lead j < m → member (n + get_or ds j 0) (positions_here s ts p j) ≡ true)
            → c ≡ starts_below phrase p n
            → Trying s ts ds lead ct ps p (record { turned = at.turned; start = n; standing = m; count = c }) after
        goes_on n m c l small few order stand count = record {
          room = t.ready.room;
          enough = y.enough;
          some = few;
          order = order;
          within = y.within;
          small = small;
          words = words_later n l;
          others = others_later;
          stand = stand;
          counted = count;
        }

        pub trying_goes : Trying s ts ds lead ct ps p (tried_at at next k) after
        unfolding tried_at
        trying_goes =
            let f = next_there in
            elim (ℕ_discrete next at.start) [
              | yes e ↦ elim (dec_lt (at.standing + 1) k) [
                | yes h ↦ rw (eq-eqb next at.start e, lt-ltb (at.standing + 1) k h)
                    (goes_on at.start (at.standing + 1) at.count (omega arith) y.small h (omega arith)
                    (all_stand e) y.counted)
                | no h ↦ rw (eq-eqb next at.start e, le-ltb (at.standing + 1) k (omega arith))
                    (goes_on (at.start + 1) 0 (at.count + 1) (omega arith) (omega (arith, f.2))
                    (omega (arith, y.some)) (omega arith) (λ j l g. absurd (omega arith))
                    (ap (λ (c : ℕ). c + 1) y.counted ∙ sym (below_found phrase p at.start (all_there e h))))
              ]
              | no e ↦ rw (ne_eqb next at.start e)
                  (goes_on next 0 at.count f.1 (omega (arith, f.2)) (omega (arith, y.some)) (omega arith)
                  (λ j l g. absurd (omega arith)) (y.counted ∙ sym later))
            ]

        -- what is left to be tried becomes less
        pub trying_less : k ≤ 8 → left (tried_at at next k) < left at
        unfolding tried_at
        trying_less few =
            let f = next_there in
            elim (ℕ_discrete next at.start) [
              | yes e ↦ elim (dec_lt (at.standing + 1) k) [
                | yes h ↦ rw (eq-eqb next at.start e, lt-ltb (at.standing + 1) k h) (omega arith)
                | no h ↦ rw (eq-eqb next at.start e, le-ltb (at.standing + 1) k (omega arith))
                    (omega (arith, y.some, f.2))
              ]
              | no e ↦ rw (ne_eqb next at.start e) (omega (arith, y.some, f.1, f.2))
            ]

      -- ---- the end

      module _ (q : Query) (o : OnAll s ts pg q p) (first : get_or ds 0 0 ≡ 0) (none : sought ≡ None) where
        none_later : (n : ℕ) → at.start ≤ n → starts_below phrase p n ≡ at.count
        none_later n l =
            let lacks : (b : ℕ) → at.start + d ≤ b → member b (page_at s ps after i) ≡ false = rw none at t.first in
            below_skip phrase p at.start n l (λ b g h. no_start b (lacks (b + d) (omega arith)))
            ∙ sym y.counted

        -- the starts before it are all
        all_counted : at.count ≡ starts phrase p
        all_counted =
            let h : 0 < k = a.pages.lists.some in
            let U : ℕ = list_u (positions_of (term_at s ts 0)) in
            let rises : Rises 0 (at.start + U) (positions_here s ts p 0) =
            rises_more 0 U (at.start + U) (positions_here s ts p 0) (omega arith)
            (positions_rise (index_v s) (term_at s ts 0) (a.accepts 0 h) (rank_by s pg q (slot_of lead 0))
            (is_ranked s ts lead pg ct ps a q p o 0 h) p (page_there s ts lead pg ct ps a q p o 0 h)) in
            sym (starts_below_lem s ts ds h y.enough first p (at.start + U) rises
            ∙ none_later (at.start + U) (omega arith))

        pub trying_ends : (at.count ≡ starts phrase p) × (at.count < 2 ^ 32) × Ahead s ts ct ps after (p + 1)
        trying_ends = (
          all_counted,
          omega (arith, counted_few, y.small),
          record {
            room = t.ready.room;
            each = λ j h. elim (dec_lt (slot_of lead j) at.turned) [
              | yes g ↦
                  let d = words_later at.start (omega arith) j h g in
                  let v = d.term in
                  record {
                    counted = d.counted.on;
                    walked = d.ready.passing.on;
                    ahead = λ r l b.
                        let e =
                        rank_later (index_v s) (term_at s ts j) v.accepts v.rank r p v.ranked v.page_is b in (
                          omega (arith, d.counted.at, e),
                          omega (
                            arith,
                            d.ready.passing.inside,
                            v.end_is,
                            before_mono (index_v s) (term_at s ts j) v.accepts (v.rank + 1) r
                                (omega (arith, e)) (omega arith),
                          ),
                        );
                  }
              | no g ↦
                  let f = others_later j h (omega arith) in
                  record {
                    counted = f.counted;
                    walked = f.walked;
                    ahead = λ r l b. f.ahead r l (omega arith);
                  }
            ];
          },
        )
