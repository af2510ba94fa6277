-- The rank of a page by the cursor that is on it, and a word turned to the page by its rank.
use mathlib.Core.Path.{◌≡◌, sym, ap, ap₂, ◌∙◌}
use mathlib.Core.List.{List}
use Prim.Native.Nat.{ℕ, ◌+◌, ◌*◌, ◌≤◌, ◌<◌}
use native.Mathlib.Decide.{ℕ_discrete}
use native.Mathlib.Omega.{arith}
use lib.ListN.{length, get_or}
use Rattle.rules.specs.ReadList.{list_n, decode}
use Rattle.rules.specs.ReadTerm.{pages_of, counts_of, positions_of, read_word}
use Rattle.rules.specs.Index.{index_v, word_of}
use Rattle.rules.specs.Questions.{pages_in as pagesOn}
use Rattle.termlaws.proofs.PassedLaws.{accepted_passed}
use Rattle.termlaws.proofs.ReadLaws.{pages_listed}
use Rattle.readlaws.proofs.ReadLaws.{open_reads}
use Rattle.walklaws.proofs.OpenLaws.{open_n, open_length}
use Rattle.querylaws.specs.declared.Query.{Query}
use Rattle.querylaws.specs.Lists.{number_of, part_at, shape_in, pages_at, ListAt}
use Rattle.span.specs.declared.Walk.{Walk}
use Rattle.span.specs.Walks.{past}
use Rattle.turning.specs.declared.Ranks.{Ranks}
use Rattle.turning.specs.Words.{elements_at, count_walk, position_walk, ranks_of, base_in, Readable, Walked, TurnedOn}
use Rattle.openlists.specs.Places.{source_of, slot_of}
use Rattle.openlists.proofs.SourceLaws.{slot_lt, source_slot}
use Rattle.wordlists.specs.Lying.{list_of}
use Rattle.wordlists.proofs.OpenLaws.{lead_within, slot_pages}
use Rattle.querylaws.specs.Ranks.{rank_by}
use Rattle.querylaws.proofs.RankLaws.{Ranked, ranked}
use Rattle.trial.specs.declared.Trial.{Trial}
use Rattle.triallaws.specs.Spans.{positions_before, PageIn, TermAt}
use Rattle.triallaws.specs.Asked.{term_at, Asked, OnAll, AheadOf, TurnedTo, Trying}
use Rattle.triallaws.proofs.WordLaws.{SameWord, same_word, same_other, counts_rest, counts_same, term_same}
use Rattle.triallaws.proofs.WordLaws.{ready_same, ready_more, ready_begun}
use Rattle.triallaws.proofs.SpanLaws.{page_in}
use Rattle.triallaws.proofs.PositionLaws.{page_bounds}

-- ---- the words' lists

module _ (s ts : List ℕ) (lead : ℕ) (pg ct ps : List ℕ) (a : Asked s ts lead pg ct ps) where
  abbrev k : ℕ
  k = length ts

  pub lead_few : lead < 8
  lead_few = omega (arith, lead_within s ts pg a.pages lead a.leads, a.pages.lists.few)

  module _ (i : ℕ) (h : i < k) where
    -- where the pages of word i stand
    abbrev slot : ℕ
    slot = slot_of lead i

    pub slot_within : slot < k
    slot_within = slot_lt lead i k (lead_within s ts pg a.pages lead a.leads) h

    asked_list : ListAt s pg slot
    asked_list = a.pages.lists.each slot slot_within

    asked_pages : pages_at s pg slot ≡ decode (pages_of (term_at s ts i))
    unfolding pagesOn word_of read_word
    asked_pages = slot_pages s ts pg a.pages lead a.leads i h

    -- as many counts as pages
    same_count : length (pages_at s pg slot) ≡ number_of ct i 7
    unfolding list_of counts_of shape_in
    same_count =
        let t = term_at s ts i in
        let y = a.counts.slot i h in
        ap length asked_pages ∙ (pages_listed (index_v s) t (a.accepts i h)).count
        ∙ sym (accepted_passed (index_v s) t (a.accepts i h)).counts_n
        ∙ sym (ap list_n y.part_is) ∙ open_n (part_at s ct i) (shape_in ct i) y.block.opened

    -- ---- a page that all cursors are on

    module _ (q : Query) (p : ℕ) (o : OnAll s ts pg q p) where
      pub asked_rank : Ranked s pg q slot p
      asked_rank = ranked s pg q slot p asked_list (o.held slot slot_within) (o.on_page_lem slot slot_within)

      rank_counted : rank_by s pg q slot < number_of ct i 7
      rank_counted = rw (← same_count) asked_rank.within

  -- ---- one word more is turned

  module _ (q : Query) (p : ℕ) (o : OnAll s ts pg q p) (i : ℕ) (h : i < k) where
    abbrev t : List ℕ
    t = term_at s ts i

    abbrev rank : ℕ
    rank = rank_by s pg q (slot_of lead i)

    pub is_ranked : rank < length (decode (pages_of t))
    is_ranked =
        let e = asked_pages i h in
        rw e at (asked_rank i h q p o).within

    pub page_there : get_or (decode (pages_of t)) rank 0 ≡ p
    page_there =
        let e = asked_pages i h in
        rw e at (asked_rank i h q p o).there

    counts_part : part_at s ct i ≡ counts_of t
    unfolding list_of counts_of
    counts_part = (a.counts.slot i h).part_is

    positions_part : part_at s ps i ≡ positions_of t
    unfolding list_of positions_of
    positions_part = (a.positions.slot i h).part_is

    on_page_lem : PageIn t rank
    on_page_lem = page_in (index_v s) t (a.accepts i h) rank is_ranked

    -- there are few positions
    pub positions_small : length (decode (positions_of t)) ≤ 16777216
    unfolding shape_in
    positions_small =
        let o = (a.positions.slot i h).block.opened in
        let r = open_reads (part_at s ps i) (shape_in ps i) o in
        omega (
          arith,
          r.below,
          r.within,
          open_length (part_at s ps i) (shape_in ps i) o,
          ap
              (λ (l : List ℕ). length (decode l)) positions_part,
        )

    -- what is asked where the page's ranks are read
    pub rank_ready : (ws : List ℕ) → length ws ≡ 64 → AheadOf s ts ct ps ws p i → Readable s ct ws i (8 * i)
        × ((count_walk ws i).next ≤ rank) × (rank < number_of ct i 7)
    rank_ready ws r f = (
      record { block = (a.counts.slot i h).block; room = r; on = f.counted },
      (f.ahead rank is_ranked (rw page_there (omega arith))).0,
      rank_counted i h q p o,
    )

    module _ (x : Ranks) (is : x ≡ ranks_of (elements_at s ct i) rank) where
      pub from_is : x.from ≡ positions_before t rank
      from_is = rw (is, counts_part)

      pub to_is : x.to ≡ positions_before t (rank + 1)
      to_is = rw (is, counts_part)

      module _ (ws mid : List ℕ) (c : Walked s ct ws i (8 * i) (rank + 1) mid) where
        -- what is asked where the word is turned to them
        pub turn_ready : AheadOf s ts ct ps ws p i → Readable s ps mid i (8 * i + 3)
            × ((position_walk mid i).next ≤ x.from) × (x.from ≤ number_of ps i 7)
        unfolding shape_in
        turn_ready f =
            let b = (a.positions.slot i h).block in
            let n = open_length (part_at s ps i) (shape_in ps i) b.opened in
            let e = counts_rest ws i mid c.kept in (
              record { block = b; room = c.readable.room; on = rw e f.walked },
              omega (
                arith,
                from_is,
                ap (λ (z : Walk). z.next) e,
                (f.ahead rank is_ranked (rw page_there (omega arith))).1,
              ),
              omega (
                arith,
                from_is,
                on_page_lem.some,
                on_page_lem.within,
                n,
                ap (λ (l : List ℕ). length (decode l))
                    positions_part,
              ),
            )

        module _ (ds : List ℕ) (at : Trial) (after : List ℕ) (y : Trying s ts ds lead ct ps p at ws)
            (next : slot_of lead i ≡ at.turned) (w : TurnedOn s ps mid i x after) where
          abbrev term_here : TermAt s ps after p i t
          term_here = record {
            accepts = a.accepts i h;
            rank = rank;
            ranked = is_ranked;
            page_is = page_there;
            part_is = positions_part;
            base_is = w.base_is ∙ ap₂ past (ap decode positions_part) from_is;
            end_is = w.end_is ∙ to_is;
          }

          turned_here : TurnedTo s ts ct ps p (at.start + get_or ds i 0) after i
          turned_here =
              let on = w.readable.on in
              let before : (position_walk after i).past ≡ base_in after i =
              on.past_is ∙ ap (past (elements_at s ps i)) w.at ∙ sym w.base_is in
              let e = counts_same mid i after (8 * i + 8) w.kept in
              record {
                term = term_here;
                counted = rw e (record { on = c.readable.on; at = c.at });
                ready =
                    ready_more s ps after i (base_in after i) (base_in after i + (at.start + get_or ds i 0)) (omega arith)
                    (ready_begun s ps after i w.readable.room on before
                    (omega (arith, w.at, from_is, term_here.end_is, on_page_lem.some))
                    (page_bounds s ps after p i t term_here).0);
              }

          -- the other words are as they were
          module _ (j : ℕ) (d : j ≡ i → ⊥) where
            same : SameWord ws after j
            same =
                same_word ws mid after j (same_other ws i mid (8 * i) (8 * i + 3) (omega arith) (omega arith) c.kept j d)
                (same_other mid i after (8 * i + 3) (8 * i + 8) (omega arith) (omega arith) w.kept j d)

            turned_there : (b : ℕ) → TurnedTo s ts ct ps p b ws j → TurnedTo s ts ct ps p b after j
            turned_there b u =
                let e = same in
                record {
                  term = term_same s ps ws after p j (term_at s ts j) e.base e.end u.term;
                  counted = rw e.counts u.counted;
                  ready =
                      rw e.base (ready_same s ps ws after j (base_in ws j + b) w.readable.room
                      e.positions e.end u.ready);
                }

            ahead_there : AheadOf s ts ct ps ws p j → AheadOf s ts ct ps after p j
            ahead_there f =
                let e = same in
                record {
                  counted = rw e.counts f.counted;
                  walked = rw e.positions f.walked;
                  ahead = λ r l b.
                      let g = f.ahead r l b in (
                        omega (arith, g.0, ap (λ (z : Walk). z.next) e.counts),
                        omega (arith, g.1, ap (λ (z : Walk). z.next) e.positions),
                      );
                }

          pub trying_turned : Trying s ts ds lead ct ps p (record {
            turned = at.turned + 1;
            start = at.start;
            standing = at.standing;
            count = at.count;
          }) after
          trying_turned = record {
            room = w.readable.room;
            enough = y.enough;
            some = y.some;
            order = omega (arith, y.order);
            within = omega (arith, next, slot_within i h);
            small = y.small;
            words = λ j l g. elim (ℕ_discrete j i) [
              | yes e ↦ rw e turned_here
              | no e ↦ turned_there j e (at.start + get_or ds j 0) (y.words j l (omega (arith, apart j e)))
            ];
            others = λ j l g. elim (ℕ_discrete j i) [
              | yes e ↦ absurd (omega (arith, next, ap (slot_of lead) e))
              | no e ↦ ahead_there j e (y.others j l (omega arith))
            ];
            stand = y.stand;
            counted = y.counted;
          }
            where
              apart : (j : ℕ) → (j ≡ i → ⊥) → slot_of lead j ≡ at.turned → ⊥
              apart j e z = e (sym (source_slot lead j) ∙ ap (source_of lead) (z ∙ sym next) ∙ source_slot lead i)
