-- From page to page: the cursors after a turn, words that have the pages ahead, and what a page gives for a word alone.
use mathlib.Core.Path.{◌≡◌, ap, ap₂, ◌∙◌}
use mathlib.Core.List.{List}
use Prim.Native.Nat.{ℕ, ◌+◌, ◌-◌, ◌*◌, ◌^◌, ◌≤◌, ◌<◌}
use native.Mathlib.Decide.{dec_lt, ℕ_discrete}
use native.Mathlib.Omega.{arith}
use lib.ListN.{length, get_or, length-replicate, get_or-replicate}
use Rattle.rules.specs.Verdict.{Accepted}
use Rattle.rules.specs.ReadList.{list_u, decode}
use Rattle.rules.specs.ReadTerm.{pages_of, term_refusal}
use Rattle.rules.specs.Index.{index_v}
use Rattle.rules.specs.Plain.{starts}
use Rattle.termlaws.proofs.ReadLaws.{pages_listed}
use Rattle.seeklaws.proofs.FirstLaws.{rising_lt}
use Rattle.commonlaws.specs.Readers.{OnPage, AllOnPage}
use Rattle.walklaws.specs.Cursors.{spent_mark}
use Rattle.querylaws.specs.declared.Query.{Query}
use Rattle.querylaws.specs.declared.Turn.{Turn}
use Rattle.querylaws.specs.Lists.{part_at, shape_in}
use Rattle.querylaws.specs.Queries.{reader_at, lead_in, others_in, Apt, Turned}
use Rattle.querylaws.proofs.RunLaws.{came}
use Rattle.querylaws.proofs.TurnLaws.{turned_page}
use Rattle.span.specs.declared.Walk.{Walk}
use Rattle.span.specs.Walks.{past}
use Rattle.span.proofs.WalkLaws.{walk_new}
use Rattle.turning.specs.declared.Ranks.{Ranks}
use Rattle.turning.specs.Words.{elements_at, walk_at, count_walk, position_walk, ranks_of, Walked}
use Rattle.openlists.specs.Places.{slot_of}
use Rattle.querylaws.specs.Ranks.{rank_by}
use Rattle.querylaws.proofs.RankLaws.{all_on}
use Rattle.triallaws.specs.Asked.{phrase_at, term_at, new_words, Asked, OnAll, Ahead}
use Rattle.triallaws.proofs.WordLaws.{counts_rest}
use Rattle.triallaws.proofs.SpanLaws.{page_in}
use Rattle.triallaws.proofs.PositionLaws.{lone_starts}
use Rattle.triallaws.proofs.RankLaws.{is_ranked, page_there, from_is, to_is, positions_small}

-- ---- the cursors after a turn

pub turned_least : (s pg : List ℕ) (k : ℕ) (q : Query) (b : ℕ) → Apt s pg k q b → (t : Turn) → Turned s pg k q b t
    → (t.mark ≡ spent_mark → ⊥) → b ≤ t.mark - 1
turned_least s pg k q b a t u h =
    let p = turned_page s pg k q b a t u h in
    let hit = rw p.3 at (came s pg k q b a).ends in
    omega (arith, p.2, hit.later)

pub turned_on : (s ts pg : List ℕ) (q : Query) (b : ℕ) → Apt s pg (length ts) q b → (t : Turn)
    → Turned s pg (length ts) q b t → (t.mark ≡ spent_mark → ⊥) → OnAll s ts pg t.q (t.mark - 1)
turned_on s ts pg q b a t u h =
    let k : ℕ = length ts in
    let p = turned_page s pg k q b a t u h in
    let hit = rw p.3 at (came s pg k q b a).ends in
    let e : t.mark - 1 ≡ p.0 = omega (arith, p.2) in
    let first : OnPage p.0 (lead_in s pg t.q) = rw u.lead hit.on_page_lem.0 in
    let rest : AllOnPage p.0 (others_in s pg k t.q) = rw u.others hit.on_page_lem.1 in
    record {
      eight = u.eight;
      held = (u.running t.mark h (omega arith)).apt.held;
      on_page_lem = λ i l. rw e (elim (ℕ_discrete i 0) [
        | yes z ↦ rw z first
        | no z ↦ all_on p.0 (reader_at s pg t.q) (k - 1) 1 rest i (omega arith) (omega arith)
      ]);
    }

-- ---- from page to page

-- no element of any list is passed
new_walk : (j : ℕ) → j < 62 → ◌≡◌ {A = Walk} (walk_at new_words j) (record { next = 0; past = 0; place = 0 })
new_walk j h =
    let x : get_or new_words j 0 ≡ 0 = get_or-replicate 64 j 0 0 (omega arith) in
    let y : get_or new_words (j + 1) 0 ≡ 0 = get_or-replicate 64 (j + 1) 0 0 (omega arith) in
    let z : get_or new_words (j + 2) 0 ≡ 0 = get_or-replicate 64 (j + 2) 0 0 (omega arith) in
    rw (x, y, z)

pub ahead_new : (s ts : List ℕ) (lead : ℕ) (pg ct ps : List ℕ) → Asked s ts lead pg ct ps → Ahead s ts ct ps new_words 0
ahead_new s ts lead pg ct ps a = record {
  room = length-replicate {A = ℕ} 64 0;
  each = λ i h.
      let few = a.pages.lists.few in
      let x = new_walk (8 * i) (omega (arith, few)) in
      let y = new_walk (8 * i + 3) (omega (arith, few)) in
      let m : (count_walk new_words i).next ≡ 0 = ap (λ (v : Walk). v.next) x in
      let n : (position_walk new_words i).next ≡ 0 = ap (λ (v : Walk). v.next) y in
      record {
        counted = rw x (walk_new (part_at s ct i) (shape_in ct i) (a.counts.slot i h).block.opened);
        walked = rw y (walk_new (part_at s ps i) (shape_in ps i) (a.positions.slot i h).block.opened);
        ahead = λ r l b. (omega (arith, m), omega (arith, n));
      };
}

-- what has the pages from b on ahead has those from d on
pub ahead_more : (s ts ct ps ws : List ℕ) (b d : ℕ) → b ≤ d → Ahead s ts ct ps ws b → Ahead s ts ct ps ws d
ahead_more s ts ct ps ws b d l f = record {
  room = f.room;
  each = λ i h. record {
    counted = (f.each i h).counted;
    walked = (f.each i h).walked;
    ahead = λ r m g. (f.each i h).ahead r m (omega arith);
  };
}

-- a page behind that of a rank has a larger one
pub rank_later : (v : ℕ) (t : List ℕ) → term_refusal v t ≡ Accepted → (r q p : ℕ) → r < length (decode (pages_of t))
    → get_or (decode (pages_of t)) r 0 ≡ p → p + 1 ≤ get_or (decode (pages_of t)) q 0 → r < q
rank_later v t a r q p h e l =
    elim (dec_lt r q) [
      | yes g ↦ g
      | no g ↦ elim (ℕ_discrete r q) [
        | yes d ↦ absurd (omega (arith, ap (λ (j : ℕ). get_or (decode (pages_of t)) j 0) d))
        | no d ↦ absurd (omega (
          arith,
          rising_lt 0 (list_u (pages_of t)) (decode (pages_of t)) (pages_listed v t a).rises q r
              (omega (arith, d)) h,
        ))
      ]
    ]

module _ (s ts : List ℕ) (lead : ℕ) (pg ct ps : List ℕ) (a : Asked s ts lead pg ct ps) (ds : List ℕ)
    (enough : 0 < length ds) (first : get_or ds 0 0 ≡ 0) (p : ℕ) where
  -- ---- a word alone

  pub lone_counted : (q : Query) → OnAll s ts pg q p → length ts ≡ 1 → (ws : List ℕ) → Ahead s ts ct ps ws p
      → (x : Ranks) → x ≡ ranks_of (elements_at s ct 0) (rank_by s pg q (slot_of lead 0)) → (after : List ℕ)
      → Walked s ct ws 0 0 (rank_by s pg q (slot_of lead 0) + 1) after
      → (x.from ≤ x.to) × (x.to - x.from ≡ starts (phrase_at s ts ds) p) × (x.to - x.from < 2 ^ 32)
      × Ahead s ts ct ps after (p + 1)
  lone_counted q o one ws f x is after w =
      let h : 0 < length ts = a.pages.lists.some in
      let t : List ℕ = term_at s ts 0 in
      let rank : ℕ = rank_by s pg q (slot_of lead 0) in
      let r = is_ranked s ts lead pg ct ps a q p o 0 h in
      let e = page_there s ts lead pg ct ps a q p o 0 h in
      let from = from_is s ts lead pg ct ps a q p o 0 h x is in
      let to = to_is s ts lead pg ct ps a q p o 0 h x is in
      let g = page_in (index_v s) t (a.accepts 0 h) rank r in
      let n = positions_small s ts lead pg ct ps a q p o 0 h in (
        omega (arith, from, to, g.some),
        ap₂ (λ (u v : ℕ). u - v) to from ∙ lone_starts s ts ds p rank one enough first (a.accepts 0 h) r e,
        omega (arith, to, g.within, n),
        record {
          room = w.readable.room;
          each = λ i l.
              let z : i ≡ 0 = omega arith in
              let v = counts_rest ws 0 after w.kept in
              rw z (record {
                counted = w.readable.on;
                walked = rw v (f.each 0 h).walked;
                ahead =
                    λ j m b. (
                      omega (arith, w.at, rank_later (index_v s) t (a.accepts 0 h) rank j p r e b),
                      omega (arith, ((f.each 0 h).ahead j m (omega arith)).1, ap (λ (z : Walk). z.next) v),
                    );
              });
        },
      )
