-- Laws of a run of seeks: the counts stay narrow, and the loop that finds the next common page comes to the rule's.
use mathlib.Core.Path.{◌≡◌, refl, sym, ap, ◌∙◌}
use mathlib.Core.List.{List, ◌∷◌}
use Prim.Native.Nat.{ℕ, ◌+◌, ◌-◌, ◌*◌, ◌^◌, ◌≤◌, ◌<◌}
use native.Mathlib.Nat.{mul-le-mul_left}
use native.Mathlib.Omega.{arith}
use borrow.Author.Tests.{eq-eqb, ne_eqb}
use lib.ListN.{length}
use lib.Seq.{get_or-set_same}
use Rattle.rules.specs.Seek.{Found, none, page}
use Rattle.commonlaws.specs.Readers.{Ready, AllReady, words_of, left_in}
use Rattle.commonlaws.specs.Next.{Next, stop, plus}
use Rattle.commonlaws.specs.Outcomes.{Ends, Came}
use Rattle.commonlaws.proofs.SharedLaws.{from_mono}
use Rattle.commonlaws.proofs.AgreeLaws.{ready_more}
use Rattle.commonlaws.proofs.NextLaws.{next_came}
use Rattle.walklaws.specs.declared.Cursor.{Cursor}
use Rattle.walklaws.specs.Cursors.{spent_mark, unused}
use Rattle.querylaws.specs.declared.Query.{Query}
use Rattle.querylaws.specs.declared.Turn.{Turn}
use Rattle.querylaws.specs.Lists.{pages_at, bound_in}
use Rattle.querylaws.specs.Queries.{cursor_in, with_cursor, reader_at, lead_in, others_in, moved_in, seeks_of}
use Rattle.querylaws.specs.Queries.{looks_of, mark_found, next_for, list_after, Seekable, Apt, Running, Turned}
use Rattle.querylaws.specs.Batches.{bit_behind}
use Rattle.querylaws.proofs.SpanLaws.{length_span, span_cons, span_ready}
use Rattle.querylaws.proofs.PendingLaws.{cursor_rank, list_after_larger, list_after_same, list_after_le, pending}
use Rattle.querylaws.proofs.PendingLaws.{pending_end}
use Rattle.querylaws.proofs.ListLaws.{list_within, list_length, span_words}
use Rattle.querylaws.proofs.QueryLaws.{total_at, left, seek_apt, seek_seeks, mark_some, left_none, left_page}
use Rattle.querylaws.proofs.QueryLaws.{spent_bit, end_of, end_all, end_none, end_page, page_least}

apt_more : (s sh : List ℕ) (k : ℕ) (q : Query) (b d : ℕ) → Apt s sh k q b → b ≤ d → Apt s sh k q d
apt_more s sh k q b d a l = record {
  lists = a.lists;
  eight = a.eight;
  held = a.held;
  ready = λ i h. ready_more (bound_in sh) b d (reader_at s sh q i) (a.ready i h) l;
}

-- ---- the counts stay narrow

module _ (s sh : List ℕ) (k : ℕ) (q : Query) (b : ℕ) (a : Apt s sh k q b) where
  some : 0 < k
  some = a.lists.some

  pub lead_ready : Ready (bound_in sh) b (lead_in s sh q)
  lead_ready = a.ready 0 some

  pub others_ready : AllReady (bound_in sh) b (others_in s sh k q)
  others_ready = span_ready (reader_at s sh q) (bound_in sh) b (k - 1) 1 (λ j l m. a.ready j (omega (arith, some)))

  others_count : 1 + length (others_in s sh k q) ≡ k
  others_count = omega (arith, some, length_span (reader_at s sh q) 1 (k - 1))

  pub came : Came (bound_in sh) b (lead_in s sh q) (others_in s sh k q) (next_for s sh k q b)
  came = next_came (bound_in sh) (lead_in s sh q) (others_in s sh k q) b lead_ready others_ready

  words_bound : words_of (bound_in sh) (lead_in s sh q ∷ others_in s sh k q) ≤ 2 ^ 23
  unfolding reader_at
  words_bound =
      let z : k - 0 ≡ k = omega arith in
      let e = rw z at (span_cons (reader_at s sh q) 0 k some) in
      let w = span_words (bound_in sh) (reader_at s sh q) (list_within s sh 0 (a.lists.each 0 some)) k 0
      (λ j l m. list_length s sh j (a.lists.each j (omega arith))) in
      omega (arith, rw e at w, a.lists.few)

pub record Narrow (seeks looks : ℕ) : Type 0 where
  pub seeks_few : seeks ≤ 2 ^ 28
  pub looks_few : looks ≤ 2 ^ 29

module _ (s sh : List ℕ) (k : ℕ) (q : Query) (b : ℕ) (r : Running s sh k q b) where
  ends_few : (f : Found) → Ends (bound_in sh) b (lead_in s sh q) (others_in s sh k q) (next_for s sh k q b) f
      → (next_for s sh k q b).seeks ≤ k * left_in b (lead_in s sh q) + 1
  ends_few (none n) e = rw (others_count s sh k q b r.apt) at e.1.few
  ends_few (page c i) e = omega (arith, rw (others_count s sh k q b r.apt) at e.few)

  next_narrow : Narrow (seeks_of q + (next_for s sh k q b).seeks) (looks_of q + (next_for s sh k q b).looks)
  next_narrow =
      let c = came s sh k q b r.apt in
      let n = ends_few (next_for s sh k q b).found c.ends in record {
        seeks_few = omega (arith, r.seeks);
        looks_few = omega (
          arith,
          r.seeks,
          r.looks,
          c.carried.paid,
          c.carried.reach,
          words_bound s sh k q b r.apt,
        );
      }

-- ---- the loop of the next common page

module _ (s sh : List ℕ) (k : ℕ) (q₀ : Query) (b₀ : ℕ) where
  -- list i of q is to be sought for b
  pub record Midst (q : Query) (b i : ℕ) : Type 0 where
    pub running : Running s sh k q₀ b₀
    pub apt : Apt s sh k q b
    pub within : i ≤ k
    pub same : left s sh k q i b ≡ left s sh k q₀ 0 b₀
    pub ends : end_of s sh k q i b ≡ end_of s sh k q₀ 0 b₀

  pub midst_start : Running s sh k q₀ b₀ → Midst q₀ b₀ 0
  midst_start r = record { running = r; apt = r.apt; within = omega arith; same = refl; ends = refl }

  -- where it ends with the answer f
  module _ (f : Found) (t : Turn) (b : ℕ) (r : Running s sh k q₀ b₀) (a : Apt s sh k t.q b)
      (same : plus (seeks_of t.q) (looks_of t.q) (stop f (lead_in s sh t.q) (others_in s sh k t.q))
      ≡ left s sh k q₀ 0 b₀)
    where
      found_is : f ≡ (next_for s sh k q₀ b₀).found
      unfolding plus stop pending
      found_is = ap (λ (n : Next). n.found) same

      seeks_are : seeks_of t.q ≡ seeks_of q₀ + (next_for s sh k q₀ b₀).seeks
      unfolding plus stop pending
      seeks_are = omega (arith, ap (λ (n : Next). n.seeks) same)

      looks_are : looks_of t.q ≡ looks_of q₀ + (next_for s sh k q₀ b₀).looks
      unfolding plus stop pending
      looks_are = omega (arith, ap (λ (n : Next). n.looks) same)

      lead_is : lead_in s sh t.q ≡ (next_for s sh k q₀ b₀).lead
      unfolding plus stop pending
      lead_is = ap (λ (n : Next). n.lead) same

      others_are : others_in s sh k t.q ≡ (next_for s sh k q₀ b₀).others
      unfolding plus stop pending
      others_are = ap (λ (n : Next). n.others) same

      same_pages : (lead_in s sh t.q).pages ≡ (lead_in s sh q₀).pages
      unfolding reader_at
      same_pages = refl

      running_from : (c j d : ℕ) → f ≡ page c j → b ≤ d → c < d → Running s sh k t.q d
      running_from c j d e l g =
          let n = came s sh k q₀ b₀ r.apt in
          let hit = rw (sym found_is ∙ e) at n.ends in
          let few = rw (others_count s sh k q₀ b₀ r.apt) at hit.few in
          let fewer = mul-le-mul_left k (from_mono (c + 1) d (lead_in s sh q₀).pages (omega arith)) in record {
            apt = apt_more s sh k t.q b d a l;
            seeks = rw same_pages (omega (arith, seeks_are, few, fewer, r.seeks));
            looks = rw (lead_is, others_are) (omega (arith, seeks_are, looks_are, n.carried.paid, r.looks));
          }

      turned_from : t.q ≡ end_of s sh k q₀ 0 b₀ → t.mark ≡ mark_found f
          → ((c j : ℕ) → f ≡ page c j → b ≤ c)
          → Turned s sh k q₀ b₀ t
      turned_from p e h =
          let n = next_narrow s sh k q₀ b₀ r in record {
            query = unfold pending in p;
            eight = a.eight;
            mark = e ∙ ap mark_found found_is;
            lead = lead_is;
            others = others_are;
            seeks = seeks_are;
            looks = looks_are;
            narrow = (rw seeks_are n.seeks_few, rw looks_are n.looks_few);
            running = go f refl;
          }
        where
          go : (g : Found) → g ≡ f → (d : ℕ) → (t.mark ≡ spent_mark → ⊥) → t.mark ≤ d → Running s sh k t.q d
          go (none n) g d u l = absurd (u (e ∙ ap mark_found (sym g) ∙ (unfold mark_found in refl)))
          go (page c j) g d u l =
              let m : t.mark ≡ c + 1 = e ∙ ap mark_found (sym g) ∙ (unfold mark_found in refl) in
              running_from c j d (sym g) (omega (arith, h c j (sym g))) (omega arith)

  so_far : (q : Query) (b i : ℕ) → Midst q b i
      → (seeks_of q ≤ seeks_of q₀ + (next_for s sh k q₀ b₀).seeks) × (looks_of q ≤ looks_of q₀ + (next_for s sh k q₀ b₀).looks)
  unfolding plus pending
  so_far q b i m = (
    omega (arith, ap (λ (n : Next). n.seeks) m.same),
    omega (arith, ap (λ (n : Next). n.looks) m.same),
  )

  midst_end : (p n : ℕ) (q : Query) (b i : ℕ) → Midst q b i → k ≤ i
      → Turned s sh k q₀ b₀ (record { q = q; mark = b + 1; bit = p; found = n })
  midst_end p n q b i m h =
      let e : i ≡ k = omega (arith, m.within) in
      let end =
      ap (plus (seeks_of q) (looks_of q)) (pending_end (bound_in sh) k b (reader_at s sh q) m.apt.lists.some) in
      turned_from (page b (cursor_rank (lead_in s sh q).cursor)) (record { q = q; mark = b + 1; bit = p; found = n }) b
      m.running m.apt (sym end ∙ rw e at m.same)
      (sym (end_all s sh k q b m.apt.lists.some) ∙ rw e at m.ends) (unfold mark_found in refl)
      (λ c j z. let x : b ≡ c = cc in omega arith)

  module _ (q : Query) (b i : ℕ) (m : Midst q b i) where
    pub midst_seekable : i < k → Seekable s sh i (cursor_in q i)
    unfolding seeks_of looks_of
    midst_seekable h =
        let n = next_narrow s sh k q₀ b₀ m.running in
        let l = m.apt.lists.each i h in
        let f = so_far q b i m in
        let inside : i < length q.cursors = omega (arith, m.apt.eight, l.few) in record {
          list = l;
          held = m.apt.held i h;
          seeks = omega (arith, f.0, n.seeks_few, total_at (λ c. c.seeks) q.cursors i inside);
          looks = omega (arith, f.1, n.looks_few, total_at (λ c. c.looks) q.cursors i inside);
        }

    module _ (h : i < k) (c : Cursor) (w : c ≡ moved_in s sh i (cursor_in q i) b) where
      pub midst_none : (p n : ℕ) → c.mark ≡ spent_mark
          → Turned s sh k q₀ b₀ (record { q = with_cursor q i c; mark = c.mark; bit = p; found = n })
      midst_none p n =
          rw w
          (λ e.
          turned_from (none (length (pages_at s sh 0))) (record {
            q = with_cursor q i (moved_in s sh i (cursor_in q i) b);
            mark = (moved_in s sh i (cursor_in q i) b).mark;
            bit = p;
            found = n;
          }) b m.running
          (seek_apt s sh k q b m.apt i h b (omega arith)) (sym (left_none s sh k q b m.apt i h e) ∙ m.same)
          (sym (end_none s sh k q b m.apt i h e) ∙ m.ends)
          (e ∙ (unfold mark_found in refl))
          (λ c j z. let x : ◌≡◌ {A = ℕ} 0 1 = cc in absurd (omega arith)))

      -- its bit is then none
      pub midst_spent : c.mark ≡ spent_mark → c.bit ≡ bit_behind k (with_cursor q i c) c.mark
      unfolding bit_behind
      midst_spent e =
          rw (eq-eqb c.mark spent_mark e) (rw (← w) at (spent_bit s sh k q b m.apt i h) e)

      -- and that of the last list where all share a page
      pub midst_last : (c.mark ≡ spent_mark → ⊥) → k ≤ i + 1 → c.bit ≡ bit_behind k (with_cursor q i c) c.mark
      unfolding bit_behind
      midst_last e l =
          let last : k - 1 ≡ i = omega arith in
          let inside : i < length q.cursors = omega (arith, m.apt.eight, (m.apt.lists.each i h).few) in
          rw (ne_eqb c.mark spent_mark e, last, get_or-set_same q.cursors i c unused inside)

      pub midst_some : 0 < c.mark
      midst_some = rw w (mark_some s sh k q b m.apt i h)

      abbrev next : Cursor
      next = moved_in s sh i (cursor_in q i) b

      abbrev then : ℕ
      then = next.mark - 1

      next_apt : (next.mark ≡ spent_mark → ⊥) → Apt s sh k (with_cursor q i next) then
      next_apt e = seek_apt s sh k q b m.apt i h then (page_least s sh k q b m.apt i h e)

      step_to : (c.mark ≡ spent_mark → ⊥) → (j : ℕ) → list_after i b (c.mark - 1) ≡ j → j ≤ k
          → Midst (with_cursor q i c) (c.mark - 1) j
      step_to = rw w (λ e j a l. record {
        running = m.running;
        apt = next_apt e;
        within = l;
        same = rw (← a) (sym (left_page s sh k q b m.apt i h e) ∙ m.same);
        ends = rw (← a) (sym (end_page s sh k q b m.apt i h e) ∙ m.ends);
      })

      -- the seeks that may follow are fewer
      pub midst_less : (c.mark ≡ spent_mark → ⊥) → 2 ^ 28 - seeks_of (with_cursor q i c) < 2 ^ 28 - seeks_of q
      midst_less e =
          let n = next_narrow s sh k q₀ b₀ m.running in
          let one = rw (← w) at (seek_seeks s sh k q b m.apt i h) in
          let f =
          so_far (with_cursor q i c) (c.mark - 1) (list_after i b (c.mark - 1))
          (step_to e (list_after i b (c.mark - 1)) refl (list_after_le i b (c.mark - 1) k h)) in
          omega (arith, one, f.0, n.seeks_few)

      module _ (e : c.mark ≡ spent_mark → ⊥) where
        -- behind a larger page the lead is next
        pub midst_larger : 0 < i → b < c.mark - 1 → Midst (with_cursor q i c) (c.mark - 1) 0
        midst_larger g l = step_to e 0 (list_after_larger i b (c.mark - 1) g l) (omega arith)

        -- else the list behind this one
        pub midst_same : (0 < i → b < c.mark - 1 → ⊥) → Midst (with_cursor q i c) (c.mark - 1) (i + 1)
        midst_same g = step_to e (i + 1) (list_after_same i b (c.mark - 1) g) (omega arith)

        -- of which there is none where all share the page
        pub midst_page : (p n : ℕ) → (0 < i → b < c.mark - 1 → ⊥) → k ≤ i + 1
            → Turned s sh k q₀ b₀ (record { q = with_cursor q i c; mark = c.mark; bit = p; found = n })
        midst_page p n g l =
            let some : c.mark - 1 + 1 ≡ c.mark = omega (arith, midst_some) in
            rw some at (midst_end p n (with_cursor q i c) (c.mark - 1) (i + 1) (midst_same g) l)
