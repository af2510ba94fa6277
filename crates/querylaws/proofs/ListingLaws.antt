-- Laws of listing common pages, one by one or a batch at a time:
-- the pages so far, with the counts so far, and the rule from here on are the whole.
use mathlib.Core.Logic.{◌⊎◌, inl, inr}
use mathlib.Core.Path.{◌≡◌, refl, sym, ap, ◌∙◌}
use mathlib.Core.List.{List, [], ◌∷◌, ◌++◌, append_assoc, append-nil}
use Prim.Native.Nat.{ℕ, zero, suc, ◌+◌, ◌-◌, ◌^◌, ◌≤◌, ◌<◌}
use native.Mathlib.Nat.{zero-add, add-zero, add_assoc}
use native.Mathlib.Omega.{arith}
use lib.ListN.{length, get_or, length-append}
use lib.Seq.{take_all, take-nil, append_snoc, take-append-le}
use Rattle.rules.specs.Limits.{limit}
use Rattle.rules.specs.Seek.{none, page}
use Rattle.rules.specs.Common.{Tally, counted, nothing}
use Rattle.rules.specs.Write.{laid}
use Rattle.commonlaws.specs.Readers.{left_in}
use Rattle.commonlaws.specs.Next.{Next, rounds_to, onward}
use Rattle.commonlaws.proofs.SharedLaws.{from_le}
use Rattle.commonlaws.proofs.FuelLaws.{rounds_done}
use Rattle.commonlaws.proofs.NextLaws.{rounds_next}
use Rattle.walklaws.specs.Cursors.{spent_mark}
use Rattle.querylaws.specs.declared.Query.{Query}
use Rattle.querylaws.specs.declared.Turn.{Turn}
use Rattle.querylaws.specs.declared.Listed.{Listed}
use Rattle.querylaws.specs.Lists.{pages_at, pages_in, bound_in, Lists}
use Rattle.querylaws.specs.Queries.{new_query, reader_at, lead_in, others_in, seeks_of, looks_of, next_for, Apt}
use Rattle.querylaws.specs.Queries.{Running, Turned}
use Rattle.querylaws.specs.Batches.{Turns, Batched}
use Rattle.querylaws.specs.Listings.{rule_in, whole_in, laid_within, Tells}
use Rattle.querylaws.proofs.ListLaws.{list_length}
use Rattle.querylaws.proofs.RunLaws.{lead_ready, others_ready}
use Rattle.querylaws.proofs.TurnLaws.{turned_none, turned_page, turned_fewer, turned_later}
use Rattle.querylaws.proofs.BatchLaws.{turns_size, batched_long}
use Rattle.querylaws.proofs.NewLaws.{new_seeks, new_looks, new_running, first_list, new_rule}

-- ---- pages in the room

pub laid_within_all : (ps room : List ℕ) → length ps ≤ length room → laid_within ps room ≡ laid ps room
laid_within_all ps room h = rw (take_all (length room) ps h)

-- pages behind those that fill the room change nothing
laid_within_full : (ps qs room : List ℕ) → length room ≤ length ps → laid_within (ps ++ qs) room ≡ laid_within ps room
laid_within_full ps qs room h = ap (λ (xs : List ℕ). laid xs room) (take-append-le (length room) ps qs h)

-- ---- tallies

counted_then : (s l s' l' : ℕ) (ps ps' : List ℕ) (t : Tally)
    → counted s l ps (counted s' l' ps' t) ≡ counted (s + s') (l + l') (ps ++ ps') t
unfolding counted
counted_then s l s' l' ps ps' t = rw (← add_assoc s s' t.seeks, ← add_assoc l l' t.looks, append_assoc)

counted_none : (t : Tally) → counted 0 0 [] t ≡ t
unfolding counted
counted_none t = rw (zero-add t.seeks, zero-add t.looks)

counted_all : (s l : ℕ) (ps : List ℕ) → counted s l ps nothing ≡ record { seeks = s; looks = l; listed = ps }
unfolding counted nothing
counted_all s l ps = rw (add-zero s, add-zero l, append-nil ps)

module _ (U : ℕ) (x : Next) (n : ℕ) where
  onward_none : (m : ℕ) → x.found ≡ none m → onward U x (suc n) ≡ counted x.seeks x.looks [] nothing
  unfolding onward
  onward_none m e = rw (e, onward)

  onward_page : (c j : ℕ) → x.found ≡ page c j
      → onward U x (suc n) ≡ counted x.seeks x.looks (c ∷ []) (rounds_to U x.lead x.others (c + 1) n)
  unfolding onward
  onward_page c j e = rw (e, onward)

-- ---- the pages and counts so far, and the rule from here on until n pages more are listed

abbrev pub rest_of : List ℕ → List ℕ → ℕ → Query → ℕ → ℕ → Tally
rest_of s sh k q b n = rounds_to (bound_in sh) (lead_in s sh q) (others_in s sh k q) b n

module _ (s sh : List ℕ) (k : ℕ) (w : Tally) where
  -- they come to w
  abbrev pub Comes : ℕ → Query → ℕ → List ℕ → Type 0
  Comes n q b ps = counted (seeks_of q) (looks_of q) ps (rest_of s sh k q b n) ≡ w

  module _ (n : ℕ) (q : Query) (b : ℕ) (ps : List ℕ) (a : Apt s sh k q b) (x : Comes (suc n) q b ps) (t : Turn)
      (u : Turned s sh k q b t) where
    abbrev here : Next
    here = next_for s sh k q b

    so_far : (r : Tally) → onward (bound_in sh) here (suc n) ≡ r → w ≡ counted (seeks_of q) (looks_of q) ps r
    so_far r e =
        sym x
        ∙ ap (counted (seeks_of q) (looks_of q) ps)
        (rounds_next (bound_in sh) (lead_in s sh q) (others_in s sh k q) b (lead_ready s sh k q b a)
        (others_ready s sh k q b a) (suc n) ∙ e)

    comes_page : (c j : ℕ) → t.mark ≡ c + 1 → here.found ≡ page c j
        → Comes n t.q t.mark (ps ++ (t.mark - 1) ∷ [])
    comes_page c j m e =
        let d : t.mark - 1 ≡ c = omega arith in
        let rest : Tally = rounds_to (bound_in sh) here.lead here.others (c + 1) n in
        rw (u.seeks, u.looks, u.lead, u.others, d, m)
        (sym
        (so_far (counted here.seeks here.looks (c ∷ []) rest) (onward_page (bound_in sh) here n c j e)
        ∙ counted_then (seeks_of q) (looks_of q) here.seeks here.looks ps (c ∷ []) rest))

    comes_step : (t.mark ≡ spent_mark → ⊥) → Comes n t.q t.mark (ps ++ (t.mark - 1) ∷ [])
    comes_step h = let f = turned_page s sh k q b a t u h in comes_page f.0 f.1 f.2 f.3

    comes_end : t.mark ≡ spent_mark → w ≡ record { seeks = seeks_of t.q; looks = looks_of t.q; listed = ps }
    comes_end h =
        let o = turned_none s sh k q b a t u h in
        rw (u.seeks, u.looks)
        (so_far (counted here.seeks here.looks [] nothing) (onward_none (bound_in sh) here n o.0 o.1)
        ∙ counted_then (seeks_of q) (looks_of q) here.seeks here.looks ps [] nothing
        ∙ counted_all (seeks_of q + here.seeks) (looks_of q + here.looks) (ps ++ [])
        ∙ rw (append-nil ps))

  -- with the pages qs that are found from here on, n of them or until none is left, they are w
  comes_turns : (n : ℕ) (q : Query) (b : ℕ) (ps qs : List ℕ) (t : Turn) → Running s sh k q b → Comes n q b ps
      → Turns s sh k n q b qs t → w ≡ record { seeks = seeks_of t.q; looks = looks_of t.q; listed = ps ++ qs }
  unfolding Turns
  comes_turns zero q b ps qs t g x y =
      rw (y.0, y.1, append-nil ps)
      (sym x
      ∙ ap (counted (seeks_of q) (looks_of q) ps) (rounds_done (bound_in sh) (lead_in s sh q) (others_in s sh k q) b)
      ∙ counted_all (seeks_of q) (looks_of q) ps)
  comes_turns (suc n) q b ps [] t g x y = rw (append-nil ps) (comes_end n q b ps g.apt x t y.0 y.1)
  comes_turns (suc n) q b ps (c ∷ qs) t g x y =
      let u = y.0 in
      let e : u.mark - 1 ≡ c = omega (arith, y.2) in
      let next = rw e at (comes_step n q b ps g.apt x u y.1 y.3) in
      rw (append_snoc ps c qs)
      at (comes_turns n u.q u.mark (ps ++ c ∷ []) qs t (y.1.running u.mark y.3 (omega arith))
      next y.4)

-- no count of a batch has wrapped
turns_narrow : (s sh : List ℕ) (k n : ℕ) (q : Query) (b : ℕ) (qs : List ℕ) (t : Turn)
    → Turns s sh k (suc n) q b qs t
    → (length t.q.cursors ≡ 8) × (seeks_of t.q ≤ 2 ^ 28) × (looks_of t.q ≤ 2 ^ 29)
unfolding Turns
turns_narrow s sh k n q b [] t y = (y.0.eight, y.0.narrow.0, y.0.narrow.1)
turns_narrow s sh k zero q b (c ∷ qs) t y = rw y.4.1 (y.1.eight, y.1.narrow.0, y.1.narrow.1)
turns_narrow s sh k (suc n) q b (c ∷ qs) t y =
    turns_narrow s sh k n y.0.q y.0.mark qs t y.4

pub batched_narrow : (s sh : List ℕ) (k : ℕ) (q : Query) (b : ℕ) (room : List ℕ) (r : Turn) (room' : List ℕ)
    → 0 < length room → Batched s sh k q b room r room'
    → (length r.q.cursors ≡ 8) × (seeks_of r.q < 2 ^ 32) × (looks_of r.q < 2 ^ 32)
batched_narrow s sh k q b room r room' h x =
    let e : suc (length room - 1) ≡ length room = omega arith in
    let n = turns_narrow s sh k (length room - 1) q b x.pages r (rw e x.turns) in
    (n.0, omega (arith, n.1), omega (arith, n.2))

-- the rule from a bound on, until as many pages as the room has places are listed
pub batched_rule : (s sh : List ℕ) (k : ℕ) → Lists s sh k → (b : ℕ) (room : List ℕ) (r : Turn) (room' : List ℕ)
    (x : Batched s sh k new_query b room r room')
    → rule_in s sh k b (length room) ≡ record { seeks = seeks_of r.q; looks = looks_of r.q; listed = x.pages }
batched_rule s sh k l b room r room' x =
    let n : ℕ = length room in
    comes_turns s sh k (rule_in s sh k b n) n new_query b [] x.pages r (new_running s sh k l b)
    (rw (new_seeks, new_looks) (counted_none (rest_of s sh k new_query b n) ∙ new_rule s sh k l b n)) x.turns

-- ---- all pages

module _ (s sh : List ℕ) (k : ℕ) where
  -- the pages ps were found up to the bound b; more may be listed than the lead has left
  pub record Partway (q : Query) (b found : ℕ) (ps : List ℕ) : Type 0 where
    pub running : Running s sh k q b
    pub sized : length ps ≡ found
    pub left : found + left_in b (lead_in s sh q) ≤ length (pages_at s sh 0)
    pub more : ℕ
    pub enough : left_in b (lead_in s sh q) ≤ more
    pub same : Comes s sh k (whole_in s sh k) (suc more) q b ps

  pub partway_start : Lists s sh k → Partway new_query 0 0 []
  partway_start l =
      let n : ℕ = length (get_or (pages_in s sh k) 0 []) in
      let e : n + 1 ≡ suc n = omega arith in
      record {
        running = new_running s sh k l 0;
        sized = refl;
        left = unfold reader_at in omega (arith, from_le 0 (pages_at s sh 0));
        more = n;
        enough = unfold reader_at in rw (first_list s sh k l) (from_le 0 (pages_at s sh 0));
        same = rw (new_seeks, new_looks, ← e)
            (counted_none (rest_of s sh k new_query 0 (n + 1)) ∙ new_rule s sh k l 0 (n + 1));
      }

  pub partway_few : (q : Query) (b found : ℕ) (ps : List ℕ) → Partway q b found ps → found ≤ limit
  partway_few q b found ps p =
      let l = p.running.apt.lists in
      omega (arith, p.left, list_length s sh 0 (l.each 0 l.some))

  module _ (q : Query) (b found : ℕ) (ps : List ℕ) (p : Partway q b found ps) (t : Turn) (u : Turned s sh k q b t) where
    pub partway_step : (t.mark ≡ spent_mark → ⊥) → Partway t.q t.mark (found + 1) (ps ++ (t.mark - 1) ∷ [])
    partway_step h =
        let a = p.running.apt in
        let fewer = turned_fewer s sh k q b a t u h in
        let e : suc (p.more - 1) ≡ p.more = omega (arith, fewer, p.enough) in
        record {
          running = u.running t.mark h (omega arith);
          sized = length-append ps ((t.mark - 1) ∷ []) ∙ omega (arith, p.sized);
          left = omega (arith, p.left, fewer);
          more = p.more - 1;
          enough = omega (arith, p.enough, fewer);
          same = rw e (comes_step s sh k (whole_in s sh k) p.more q b ps a p.same t u h);
        }

    pub partway_end : t.mark ≡ spent_mark → (r : Listed) → (r.found ≡ found) × (r.seeks ≡ seeks_of t.q)
        × (r.looks ≡ looks_of t.q)
        → ((whole_in s sh k).listed ≡ ps) × Tells (whole_in s sh k) r
    partway_end h r e =
        let w = comes_end s sh k (whole_in s sh k) p.more q b ps p.running.apt p.same t u h in
        let listed : (whole_in s sh k).listed ≡ ps = ap (λ (x : Tally). x.listed) w in (
          listed,
          record {
            found = e.0 ∙ sym p.sized ∙ ap length (sym listed);
            seeks = e.1 ∙ sym (ap (λ (x : Tally). x.seeks) w);
            looks = e.2 ∙ sym (ap (λ (x : Tally). x.looks) w);
          },
        )

  -- the pages ps are all
  pub record Ended (q : Query) (found : ℕ) (ps : List ℕ) : Type 0 where
    pub eight : length q.cursors ≡ 8
    pub narrow : (seeks_of q ≤ 2 ^ 28) × (looks_of q ≤ 2 ^ 29)
    pub few : found ≤ limit
    pub tells : (r : Listed) → (r.found ≡ found) × (r.seeks ≡ seeks_of q) × (r.looks ≡ looks_of q)
        → ((whole_in s sh k).listed ≡ ps) × Tells (whole_in s sh k) r

  -- ---- batches of pages

  abbrev pub Reached : Query → ℕ → ℕ → List ℕ → Type 0
  Reached q b found ps = ((b ≡ spent_mark) × Ended q found ps) ⊎ ((b < spent_mark) × Partway q b found ps)

  pub reached_more : (n : ℕ) (q : Query) (b found : ℕ) (ps qs : List ℕ) (t : Turn) → b < spent_mark
      → Partway q b found ps → Turns s sh k n q b qs t → Reached t.q t.mark (found + length qs) (ps ++ qs)
  unfolding Turns
  reached_more zero q b found ps qs t h p x =
      let none : found + 0 ≡ found = omega arith in
      rw (x.0, x.1, x.2, append-nil ps, none) (inr (h, p))
  reached_more (suc n) q b found ps [] t h p x =
      let none : found + 0 ≡ found = omega arith in
      rw (append-nil ps, none)
      (inl (
        x.1,
        record {
          eight = x.0.eight;
          narrow = x.0.narrow;
          few = partway_few q b found ps p;
          tells = partway_end q b found ps p t x.0 x.1;
        },
      ))
  reached_more (suc n) q b found ps (c ∷ qs) t h p x =
      let u = x.0 in
      let e : u.mark - 1 ≡ c = omega (arith, x.2) in
      let one : found + 1 + length qs ≡ found + suc (length qs) = omega arith in
      let next = rw e at (partway_step q b found ps p u x.1 x.3) in
      let later = turned_later s sh k q b p.running.apt u x.1 x.3 in
      let rest = reached_more n u.q u.mark (found + 1) (ps ++ c ∷ []) qs t later.1 next x.4 in
      rw (append_snoc ps c qs, one) at rest

  -- the bound grows
  pub reached_later : (n : ℕ) (q : Query) (b found : ℕ) (ps qs : List ℕ) (t : Turn) → b < spent_mark
      → Partway q b found ps → Turns s sh k n q b qs t → (b ≤ t.mark) × (0 < n → b < t.mark)
  unfolding Turns
  reached_later zero q b found ps qs t h p x = (omega (arith, x.2), λ z. absurd (omega arith))
  reached_later (suc n) q b found ps [] t h p x = (omega (arith, x.1), λ z. omega (arith, x.1))
  reached_later (suc n) q b found ps (c ∷ qs) t h p x =
      let u = x.0 in
      let next = partway_step q b found ps p u x.1 x.3 in
      let later = turned_later s sh k q b p.running.apt u x.1 x.3 in
      let rest =
      reached_later n u.q u.mark (found + 1) (ps ++ (u.mark - 1) ∷ []) qs t later.1 next x.4 in
      (omega (arith, later.0, rest.0), λ z. omega (arith, later.0, rest.0))

-- ---- the pages so far in the room

module _ (s sh : List ℕ) (k : ℕ) (room₀ : List ℕ) where
  -- the pages up to the bound b are counted, and listed as far as the room goes; where more may come, it is full
  pub record Listing (q : Query) (b found : ℕ) (room : List ℕ) : Type 0 where
    pub ps : List ℕ
    pub reached : Reached s sh k q b found ps
    pub full : b < spent_mark → length room₀ ≤ length ps
    pub room_is : room ≡ laid_within ps room₀
    pub long : length room ≡ length room₀

  -- with no room
  pub listing_none : Lists s sh k → length room₀ ≡ 0 → Listing new_query 0 0 room₀
  unfolding laid
  listing_none l h = record {
    ps = [];
    reached = inr (omega arith, partway_start s sh k l);
    full = λ z. omega arith;
    room_is = rw (take-nil {A = ℕ} (length room₀));
    long = refl;
  }

  pub listing_first : Lists s sh k → (r : Turn) (room : List ℕ) → Batched s sh k new_query 0 room₀ r room
      → Listing r.q r.mark r.found room
  listing_first l r room x =
      let size = turns_size s sh k (length room₀) new_query 0 x.pages r x.turns in
      record {
        ps = x.pages;
        reached =
            rw x.found
            (rw (zero-add (length x.pages))
            at (reached_more s sh k (length room₀) new_query 0 0 [] x.pages r (omega arith) (partway_start s sh k l)
            x.turns));
        full = size.1;
        room_is = x.laid_out ∙ sym (laid_within_all x.pages room₀ size.0);
        long = batched_long s sh k new_query 0 room₀ r room x;
      }

  module _ (q : Query) (b found : ℕ) (room : List ℕ) (g : Listing q b found room) where
    pub listing_few : found ≤ limit
    listing_few = elim g.reached [ inl e ↦ e.1.few | inr e ↦ partway_few s sh k q b found g.ps e.1 ]

    module _ (h : b ≡ spent_mark → ⊥) where
      pub listing_on : (b < spent_mark) × Partway s sh k q b found g.ps
      listing_on = elim g.reached [ inl e ↦ absurd (h e.0) | inr e ↦ e ]

      module _ (rest : List ℕ) (r : Turn) (rest' : List ℕ) (x : Batched s sh k q b rest r rest') where
        pub listing_more : Listing r.q r.mark (found + r.found) room
        listing_more =
            let full = g.full listing_on.0 in record {
              ps = g.ps ++ x.pages;
              reached =
                  rw x.found
                  (reached_more s sh k (length rest) q b found g.ps x.pages r listing_on.0 listing_on.1
                  x.turns);
              full = λ z. omega (arith, full, length-append g.ps x.pages);
              room_is = g.room_is ∙ sym (laid_within_full g.ps x.pages room₀ full);
              long = g.long;
            }

        pub listing_less : 0 < length rest → spent_mark - r.mark < spent_mark - b
        listing_less z =
            let later =
            reached_later s sh k (length rest) q b found g.ps x.pages r listing_on.0 listing_on.1
            x.turns in
            omega (arith, later.1 z, listing_on.0)

    module _ (h : b ≡ spent_mark) where
      ended : Ended s sh k q found g.ps
      ended = elim g.reached [ inl e ↦ e.1 | inr e ↦ absurd (omega (arith, e.0)) ]

      pub listing_narrow : (length q.cursors ≡ 8) × (seeks_of q < 2 ^ 32) × (looks_of q < 2 ^ 32)
      listing_narrow = (ended.eight, omega (arith, ended.narrow), omega (arith, ended.narrow))

      pub listing_end : (r : Listed) → (r.found ≡ found) × (r.seeks ≡ seeks_of q) × (r.looks ≡ looks_of q)
          → Tells (whole_in s sh k) r × (room ≡ laid_within (whole_in s sh k).listed room₀)
      listing_end r e =
          let end = ended.tells r e in
          (end.1, g.room_is ∙ ap (λ (xs : List ℕ). laid_within xs room₀) (sym end.0))
