-- Laws of a batch of common pages: that one batch and one room come of it, how many pages it has, a batch of one, and
-- the loop that lists one.
use mathlib.Core.Path.{◌≡◌, refl, sym, ap, ap₂, ◌∙◌}
use mathlib.Core.List.{List, [], ◌∷◌, ◌++◌, append-nil}
use Prim.Native.Nat.{ℕ, zero, suc, ◌+◌, ◌-◌, ◌≤◌, ◌<◌}
use native.Mathlib.Omega.{arith}
use lib.ListN.{length, get_or, set, drop, length-append, length-drop, length-set}
use lib.Seq.{drop-cons, append_snoc, set_at}
use Rattle.rules.specs.Write.{laid}
use Rattle.walklaws.specs.declared.Cursor.{Cursor}
use Rattle.walklaws.specs.Cursors.{spent_mark}
use Rattle.querylaws.specs.declared.Query.{Query}
use Rattle.querylaws.specs.declared.Turn.{Turn}
use Rattle.querylaws.specs.Queries.{cursor_in, with_cursor, moved_in, Running, Turned}
use Rattle.querylaws.specs.Batches.{Turns, bit_behind, Batched}
use Rattle.querylaws.proofs.RunLaws.{Midst, midst_start, midst_none, midst_some, midst_larger, midst_same}
use Rattle.querylaws.proofs.RunLaws.{midst_page, midst_spent, midst_last}
use Rattle.querylaws.proofs.TurnLaws.{turned_unique, turned_like}

-- ---- one batch and one room

module _ (s sh : List ℕ) (k : ℕ) where
  pub turns_unique : (n : ℕ) (q : Query) (b : ℕ) (ps ps' : List ℕ) (t t' : Turn) → Turns s sh k n q b ps t
      → Turns s sh k n q b ps' t' → (ps ≡ ps') × (t.q ≡ t'.q) × (t.mark ≡ t'.mark)
  unfolding Turns
  turns_unique zero q b ps ps' t t' h h' = (h.0 ∙ sym h'.0, h.1 ∙ sym h'.1, h.2 ∙ sym h'.2)
  turns_unique (suc n) q b [] [] t t' h h' =
      let e = turned_unique s sh k q b t t' h.0 h'.0 in
      (refl, e.0, e.1)
  turns_unique (suc n) q b [] (p ∷ ps) t t' h h' =
      absurd (h'.3 ((turned_unique s sh k q b h'.0 t h'.1 h.0).1 ∙ h.1))
  turns_unique (suc n) q b (p ∷ ps) [] t t' h h' =
      absurd (h.3 ((turned_unique s sh k q b h.0 t' h.1 h'.0).1 ∙ h'.1))
  turns_unique (suc n) q b (p ∷ ps) (p' ∷ ps') t t' h h' =
      let e = turned_unique s sh k q b h'.0 h.0 h'.1 h.1 in
      let same : p ≡ p' = omega (arith, h.2, h'.2, e.1) in
      let rest = turns_unique n h.0.q h.0.mark ps ps' t t' h.4 (rw (e.0, e.1) at h'.4) in
      (ap₂ (λ (x : ℕ) (xs : List ℕ). x ∷ xs) same rest.0, rest.1, rest.2)

  pub batched_unique : (q : Query) (b : ℕ) (room : List ℕ) (r r' : Turn) (room₁ room₂ : List ℕ)
      → Batched s sh k q b room r room₁ → Batched s sh k q b room r' room₂ → (r ≡ r') × (room₁ ≡ room₂)
  batched_unique q b room r r' room₁ room₂ h h' =
      let e = turns_unique (length room) q b h.pages h'.pages r r' h.turns h'.turns in
      let found : r.found ≡ r'.found = h.found ∙ ap length e.0 ∙ sym h'.found in
      let bit : r.bit ≡ r'.bit = h.bit ∙ ap₂ (bit_behind k) e.1 e.2 ∙ sym h'.bit in (
        ap₂ (λ (x : Query) (m : ℕ). record { q = x; mark = m; bit = r.bit; found = r.found }) e.1 e.2
            ∙ ap₂ (λ (p n : ℕ). record { q = r'.q; mark = r'.mark; bit = p; found = n }) bit found,
        h.laid_out ∙ ap (λ (xs : List ℕ). laid xs room) e.0 ∙ sym h'.laid_out,
      )

-- ---- how many pages a batch has

length_laid : (ps room : List ℕ) → length ps ≤ length room → length (laid ps room) ≡ length room
unfolding laid
length_laid ps room h = omega (arith, length-append ps (drop (length ps) room), length-drop (length ps) room)

module _ (s sh : List ℕ) (k : ℕ) where
  pub turns_size : (n : ℕ) (q : Query) (b : ℕ) (ps : List ℕ) (t : Turn) → Turns s sh k n q b ps t
      → (length ps ≤ n) × (t.mark < spent_mark → n ≤ length ps)
  unfolding Turns
  turns_size zero q b ps t x = rw x.0 (omega arith, λ h. omega arith)
  turns_size (suc n) q b [] t x = (omega arith, λ h. absurd (omega (arith, x.1)))
  turns_size (suc n) q b (c ∷ ps) t x =
      let rest = turns_size n x.0.q x.0.mark ps t x.4 in
      (omega (arith, rest.0), λ h. omega (arith, rest.1 h))

  pub batched_long : (q : Query) (b : ℕ) (room : List ℕ) (r : Turn) (room' : List ℕ)
      → Batched s sh k q b room r room' → length room' ≡ length room
  batched_long q b room r room' x =
      let size = turns_size (length room) q b x.pages r x.turns in
      ap length x.laid_out ∙ length_laid x.pages room size.0

-- ---- a batch of one page

module _ (s sh : List ℕ) (k : ℕ) (q : Query) (b : ℕ) where
  one_turn : (ps : List ℕ) (t : Turn) → Turns s sh k 1 q b ps t → Turned s sh k q b t
  unfolding Turns
  one_turn [] t h = h.0
  one_turn (p ∷ ps) t h = turned_like s sh k q b h.0 t (sym h.4.1) (sym h.4.2) h.1

  pub batched_one : (room : List ℕ) (r : Turn) (room' : List ℕ) → length room ≡ 1
      → Batched s sh k q b room r room' → Turned s sh k q b r
  batched_one room r room' h x = one_turn x.pages r (rw h at x.turns)

-- ---- the loop

laid_more : (ps room : List ℕ) (p : ℕ) → length ps < length room → set (laid ps room) (length ps) p
    ≡ laid (ps ++ p ∷ []) room
unfolding laid
laid_more ps room p h =
    let e : length (ps ++ p ∷ []) ≡ suc (length ps) = length-append ps (p ∷ []) ∙ omega arith in
    rw (e, drop-cons room (length ps) 0 h)
    (set_at ps (get_or room (length ps) 0) (drop (suc (length ps)) room) p (length ps) refl
    ∙ sym (append_snoc ps p (drop (suc (length ps)) room)))

module _ (s sh : List ℕ) (k : ℕ) (q₀ : Query) (b₀ : ℕ) (room₀ : List ℕ) where
  -- the pages ps were found from q₀ on and lie in the room, and the page behind them is to be found from q on
  pub record Behind (ps : List ℕ) (q : Query) (b found : ℕ) (room : List ℕ) : Type 0 where
    pub sized : length ps ≡ found
    pub space : found < length room₀
    pub long : length room ≡ length room₀
    pub laid_out : room ≡ laid ps room₀
    pub goes_on : (qs : List ℕ) (t : Turn) → Turns s sh k (length room₀ - found) q b qs t
        → Turns s sh k (length room₀) q₀ b₀ (ps ++ qs) t

  -- so, and list i of q is to be sought for b
  pub record Amid (q : Query) (b i found : ℕ) (room : List ℕ) : Type 0 where
    pub pages : List ℕ
    pub from : Query
    pub bound : ℕ
    pub behind : Behind pages from bound found room
    pub midst : Midst s sh k from bound q b i
    pub within : i < k

  pub amid_start : Running s sh k q₀ b₀ → 0 < length room₀ → Amid q₀ b₀ 0 0 room₀
  unfolding laid
  amid_start r h =
      let all : length room₀ - 0 ≡ length room₀ = omega arith in record {
        pages = [];
        from = q₀;
        bound = b₀;
        behind = record { sized = refl; space = h; long = refl; laid_out = refl; goes_on = λ qs t x. rw all at x };
        midst = midst_start s sh k q₀ b₀ r;
        within = r.apt.lists.some;
      }

  -- list i was sought for b, which moved its cursor to c
  pub record Step (q : Query) (b i found : ℕ) (room : List ℕ) (c : Cursor) : Type 0 where
    pub amid : Amid q b i found room
    pub moved : c ≡ moved_in s sh i (cursor_in q i) b

  module _ (q : Query) (b i found : ℕ) (room : List ℕ) (c : Cursor) (x : Step q b i found room c) where
    abbrev a : Amid q b i found room
    a = x.amid

    abbrev w : c ≡ moved_in s sh i (cursor_in q i) b
    w = x.moved

    more_left : length room₀ - found ≡ suc (length room₀ - (found + 1))
    more_left = omega (arith, a.behind.space)

    -- no page is left
    pub amid_none : c.mark ≡ spent_mark
        → Batched s sh k q₀ b₀ room₀ (record { q = with_cursor q i c; mark = c.mark; bit = c.bit; found = found }) room
    unfolding Turns
    amid_none e =
        let t : Turn = record { q = with_cursor q i c; mark = c.mark; bit = c.bit; found = found } in
        let u = midst_none s sh k a.from a.bound q b i a.midst a.within c w c.bit found e in record {
          pages = a.pages;
          turns = rw append-nil at (a.behind.goes_on [] t (rw more_left (u, e)));
          bit = midst_spent s sh k a.from a.bound q b i a.midst a.within c w e;
          found = sym a.behind.sized;
          laid_out = a.behind.laid_out;
        }

    module _ (e : c.mark ≡ spent_mark → ⊥) where
      -- behind a larger page the lead is next
      pub amid_larger : 0 < i → b < c.mark - 1 → Amid (with_cursor q i c) (c.mark - 1) 0 found room
      amid_larger g l = record {
        pages = a.pages;
        from = a.from;
        bound = a.bound;
        behind = a.behind;
        midst = midst_larger s sh k a.from a.bound q b i a.midst a.within c w e g l;
        within = a.midst.apt.lists.some;
      }

      module _ (g : 0 < i → b < c.mark - 1 → ⊥) where
        -- else the list behind this one
        pub amid_same : i + 1 < k → Amid (with_cursor q i c) (c.mark - 1) (i + 1) found room
        amid_same l = record {
          pages = a.pages;
          from = a.from;
          bound = a.bound;
          behind = a.behind;
          midst = midst_same s sh k a.from a.bound q b i a.midst a.within c w e g;
          within = l;
        }

        -- where there is none, all share the page
        module _ (l : k ≤ i + 1) where
          abbrev turn : Turn
          turn = record { q = with_cursor q i c; mark = c.mark; bit = c.bit; found = found + 1 }

          abbrev more : List ℕ
          more = a.pages ++ (c.mark - 1) ∷ []

          turned : Turned s sh k a.from a.bound turn
          turned = midst_page s sh k a.from a.bound q b i a.midst a.within c w e c.bit (found + 1) g l

          room_more : set room found (c.mark - 1) ≡ laid more room₀
          room_more =
              let h = a.behind in
              ap₂ (λ (l : List ℕ) (n : ℕ). set l n (c.mark - 1)) h.laid_out (sym h.sized)
              ∙ laid_more a.pages room₀ (c.mark - 1) (omega (arith, h.sized, h.space))

          sized_more : length more ≡ found + 1
          sized_more = length-append a.pages ((c.mark - 1) ∷ []) ∙ omega (arith, a.behind.sized)

          turns_more : (qs : List ℕ) (t : Turn)
              → Turns s sh k (length room₀ - (found + 1)) turn.q turn.mark qs t
              → Turns s sh k (length room₀) q₀ b₀ (more ++ qs) t
          unfolding Turns
          turns_more qs t x =
              let some : c.mark ≡ c.mark - 1 + 1 =
              omega (arith, midst_some s sh k a.from a.bound q b i a.midst a.within c w) in
              rw (append_snoc a.pages (c.mark - 1) qs)
              (a.behind.goes_on ((c.mark - 1) ∷ qs) t (rw more_left (turn, turned, some, e, x)))

          -- it is listed, and the lead is next, for a page behind it
          pub amid_page : found + 1 < length room₀
              → Amid (with_cursor q i c) c.mark 0 (found + 1) (set room found (c.mark - 1))
          amid_page m = record {
            pages = more;
            from = turn.q;
            bound = turn.mark;
            behind = record {
              sized = sized_more;
              space = m;
              long = length-set room found (c.mark - 1) ∙ a.behind.long;
              laid_out = room_more;
              goes_on = turns_more;
            };
            midst = midst_start s sh k turn.q turn.mark (turned.running turn.mark e (omega arith));
            within = a.midst.apt.lists.some;
          }

          -- or the room is full
          pub amid_full : length room₀ ≤ found + 1
              → Batched s sh k q₀ b₀ room₀ turn (set room found (c.mark - 1))
          unfolding Turns
          amid_full m =
              let none_left : length room₀ - (found + 1) ≡ 0 = omega arith in
              let whole = turns_more [] turn (rw none_left (refl, refl, refl)) in record {
                pages = more;
                turns = rw append-nil at whole;
                bit = midst_last s sh k a.from a.bound q b i a.midst a.within c w e l;
                found = sym sized_more;
                laid_out = room_more;
              }
