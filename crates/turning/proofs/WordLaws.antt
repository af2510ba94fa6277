-- Laws of the words' numbers: what putting those of a word tells of its reading, and what it keeps.
use mathlib.Core.Path.{◌≡◌, ap, ap₂, ◌∙◌}
use mathlib.Core.List.{List}
use Prim.Native.Nat.{ℕ, ◌+◌, ◌*◌, ◌≤◌, ◌<◌}
use native.Mathlib.Omega.{arith}
use lib.ListN.{length, get_or, set, length-set}
use lib.Seq.{get_or-set_same, get_or-set_other}
use Rattle.querylaws.specs.Lists.{part_at, shape_in}
use Rattle.span.specs.declared.Walk.{Walk}
use Rattle.span.specs.Walks.{past, PassedTo}
use Rattle.turning.specs.declared.Ranks.{Ranks}
use Rattle.turning.specs.Words.{elements_at, walk_at, with_walk, position_walk, ranks_of}
use Rattle.turning.specs.Words.{BlockAt, Kept, Walked, TurnedOn}

-- ---- numbers that are kept

module _ (ws : List ℕ) (from to : ℕ) (after : List ℕ) (k : Kept ws from to after) where
  pub walk_before : (m : ℕ) → m + 3 ≤ from → walk_at after m ≡ walk_at ws m
  walk_before m h =
      rw (k.before m (omega arith), k.before (m + 1) (omega arith), k.before (m + 2) (omega arith))

-- ---- where reading stands

module _ (ws : List ℕ) (j : ℕ) (w : Walk) where
  abbrev first : List ℕ
  first = set ws j w.next

  abbrev second : List ℕ
  second = set first (j + 1) w.past

  pub walks_long : length (with_walk ws j w) ≡ length ws
  walks_long =
      length-set second (j + 2) w.place ∙ length-set first (j + 1) w.past ∙ length-set ws j w.next

  -- a number that is none of the three
  other_number : (m : ℕ) → (m ≡ j → ⊥) → (m ≡ j + 1 → ⊥) → (m ≡ j + 2 → ⊥) → get_or (with_walk ws j w) m 0
      ≡ get_or ws m 0
  other_number m a b c =
      get_or-set_other second (j + 2) m w.place 0 c ∙ get_or-set_other first (j + 1) m w.past 0 b
      ∙ get_or-set_other ws j m w.next 0 a

  pub walk_kept : Kept ws j (j + 3) (with_walk ws j w)
  walk_kept = record {
    before = λ m h. other_number m (λ e. omega arith) (λ e. omega arith) (λ e. omega arith);
    behind = λ m h. other_number m (λ e. omega arith) (λ e. omega arith) (λ e. omega arith);
  }

  module _ (room : length ws ≡ 64) (few : j < 62) where
    pub walk_here : walk_at (with_walk ws j w) j ≡ w
    walk_here =
        let a : get_or (with_walk ws j w) j 0 ≡ w.next =
        get_or-set_other second (j + 2) j w.place 0 (λ e. omega arith)
        ∙ get_or-set_other first (j + 1) j w.past 0 (λ e. omega arith)
        ∙ get_or-set_same ws j w.next 0 (omega arith) in
        let b : get_or (with_walk ws j w) (j + 1) 0 ≡ w.past =
        get_or-set_other second (j + 2) (j + 1) w.place 0 (λ e. omega arith)
        ∙ get_or-set_same first (j + 1) w.past 0 (omega (arith, length-set ws j w.next)) in
        let c : get_or (with_walk ws j w) (j + 2) 0 ≡ w.place =
        get_or-set_same second (j + 2) w.place 0
        (omega (arith, length-set first (j + 1) w.past, length-set ws j w.next)) in
        rw (a, b, c)

-- n elements of list i are passed
pub walked : (s sh ws : List ℕ) (i j n : ℕ) (w : Walk) → BlockAt s sh i → length ws ≡ 64 → j < 62
    → PassedTo (part_at s sh i) (shape_in sh i) n w → Walked s sh ws i j n (with_walk ws j w)
walked s sh ws i j n w b r l p =
    let e = walk_here ws j w r l in
    record {
      readable = record { block = b; room = walks_long ws j w ∙ r; on = rw e p.on };
      at = ap (λ (v : Walk). v.next) e ∙ p.at;
      kept = walk_kept ws j w;
    }

-- the page's ranks are one past the counts before it, and with it
pub ranks_told : (s sh : List ℕ) (i rank : ℕ) (w v : Walk) → PassedTo (part_at s sh i) (shape_in sh i) rank w
    → PassedTo (part_at s sh i) (shape_in sh i) (w.next + 1) v
    → (record {
      from = w.past;
      to = v.past;
    } ≡ ranks_of (elements_at s sh i) rank) × PassedTo (part_at s sh i) (shape_in sh i) (rank + 1) v
ranks_told s sh i rank w v p q =
    let e : v.next ≡ rank + 1 = q.at ∙ ap (λ (n : ℕ). n + 1) p.at in (
      ap₂ (λ (x y : ℕ). record {
        from = x;
        to = y;
      }) (p.on.past_is ∙ ap (past (elements_at s sh i)) p.at) (q.on.past_is ∙ ap (past (elements_at s sh i)) e),
      record { on = q.on; at = e },
    )

-- ---- spans

-- word i is turned: its reading is walked, and its span put
pub turned_on : (s sh ws : List ℕ) (i : ℕ) (x : Ranks) (v : Walk) → BlockAt s sh i → length ws ≡ 64
    → PassedTo (part_at s sh i) (shape_in sh i) x.from v
    → TurnedOn s sh ws i x (set (set (with_walk ws (8 * i + 3) v) (8 * i + 6) v.past) (8 * i + 7) x.to)
turned_on s sh ws i x v b r p =
    let few = b.few in
    let mid : List ℕ = with_walk ws (8 * i + 3) v in
    let based : List ℕ = set mid (8 * i + 6) v.past in
    let after : List ℕ = set based (8 * i + 7) x.to in
    let w = walked s sh ws i (8 * i + 3) x.from v b r (omega arith) p in
    let size : length based ≡ 64 = length-set mid (8 * i + 6) v.past ∙ w.readable.room in
    let k : Kept mid (8 * i + 6) (8 * i + 8) after = record {
      before = λ m l.
          get_or-set_other based (8 * i + 7) m x.to 0 (λ e. omega arith)
          ∙ get_or-set_other mid (8 * i + 6) m v.past 0 (λ e. omega arith);
      behind = λ m l.
          get_or-set_other based (8 * i + 7) m x.to 0 (λ e. omega arith)
          ∙ get_or-set_other mid (8 * i + 6) m v.past 0 (λ e. omega arith);
    } in
    let e : position_walk after i ≡ position_walk mid i =
    walk_before mid (8 * i + 6) (8 * i + 8) after k (8 * i + 3) (omega arith) in
    record {
      readable = record {
        block = b;
        room = length-set based (8 * i + 7) x.to ∙ size;
        on = rw e w.readable.on;
      };
      at = ap (λ (z : Walk). z.next) e ∙ w.at;
      base_is =
          get_or-set_other based (8 * i + 7) (8 * i + 6) x.to 0 (λ e. omega arith)
          ∙ get_or-set_same mid (8 * i + 6) v.past 0 (omega (arith, w.readable.room))
          ∙ p.on.past_is ∙ ap (past (elements_at s sh i)) p.at;
      end_is = get_or-set_same based (8 * i + 7) x.to 0 (omega (arith, size));
      kept = record {
        before = λ m l. k.before m (omega arith) ∙ w.kept.before m l;
        behind = λ m l. k.behind m l ∙ w.kept.behind m (omega arith);
      };
    }
