-- What is left of the next common page where list i is to be sought for b, and what one seek leaves of it.
use mathlib.Core.Bool.{Bool, true, false, cond, ◌&&◌}
use mathlib.Core.Path.{◌≡◌, refl, sym, ◌∙◌}
use mathlib.Core.List.{[], ◌∷◌, ◌++◌}
use Prim.Native.Nat.{ℕ, zero, suc, ◌+◌, ◌-◌, ◌≤◌, ◌<◌}
use native.Mathlib.Numerals.{add-one}
use native.Mathlib.Decide.{dec_lt}
use native.Mathlib.Omega.{arith}
use borrow.Author.Tests.{lt-ltb, le-ltb}
use lib.Dec.{ltb}
use lib.ListN.{length}
use Rattle.rules.specs.Seek.{Cursor, fresh, on, spent, none, page, Sought}
use Rattle.rules.specs.Common.{Reader, seek_by, moved_by}
use Rattle.seeklaws.proofs.SeekLaws.{seek_first, cursor_at_on}
use Rattle.commonlaws.specs.Readers.{Ready, AllReady, moved}
use Rattle.commonlaws.specs.Next.{Next, stop, plus, next_common, midway}
use Rattle.commonlaws.proofs.AgreeLaws.{sought_first, sought_least}
use Rattle.commonlaws.proofs.LoopLaws.{next_none, next_page, midway_end, midway_none, midway_larger, midway_same}
use Rattle.querylaws.specs.Lists.{span}
use Rattle.querylaws.specs.Queries.{list_after}
use Rattle.querylaws.proofs.SpanLaws.{span_none, span_cons, span_split, span_snoc, span_same, span_ready}

-- the rank at which a cursor is
unfoldable pub cursor_rank : Cursor → ℕ
cursor_rank fresh = 0
cursor_rank (on i) = i
cursor_rank spent = 0

module _ (i b d : ℕ) where
  pub list_after_larger : 0 < i → b < d → list_after i b d ≡ 0
  unfolding list_after
  list_after_larger h l = rw (lt-ltb 0 i h, lt-ltb b d l)

  pub list_after_same : (0 < i → b < d → ⊥) → list_after i b d ≡ i + 1
  unfolding list_after
  list_after_same h = elim (dec_lt 0 i) [
    | yes g ↦ rw (lt-ltb 0 i g, le-ltb b d (elim (dec_lt b d) [ yes l ↦ absurd (h g l) | no l ↦ omega arith ]))
    | no g ↦ rw (le-ltb 0 i (omega arith))
  ]

  pub list_after_le : (k : ℕ) → i < k → list_after i b d ≤ k
  unfolding list_after
  list_after_le k h = go (ltb 0 i && ltb b d)
    where
      go : (t : Bool) → cond t 0 (i + 1) ≤ k
      go true = omega arith
      go false = omega arith

-- k readers f 0, f 1, .., of which number i is to be sought for b: those before it are on b
unfoldable pub pending : ℕ → ℕ → (ℕ → Reader) → ℕ → ℕ → Next
pending U k f zero b = next_common U (f 0) (span f 1 (k - 1)) b
pending U k f (suc j) b = midway U (f 0) b (cursor_rank (f 0).cursor) (span f 1 j) (span f (suc j) (k - suc j))

-- all are on b
pub pending_end : (U k b : ℕ) (f : ℕ → Reader) → 0 < k
    → pending U k f k b ≡ stop (page b (cursor_rank (f 0).cursor)) (f 0) (span f 1 (k - 1))
unfolding pending
pending_end U zero b f h = absurd (omega arith)
pending_end U (suc j) b f h =
    let none_left : suc j - suc j ≡ 0 = omega arith in
    let all_done : suc j - 1 ≡ j = omega arith in
    rw (none_left, all_done, span_none f (suc j)) (midway_end U (f 0) b (cursor_rank (f 0).cursor) (span f 1 j))

-- reader i is sought for b, and no other
pub record Moves (U b i : ℕ) (f g : ℕ → Reader) : Type 0 where
  pub here : g i ≡ moved U b (f i)
  pub there : (j : ℕ) → (j ≡ i → ⊥) → g j ≡ f j

module _ (U k b : ℕ) (f g : ℕ → Reader) where
  abbrev this : ℕ → Sought
  this i = seek_by U (f i) b

  others_same : Moves U b 0 f g → span f 1 (k - 1) ≡ span g 1 (k - 1)
  others_same m = span_same f g (k - 1) 1 (λ n l h. sym (m.there n (λ e. omega arith)))

  module _ (j : ℕ) (h : suc j < k) (m : Moves U b (suc j) f g) where
    lead_same : g 0 ≡ f 0
    lead_same = m.there 0 (λ e. omega arith)

    before_same : span f 1 j ≡ span g 1 j
    before_same = span_same f g j 1 (λ n l l'. sym (m.there n (λ e. omega arith)))

    behind_same : span f (suc j + 1) (k - (suc j + 1)) ≡ span g (suc j + 1) (k - (suc j + 1))
    behind_same = span_same f g (k - (suc j + 1)) (suc j + 1) (λ n l l'. sym (m.there n (λ e. omega arith)))

    -- those on b, the one that was sought, and those that are left
    others_parts : span f 1 j ++ moved U b (f (suc j)) ∷ span f (suc j + 1) (k - (suc j + 1)) ≡ span g 1 (k - 1)
    others_parts =
        let n : k - 1 ≡ j + (k - suc j) = omega arith in
        let e : 1 + j ≡ suc j = omega arith in
        rw (before_same, behind_same, ← m.here, n, span_split g j 1 (k - suc j), e, span_cons g (suc j) k h)

    more_parts : span f 1 j ++ moved U b (f (suc j)) ∷ [] ≡ span g 1 (suc j)
    more_parts =
        let e : 1 + j ≡ suc j = omega arith in
        rw (before_same, ← m.here, span_snoc g j 1, e)

  module _ (ready : (j : ℕ) → j < k → Ready U b (f j)) where
    all_ready : (i n : ℕ) → i + n ≤ k → AllReady U b (span f i n)
    all_ready i n h = span_ready f U b n i (λ j l l'. ready j (omega arith))

    -- a seek that finds nothing ends it
    pub pending_none : (i : ℕ) → i < k → Moves U b i f g → (n : ℕ) → (this i).found ≡ none n → pending U k f i b
        ≡ plus 1 (this i).looks (stop (none (length (g 0).pages)) (g 0) (span g 1 (k - 1)))
    unfolding pending
    pending_none zero h m n e =
        next_none U (f 0) (span f 1 (k - 1)) b (ready 0 h) (all_ready 1 (k - 1) (omega arith)) n e
        ∙ rw (others_same m, m.here) (unfold moved moved_by in refl)
    pending_none (suc j) h m n e =
        rw (span_cons f (suc j) k h)
        (midway_none U (f 0) b (cursor_rank (f 0).cursor) (span f 1 j) (f (suc j))
        (span f (suc j + 1) (k - (suc j + 1))) n e
        ∙ rw (others_parts j h m, lead_same j h m))

    -- the rank of a page is the cursor's
    lands : (i : ℕ) → i < k → Moves U b i f g → (d r : ℕ) → (this i).found ≡ page d r → cursor_rank (g i).cursor ≡ r
    lands i h m d r e =
        let a = ready i h in
        let t = sought_first U b (f i) a d r e in
        let stands = (seek_first (f i).form U (f i).pages a.rises (f i).cursor b a.placed a.behind).cursor in
        rw m.here (unfold moved moved_by seek_by cursor_rank in rw (stands, t.0, cursor_at_on (f i).pages r t.1))

    -- a seek that finds page d leaves what list_after says
    pub pending_page : (i : ℕ) → i < k → Moves U b i f g → (d r : ℕ) → (this i).found ≡ page d r
        → pending U k f i b ≡ plus 1 (this i).looks (pending U k g (list_after i b d) d)
    unfolding pending list_after
    pending_page zero h m d r e =
        next_page U (f 0) (span f 1 (k - 1)) b (ready 0 h) (all_ready 1 (k - 1) (omega arith)) d r e
        ∙ rw (others_same m, ← m.here, ← lands 0 h m d r e) (unfold span in refl)
    pending_page (suc j) h m d r e =
        rw (span_cons f (suc j) k h)
        (elim (dec_lt b d) [
          | yes l ↦
              midway_larger U (f 0) b (cursor_rank (f 0).cursor) (span f 1 j) (f (suc j))
              (span f (suc j + 1) (k - (suc j + 1))) d r e l
              ∙ rw (lt-ltb 0 (suc j) (omega arith), lt-ltb b d l, others_parts j h m, lead_same j h m)
          | no l ↦
              let s : d ≡ b = omega (arith, sought_least U b (f (suc j)) (ready (suc j) h) d r e) in
              midway_same U (f 0) b (cursor_rank (f 0).cursor) (span f 1 j) (f (suc j))
              (span f (suc j + 1) (k - (suc j + 1))) d r e (omega arith)
              ∙ rw (
                lt-ltb 0 (suc j) (omega arith),
                le-ltb b d (omega arith),
                more_parts j h m,
                behind_same j h m,
                s,
                add-one (suc j),
                lead_same j h m,
              )
        ])
