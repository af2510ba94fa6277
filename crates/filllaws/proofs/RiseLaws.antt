-- Laws of a list that is read from its front: whether it rises, by what is left of it, and what may follow its prefixes.
use mathlib.Core.Bool.{Bool, true, false, ◌&&◌, false≢true}
use mathlib.Core.Path.{◌≡◌, refl, sym, ap, ◌∙◌}
use mathlib.Core.List.{List, [], ◌∷◌, ◌++◌, append_assoc}
use Prim.Native.Nat.{ℕ, zero, suc, ◌+◌, ◌-◌, ◌≤◌, ◌<◌}
use native.Mathlib.Numerals.{add-one}
use native.Mathlib.Omega.{arith}
use borrow.Author.Tests.{le-leb, lt-leb}
use lib.Dec.{leb}
use lib.ListN.{length, get_or, take, drop, drop_of_length-le, length-append, length-drop, take-append-drop}
use lib.Seq.{drop-cons, length-take-le, take-suc, take-append-add, get_or-append-add, get_or-drop}
use Rattle.rules.specs.List.{rising}
use Rattle.listlaws.specs.Sound.{climbs, least}
use Rattle.listlaws.proofs.RisingLaws.{rising_parts, rising_climbs}
use Rattle.shape.specs.declared.Shape.{Shape}
use Rattle.filllaws.specs.Filling.{Next, Follows}

pub drop_front : (xs : List ℕ) (i : ℕ) → i < length xs → drop i xs ≡ get_or xs i 0 ∷ drop (i + 1) xs
drop_front xs i h = rw add-one (drop-cons xs i 0 h)

-- what is left to test
unfoldable pub climbs_below : ℕ → ℕ → List ℕ → Bool
climbs_below u lo xs = climbs lo xs && leb (least lo xs) u

module _ (u lo x : ℕ) (xs : List ℕ) where
  first_falls : x < lo → climbs_below u lo (x ∷ xs) ≡ false
  unfolding climbs_below climbs
  first_falls l = rw (lt-leb lo x l)

  first_on : lo ≤ x → climbs_below u lo (x ∷ xs) ≡ climbs_below u (x + 1) xs
  unfolding climbs_below climbs least
  first_on l = rw (le-leb lo x l)

module _ (u : ℕ) (xs : List ℕ) (lo i : ℕ) (h : i < length xs) where
  climbs_falls : get_or xs i 0 < lo → climbs_below u lo (drop i xs) ≡ false
  climbs_falls l = ap (climbs_below u lo) (drop_front xs i h) ∙ first_falls u lo (get_or xs i 0) (drop (i + 1) xs) l

  climbs_on : lo ≤ get_or xs i 0 → climbs_below u lo (drop i xs) ≡ climbs_below u (get_or xs i 0 + 1) (drop (i + 1) xs)
  climbs_on l = ap (climbs_below u lo) (drop_front xs i h) ∙ first_on u lo (get_or xs i 0) (drop (i + 1) xs) l

pub climbs_end : (u : ℕ) (xs : List ℕ) (lo i : ℕ) → length xs ≤ i → climbs_below u lo (drop i xs) ≡ leb lo u
unfolding climbs_below climbs least
climbs_end u xs lo i h = rw (drop_of_length-le xs h)

pub rising_none : (lo u : ℕ) (xs : List ℕ) → length xs ≡ 0 → rising lo u xs ≡ true
unfolding rising
rising_none lo u [] e = refl
rising_none lo u (x ∷ xs) e = absurd (omega arith)

-- what is known after the pairs of neighbours up to element i - 1, of which one falls where b says so
abbrev pub Compared : ℕ → List ℕ → Bool → ℕ → Type 0
Compared u xs b i = (b ≡ true → rising 0 u xs ≡ false)
    × (b ≡ false → rising 0 u xs ≡ climbs_below u (get_or xs (i - 1) 0 + 1) (drop i xs))

pub compared_none : (u : ℕ) (xs : List ℕ) → 0 < length xs → Compared u xs false 1
unfolding climbs_below
compared_none u xs h = (
  λ e. absurd (false≢true e),
  λ e. rising_climbs 0 u xs (omega arith) ∙ climbs_on u xs 0 0 h (omega arith),
)

pub compared_fell : (u : ℕ) (xs : List ℕ) (i : ℕ) → rising 0 u xs ≡ false → Compared u xs true i
compared_fell u xs i r = (λ e. r, λ e. absurd (false≢true (sym e)))

module _ (u : ℕ) (xs : List ℕ) (i : ℕ) (h : i < length xs) where
  pub compared_falls : (b : Bool) → Compared u xs b i → get_or xs i 0 ≤ get_or xs (i - 1) 0 → rising 0 u xs ≡ false
  compared_falls true k l = k.0 refl
  compared_falls false k l = k.1 refl ∙ climbs_falls u xs (get_or xs (i - 1) 0 + 1) i h (omega arith)

  pub compared_on : (b : Bool) → Compared u xs b i → get_or xs (i - 1) 0 < get_or xs i 0 → Compared u xs b (i + 1)
  compared_on b k l =
      let e : i + 1 - 1 ≡ i = omega arith in (
        k.0,
        λ f. rw e (k.1 f ∙ climbs_on u xs (get_or xs (i - 1) 0 + 1) i h (omega arith)),
      )

-- an element of a rising list may follow those before it
rising_next : (lo U : ℕ) (xs : List ℕ) → rising lo U xs ≡ true → (i : ℕ) → i < length xs
    → (least lo (take i xs) ≤ get_or xs i 0) × (get_or xs i 0 < U)
unfolding least
rising_next lo U [] r i h = absurd (omega arith)
rising_next lo U (x ∷ xs) r zero h = let t = rising_parts lo U x xs r in (t.0, t.1)
rising_next lo U (x ∷ xs) r (suc i) h = rising_next (x + 1) U xs (rising_parts lo U x xs r).2 i (omega arith)

-- ---- elements behind others

pub take_more : (xs : List ℕ) (i : ℕ) → i < length xs → take (i + 1) xs ≡ take i xs ++ (get_or xs i 0 ∷ [])
take_more xs i h = rw add-one (take-suc xs i 0 h)

module _ (g : Shape) (xs ys : List ℕ) (f : Follows g xs ys) (i : ℕ) (h : i < length ys) where
  pub follows_next : Next g (xs ++ take i ys) (get_or ys i 0)
  follows_next =
      let n : length xs + i < length (xs ++ ys) = rw length-append (omega arith) in
      let t = rising_next 0 g.u (xs ++ ys) f.rises (length xs + i) n in
      let u = rw (take-append-add xs ys i, get_or-append-add xs ys i 0) at t in
      record {
        few = rw (length-append, length-take-le i ys (omega arith)) (omega (arith, length-append xs ys, f.few));
        climbs = u.0;
        below = u.1;
      }

  pub follows_more : xs ++ take (i + 1) ys ≡ (xs ++ take i ys) ++ (get_or ys i 0 ∷ [])
  follows_more = rw (take_more ys i h) (sym (append_assoc xs (take i ys) (get_or ys i 0 ∷ [])))

-- those of a list from number `from` on
module _ (g : Shape) (xs ys : List ℕ) (from i : ℕ) (f : Follows g xs (drop from ys))
    (l : from ≤ i) (h : i < length ys) where
  left_lt : i - from < length (drop from ys)
  left_lt = rw length-drop (omega arith)

  left_at : get_or (drop from ys) (i - from) 0 ≡ get_or ys i 0
  left_at =
      let e : from + (i - from) ≡ i = omega arith in
      get_or-drop from ys (i - from) 0 ∙ ap (λ n. get_or ys n 0) e

  pub left_next : Next g (xs ++ take (i - from) (drop from ys)) (get_or ys i 0)
  left_next = rw left_at at (follows_next g xs (drop from ys) f (i - from) left_lt)

  pub left_more : xs ++ take (i + 1 - from) (drop from ys)
      ≡ (xs ++ take (i - from) (drop from ys)) ++ (get_or ys i 0 ∷ [])
  left_more =
      let e : i + 1 - from ≡ i - from + 1 = omega arith in
      rw e (follows_more g xs (drop from ys) f (i - from) left_lt ∙ rw left_at)

-- those behind the first i
pub follows_drop : (g : Shape) (xs ys : List ℕ) (i : ℕ) → Follows g xs ys → Follows g (xs ++ take i ys) (drop i ys)
follows_drop g xs ys i f =
    let e : (xs ++ take i ys) ++ drop i ys ≡ xs ++ ys =
    append_assoc xs (take i ys) (drop i ys) ∙ ap (λ l. xs ++ l) (take-append-drop i ys) in
    record { few = rw e f.few; rises = rw e f.rises }
