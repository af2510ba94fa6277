-- Laws of finding a question's terms: the least term from a number on, and the walk that goes on.
use mathlib.Core.Path.{◌≡◌, refl, ap, ◌∙◌}
use mathlib.Core.Bool.{Bool, true, false, cond}
use mathlib.Core.List.{List, [], ◌∷◌}
use mathlib.Core.Logic.{◌⊎◌, inl, inr}
use Prim.Native.Nat.{ℕ, zero, suc, ◌+◌, ◌-◌, ◌≤◌, ◌<◌, min}
use native.Mathlib.Decide.{ℕ_discrete, dec_lt}
use native.Mathlib.Omega.{arith}
use lib.Dec.{leb}
use lib.ListN.{length, get_or, take, drop}
use borrow.Author.Tests.{leb-true, leb-false}
use Rattle.std.specs.Prelude.{Option, Some, None, IfSome}
use Rattle.std.specs.Option.{option_map_or}
use Rattle.std.specs.List.{filter, fold, reduce}
use Rattle.rules.specs.Verdict.{Accepted}
use Rattle.rules.specs.Parts.{after}
use Rattle.rules.specs.Index.{index_t, index_refusal}
use Rattle.laws.specs.Blocks.{block_at}
use Rattle.parts.specs.Places.{Walkable}
use Rattle.parts.proofs.PlaceLaws.{part_behind, after_on, walk_rest, after_length}
use Rattle.findlaws.specs.Starts.{Starts, Below, LeastOf, LeastFrom, Put}
use Rattle.findlaws.proofs.FindLaws.{index_walks}

-- ---- the least term from a number on

-- one more term in front that is not the least, or below t, leaves the least what it is
more_front : (x : ℕ) (xs : List ℕ) (t r : ℕ) → (t ≤ x → r ≤ x) → LeastOf xs t r → LeastOf (x ∷ xs) t r
more_front x xs t r h l = record {
  onward = l.onward;
  least = least;
  among = (suc l.among.0, omega (arith, l.among.1), l.among.2);
}
  where
    least : (i : ℕ) → i < length (x ∷ xs) → t ≤ get_or (x ∷ xs) i 0 → r ≤ get_or (x ∷ xs) i 0
    least zero b o = h o
    least (suc i) b o = l.least i (omega (arith, b)) o

below_front : (t x : ℕ) (xs : List ℕ) → x < t → (o : Option ℕ) → LeastFrom xs t o → LeastFrom (x ∷ xs) t o
below_front t x xs h None l = none
  where
    none : (i : ℕ) → i < length (x ∷ xs) → get_or (x ∷ xs) i 0 < t
    none zero b = h
    none (suc i) b = l i (omega (arith, b))
below_front t x xs h (Some r) l = more_front x xs t r (λ g. absurd (omega arith)) l

-- two terms in front in place of one, such that the least is among them where it was that one
two_in_front : (a x b : ℕ) (xs : List ℕ) (t r : ℕ) → (t ≤ a → r ≤ a) → (t ≤ x → r ≤ x) → (b ≡ r → (a ≡ r) ⊎ (x ≡ r))
    → LeastOf (b ∷ xs) t r → LeastOf (a ∷ x ∷ xs) t r
two_in_front a x b xs t r h g c l = record {
  onward = l.onward;
  least = least;
  among = among l.among.0 l.among.1 l.among.2;
}
  where
    least : (i : ℕ) → i < length (a ∷ x ∷ xs) → t ≤ get_or (a ∷ x ∷ xs) i 0 → r ≤ get_or (a ∷ x ∷ xs) i 0
    least zero d o = h o
    least (suc zero) d o = g o
    least (suc (suc i)) d o = l.least (suc i) (omega (arith, d)) o

    among : (i : ℕ) → i < length (b ∷ xs) → get_or (b ∷ xs) i 0 ≡ r
        → (i : ℕ) × (i < length (a ∷ x ∷ xs)) × (get_or (a ∷ x ∷ xs) i 0 ≡ r)
    among zero d e = elim (c e) [ inl p ↦ (0, omega arith, p) | inr p ↦ (1, omega arith, p) ]
    among (suc i) d e = (suc (suc i), omega (arith, d), e)

-- the least of a term and of those others that are at or above t
least_folded : (t : ℕ) (xs : List ℕ) (a : ℕ) → t ≤ a → LeastOf (a ∷ xs) t (fold min a (filter (leb t) xs))
least_folded t [] a h = record { onward = h; least = alone; among = (0, omega arith, refl) }
  where
    alone : (i : ℕ) → i < length (a ∷ []) → t ≤ get_or (a ∷ []) i 0 → a ≤ get_or (a ∷ []) i 0
    alone zero d o = omega arith
    alone (suc i) d o = absurd (omega (arith, d))
least_folded t (x ∷ xs) a h = go (least_folded t xs) (leb t x) refl
  where
    go : ((a : ℕ) → t ≤ a → LeastOf (a ∷ xs) t (fold min a (filter (leb t) xs))) → (b : Bool) → leb t x ≡ b
        → LeastOf (a ∷ x ∷ xs) t (fold min a (cond b (x ∷ filter (leb t) xs) (filter (leb t) xs)))
    go ih true e =
        let g = leb-true t x e in
        let l = ih (min a x) (omega arith) in
        let m = l.least 0 (omega arith) (omega arith) in
        two_in_front a x (min a x) xs t _ (λ _. omega arith) (λ _. omega arith) (λ p. lesser a x _ p) l
      where
        lesser : (a x r : ℕ) → min a x ≡ r → (a ≡ r) ⊎ (x ≡ r)
        lesser a x r p = elim (dec_lt a x) [ yes g ↦ inl (omega arith) | no g ↦ inr (omega arith) ]
    go ih false e =
        let g = leb-false t x e in
        let l = ih a h in
        two_in_front a x a xs t _ (l.least 0 (omega arith)) (λ o. absurd (omega arith)) inl l

-- the least of those that are at or above t
pub least_filtered : (t : ℕ) (xs : List ℕ) → LeastFrom xs t (reduce min (filter (leb t) xs))
least_filtered t [] = λ i h. absurd (omega arith)
least_filtered t (x ∷ xs) = go (least_filtered t xs) (leb t x) refl
  where
    go : LeastFrom xs t (reduce min (filter (leb t) xs)) → (b : Bool) → leb t x ≡ b → LeastFrom (x ∷ xs) t (reduce min (cond b (x ∷ filter (leb t) xs) (filter (leb t) xs)))
    go ih true e = least_folded t xs x (leb-true t x e)
    go ih false e = below_front t x xs (leb-false t x e) (reduce min (filter (leb t) xs)) ih

-- ---- the walk that goes on

module _ (s : List ℕ) (t next : ℕ) (h : t ≤ next) where
  on_is : t + (next - t) ≡ next
  on_is = omega arith

  walk_on : Walkable 11 next s → Walkable 0 (next - t) (after t (drop 11 s))
  walk_on w = walk_rest 11 t (next - t) s (rw on_is w)

  walked_on : after (next - t) (after t (drop 11 s)) ≡ after next (drop 11 s)
  walked_on = after_on t (next - t) (drop 11 s) ∙ ap (λ (m : ℕ). after m (drop 11 s)) on_is

-- those of the terms ts that are below the next one, or all where there is none, start at their numbers of ps
abbrev pub AllStart : List ℕ → List ℕ → Option ℕ → List ℕ → Type 0
AllStart s ts next ps =
    (i : ℕ) → i < length ts → IfSome next (λ n. get_or ts i 0 < n) → Starts s (get_or ts i 0) (get_or ps i 0)

-- a term other than t and before the next one behind t is below t
before_next : (ts : List ℕ) (t : ℕ) (next : Option ℕ) (i : ℕ) → LeastFrom ts (t + 1) next → i < length ts
    → IfSome next (λ n. get_or ts i 0 < n) → (get_or ts i 0 ≡ t → ⊥) → get_or ts i 0 < t
before_next ts t None i l h b e = omega (arith, l i h)
before_next ts t (Some n) i l h b e = elim (dec_lt (get_or ts i 0) t) [
  | yes g ↦ g
  | no g ↦ absurd (omega (arith, l.least i h (omega arith)))
]

-- the terms below t have their starts, and those that are it get theirs
starts_more : (s ts ps after : List ℕ) (t at : ℕ) (next : Option ℕ) → AllStart s ts (Some t) ps → Put ts t at ps after
    → Starts s t at → LeastFrom ts (t + 1) next → AllStart s ts next after
starts_more s ts ps after t at next a p o l i h b =
    elim (ℕ_discrete (get_or ts i 0) t) [
      | yes e ↦ rw (p.here i h e, e) o
      | no e ↦ rw (p.others i (λ _. e)) (a i h (before_next ts t next i l h b e))
    ]

-- what is left of the card starts at term t, the terms below the next one have their starts, and the next one, if any,
-- is of the card
pub record Finding (s ts ps : List ℕ) (n t : ℕ) (rest : List ℕ) (next : Option ℕ) : Type 0 where
  pub room : length ps ≡ n
  pub left : rest ≡ after t (drop 11 s)
  pub onward : IfSome next (λ m. t ≤ m)
  pub on_card : IfSome next (λ m. m < index_t s)
  pub found : AllStart s ts next ps

-- how many terms of the card there are from the next one on
abbrev pub ahead : List ℕ → Option ℕ → ℕ
ahead s next = option_map_or (λ n. index_t s - n) next 0

-- the least term is at or behind the number that it is sought from
least_onward : (ts : List ℕ) (t : ℕ) (o : Option ℕ) → LeastFrom ts t o → IfSome o (λ m. t ≤ m)
least_onward ts t None l = tt
least_onward ts t (Some r) l = l.onward

-- of terms above 0 there are none below 0
none_before : (s ts ps : List ℕ) (o : Option ℕ) → LeastFrom ts 0 o → AllStart s ts o ps
none_before s ts ps None l i h b = absurd (omega (arith, l i h))
none_before s ts ps (Some r) l i h b = absurd (omega (arith, l.least i h (omega arith)))

module _ (s ts : List ℕ) (a : index_refusal s ≡ Accepted) (b : Below s ts) where
  -- the least of the card's terms is one of them
  least_below : (t : ℕ) (o : Option ℕ) → LeastFrom ts t o → IfSome o (λ m. m < index_t s)
  least_below t None l = tt
  least_below t (Some r) l = rw l.among.2 at (b l.among.0 l.among.1)

  pub finding_first : (ps : List ℕ) (next : Option ℕ) → LeastFrom ts 0 next
      → Finding s ts ps (length ps) 0 (take (length s - 11) (drop 11 s)) next
  unfolding after
  finding_first ps next l = record {
    room = refl;
    left = part_behind 11 s;
    onward = least_onward ts 0 next l;
    on_card = least_below 0 next l;
    found = none_before s ts ps next l;
  }

  module _ (ps : List ℕ) (n t : ℕ) (rest : List ℕ) (next : ℕ) (f : Finding s ts ps n t rest (Some next)) where
    walks : Walkable 11 next s
    walks = index_walks s a next f.on_card

    pub finding_walks : Walkable 0 (next - t) rest
    finding_walks = rw f.left (walk_on s t next f.onward walks)

    module _ (new : List ℕ) (e : new ≡ after (next - t) (drop 0 rest)) where
      left_next : new ≡ after next (drop 11 s)
      left_next = e ∙ rw f.left (walked_on s t next f.onward)

      -- the next term starts where what is left of the card does
      pub start_next : block_at 11 next s + length new ≡ length s
      start_next = rw left_next (after_length 11 next s walks)

      pub finding_more : (qs : List ℕ) (then : Option ℕ) → Put ts next (length s - length new) ps qs
          → LeastFrom ts (next + 1) then → Finding s ts qs n next new then
      finding_more qs then p l =
          let start : length s - length new ≡ block_at 11 next s = omega (arith, start_next) in record {
            room = p.same ∙ f.room;
            left = left_next;
            onward = rising then l;
            on_card = least_below (next + 1) then l;
            found =
                starts_more s ts ps qs next (length s - length new) then f.found p
                (record { below = f.on_card; start = start }) l;
          }
        where
          rising : (o : Option ℕ) → LeastFrom ts (next + 1) o → IfSome o (λ m. next ≤ m)
          rising None l = tt
          rising (Some r) l = omega (arith, l.onward)
