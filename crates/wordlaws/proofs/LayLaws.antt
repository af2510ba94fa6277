-- Laws of the elements of a word's lists, in the order in which they are laid, a stretch at a time.
use mathlib.Core.Bool.{true}
use mathlib.Core.Path.{◌≡◌, refl, sym, ap, ◌∙◌}
use mathlib.Core.List.{List, [], ◌∷◌, ◌++◌}
use Prim.Native.Nat.{ℕ, zero, suc, ◌+◌, ◌-◌, ◌≤◌, ◌<◌, min}
use native.Mathlib.Nat.{zero-add}
use native.Mathlib.Decide.{dec_lt}
use native.Mathlib.Omega.{arith}
use borrow.Author.Tests.{lt-ltb}
use lib.ListN.{length, get_or, take, drop, length-take, length-drop, take-append-drop}
use lib.Seq.{take-nil, take_all, take-add, take-length}
use Rattle.rules.specs.List.{rising}
use Rattle.rules.specs.Term.{total, sums, positive}
use Rattle.listlaws.specs.Sound.{least}
use Rattle.listlaws.proofs.RisingLaws.{and_parts, rising_append}
use Rattle.termlaws.proofs.SumLaws.{positive_parts, length_sums, sums_rising}
use Rattle.shape.specs.declared.Shape.{Shape}
use Rattle.filllaws.specs.declared.Filling.{Filling}
use Rattle.filllaws.specs.Filling.{Partly, Follows, Laid}
use Rattle.wordlaws.specs.declared.Tally.{Tally}
use Rattle.wordlaws.specs.Lists.{Sums}
use Rattle.wordlaws.specs.Stretch.{NextSums}

-- ---- stretches

rising_take : (lo U k : ℕ) (xs : List ℕ) → rising lo U xs ≡ true → rising lo U (take k xs) ≡ true
rising_take lo U k xs r =
    (and_parts (rising lo U (take k xs)) (rising (least lo (take k xs)) U (drop k xs))
    (sym (rising_append lo U (take k xs) (drop k xs)) ∙ rw (take-append-drop k xs) r)).0

take_least : (n : ℕ) (xs : List ℕ) → take (min n (length xs)) xs ≡ take n xs
take_least n xs =
    elim (dec_lt n (length xs)) [
      | yes h ↦
          let e : min n (length xs) ≡ n = omega arith in
          ap (λ k. take k xs) e
      | no h ↦ take_all (min n (length xs)) xs (omega arith) ∙ sym (take_all n xs (omega arith))
    ]

-- the 256 from number i on, or as many as there are
pub stretch_is : (xs : List ℕ) (i k : ℕ) → k ≡ min 256 (length xs - i) → take k (drop i xs) ≡ take 256 (drop i xs)
stretch_is xs i k e =
    let f : k ≡ min 256 (length (drop i xs)) = rw length-drop e in
    rw f (take_least 256 (drop i xs))

-- those up to where the next stretch starts
stretch_behind : (xs : List ℕ) (i n : ℕ) → n ≡ i + min 256 (length xs - i) → take (i + 256) xs ≡ take n xs
stretch_behind xs i n e =
    rw e (take-add i 256 xs
    ∙ ap (λ (ys : List ℕ). take i xs ++ ys) (sym (stretch_is xs i (min 256 (length xs - i)) refl))
    ∙ sym (take-add i (min 256 (length xs - i)) xs))

module _ (g : Shape) (es : List ℕ) (long : length es ≡ g.n) (rises : rising 0 g.u es ≡ true) (i k : ℕ) where
  pub stretch_follows : Follows g (take i es) (take k (drop i es))
  stretch_follows = record {
    few = rw (← take-add i k es, length-take) (omega (arith, long));
    rises = rw (← take-add i k es) (rising_take 0 g.u (i + k) es rises);
  }

  -- those of a stretch, laid behind those before them
  pub stretch_lays : (ys : List ℕ) → ys ≡ take k (drop i es) → (f r : Filling) (d e before : List ℕ)
      → Laid g f ys (length ys) r d e → Partly g (take i es) f before d → Partly g (take (i + k) es) r before e
  stretch_lays ys same f r d e before l p =
      let n : take i es ++ take (length ys) ys ≡ take (i + k) es = rw (take-length ys, same) (sym (take-add i k es)) in
      rw n at (l (take i es) before p (rw same stretch_follows))

  pub next_laid : (j : ℕ) → i + k ≡ j → (ys : List ℕ) → ys ≡ take k (drop i es)
      → (f r : Filling) (d e before : List ℕ) → Laid g f ys (length ys) r d e → Partly g (take i es) f before d
      → Partly g (take j es) r before e
  next_laid j w ys same f r d e before l p = rw w at (stretch_lays ys same f r d e before l p)

-- ---- sums

pub total_take : (cs : List ℕ) (i : ℕ) → i < length cs → total (take (suc i) cs) ≡ total (take i cs) + get_or cs i 0
unfolding total
total_take [] i h = absurd (omega arith)
total_take (c ∷ cs) zero h = omega arith
total_take (c ∷ cs) (suc i) h = omega (arith, total_take cs i (omega arith))

pub total_take_le : (cs : List ℕ) (i : ℕ) → total (take i cs) ≤ total cs
unfolding total
total_take_le cs zero = omega arith
total_take_le [] (suc i) = omega arith
total_take_le (c ∷ cs) (suc i) = omega (arith, total_take_le cs i)

pub positive_at : (cs : List ℕ) → positive cs ≡ true → (i : ℕ) → i < length cs → 0 < get_or cs i 0
positive_at [] p i h = absurd (omega arith)
positive_at (c ∷ cs) p zero h = (positive_parts c cs p).0
positive_at (c ∷ cs) p (suc i) h = positive_at cs (positive_parts c cs p).1 i (omega arith)

pub get_d_sums : (s : ℕ) (cs : List ℕ) (i : ℕ) → i < length cs → get_or (sums s cs) i 0 ≡ s + total (take (suc i) cs) - 1
unfolding sums total
get_d_sums s [] i h = absurd (omega arith)
get_d_sums s (c ∷ cs) zero h = omega arith
get_d_sums s (c ∷ cs) (suc i) h = get_d_sums (s + c) cs i (omega arith) ∙ omega arith

total_split : (cs : List ℕ) (i k : ℕ) → total (take (i + k) cs) ≡ total (take i cs) + total (take k (drop i cs))
unfolding total
total_split cs zero k = rw zero-add (omega arith)
total_split [] (suc i) k = omega (arith, ap total (take-nil (suc i + k)), ap total (take-nil k))
total_split (c ∷ cs) (suc i) k =
    let e : suc i + k ≡ suc (i + k) = omega arith in
    rw e (omega (arith, total_split cs i k))

total_parts : (cs : List ℕ) (i : ℕ) → total cs ≡ total (take i cs) + total (drop i cs)
unfolding total
total_parts cs zero = omega arith
total_parts [] (suc i) = omega arith
total_parts (c ∷ cs) (suc i) = omega (arith, total_parts cs i)

positive_drop : (i : ℕ) (cs : List ℕ) → positive cs ≡ true → positive (drop i cs) ≡ true
unfolding positive
positive_drop zero cs p = p
positive_drop (suc i) [] p = refl
positive_drop (suc i) (c ∷ cs) p = positive_drop i cs (positive_parts c cs p).1

positive_take : (k : ℕ) (cs : List ℕ) → positive cs ≡ true → positive (take k cs) ≡ true
unfolding positive
positive_take zero cs p = refl
positive_take (suc k) [] p = refl
positive_take (suc k) (c ∷ cs) p =
    let t = positive_parts c cs p in
    rw (lt-ltb 0 c t.0) (positive_take k cs t.1)

sums_take : (s k : ℕ) (cs : List ℕ) → take k (sums s cs) ≡ sums s (take k cs)
unfolding sums
sums_take s zero cs = refl
sums_take s (suc k) [] = refl
sums_take s (suc k) (c ∷ cs) = ap (λ (l : List ℕ). (s + c - 1) ∷ l) (sums_take (s + c) k cs)

sums_drop : (s i : ℕ) (cs : List ℕ) → drop i (sums s cs) ≡ sums (s + total (take i cs)) (drop i cs)
unfolding sums total
sums_drop s zero cs = let e : s + 0 ≡ s = omega arith in rw e
sums_drop s (suc i) [] = refl
sums_drop s (suc i) (c ∷ cs) =
    let e : s + c + total (take i cs) ≡ s + (c + total (take i cs)) = omega arith in
    sums_drop (s + c) i cs ∙ ap (λ n. sums n (drop i cs)) e

module _ (g : Shape) (cs room : List ℕ) (q : Sums g cs room) where
  pub sums_long : length (sums 0 cs) ≡ g.n
  sums_long = length_sums 0 cs ∙ q.count

  pub sums_rise : rising 0 g.u (sums 0 cs) ≡ true
  sums_rise = rw q.reach at (sums_rising cs q.counted)

-- those of a stretch
stretch_sums : (s : ℕ) (cs : List ℕ) (i k : ℕ)
    → take k (drop i (sums s cs)) ≡ sums (s + total (take i cs)) (take k (drop i cs))
stretch_sums s cs i k = rw (sums_drop s i cs) (sums_take (s + total (take i cs)) k (drop i cs))

pub stretch_positive : (cs : List ℕ) (i k : ℕ) → positive cs ≡ true → positive (take k (drop i cs)) ≡ true
stretch_positive cs i k p = positive_take k (drop i cs) (positive_drop i cs p)

-- where none are left
pub sums_all : (s : ℕ) (cs : List ℕ) (i : ℕ) → length cs ≤ i → take i (sums s cs) ≡ sums s cs
sums_all s cs i h = take_all i (sums s cs) (rw length_sums h)

-- ---- tallies

-- a tally of the counts, where s is the sum before them
pub record TallyAt (s : ℕ) (cs : List ℕ) (t : Tally) : Type 0 where
  pub within : t.done ≤ length cs
  pub sum : t.sum ≡ s + total (take t.done cs)

pub tally_first : (s : ℕ) (cs : List ℕ) → TallyAt s cs (record { done = 0; sum = s })
unfolding total
tally_first s cs = record { within = omega arith; sum = omega arith }

module _ (s : ℕ) (cs : List ℕ) (t : Tally) (a : TallyAt s cs t) where
  -- what is left stays within the limit
  pub tally_left : (U : ℕ) → s + total cs ≤ U → t.sum + total (drop t.done cs) ≤ U
  tally_left U h = omega (arith, a.sum, total_parts cs t.done)

  module _ (r : Tally) (part : List ℕ) (q : NextSums cs t r part) where
    pub tally_next : TallyAt s cs r
    tally_next = record {
      within = omega (arith, a.within, q.done);
      sum = rw (← stretch_behind cs t.done r.done q.done)
          (omega (arith, q.sum, a.sum, total_split cs t.done 256));
    }

    pub tally_part : take (r.done - t.done - 0) part ≡ take 256 (drop t.done (sums s cs))
    tally_part =
        let e : r.done - t.done - 0 ≡ r.done - t.done = omega arith in
        ap (λ (n : ℕ). take n part) e ∙ q.holds ∙ ap (λ (n : ℕ). sums n (take 256 (drop t.done cs))) a.sum
        ∙ sym (stretch_sums s cs t.done 256)

    pub tally_behind : take (t.done + 256) (sums s cs) ≡ take r.done (sums s cs)
    tally_behind = stretch_behind (sums s cs) t.done r.done (rw length_sums q.done)
