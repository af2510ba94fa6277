-- Laws of a list gone through by rank: one past the elements passed, and where reading stands after one more.
use mathlib.Core.Bool.{true}
use mathlib.Core.Path.{◌≡◌, refl, sym, ap, ◌∙◌}
use mathlib.Core.List.{List, [], ◌∷◌}
use Prim.Native.Nat.{ℕ, zero, suc, ◌+◌, ◌-◌, ◌≤◌, ◌<◌}
use native.Mathlib.Numerals.{add-one}
use native.Mathlib.Decide.{ℕ_discrete}
use native.Mathlib.Omega.{arith}
use lib.ListN.{length, get_or, take}
use Rattle.rules.specs.List.{rising, two_runs}
use Rattle.rules.specs.Term.{next}
use Rattle.rules.specs.ReadList.{list_u, decode}
use Rattle.rules.specs.Seek.{place_of}
use Rattle.laws.proofs.CountLaws.{below_none, below_suc}
use Rattle.shape.specs.declared.Shape.{Shape}
use Rattle.seeklaws.proofs.FirstLaws.{rising_lt, rising_below}
use Rattle.readlaws.specs.Open.{Open, OneAt}
use Rattle.readlaws.proofs.ReadLaws.{one_ranks}
use Rattle.walklaws.proofs.OpenLaws.{placed_at, open_stored, open_length}
use Rattle.span.specs.declared.Walk.{Walk}
use Rattle.span.specs.Walks.{past, behind, WalkOn, PassedTo}

-- ---- one past the first elements

next_take : (b : ℕ) (xs : List ℕ) (i : ℕ) → i < length xs → next b (take (suc i) xs) ≡ get_or xs i 0 + 1
unfolding next
next_take b [] i h = absurd (omega arith)
next_take b (x ∷ xs) zero h = refl
next_take b (x ∷ xs) (suc i) h = next_take (x + 1) xs i (omega arith)

pub past_none : (xs : List ℕ) → past xs 0 ≡ 0
unfolding past next
past_none xs = refl

pub past_some : (xs : List ℕ) (i : ℕ) → 0 < i → i ≤ length xs → past xs i ≡ get_or xs (i - 1) 0 + 1
unfolding past
past_some xs zero p h = absurd (omega arith)
past_some xs (suc i) p h =
    let e : suc i - 1 ≡ i = omega arith in
    rw e (next_take 0 xs i (omega arith))

pub past_le : (U : ℕ) (xs : List ℕ) → rising 0 U xs ≡ true → (i : ℕ) → i ≤ length xs → past xs i ≤ U
past_le U xs r zero h = rw (past_none xs) (omega arith)
past_le U xs r (suc i) h =
    omega (arith, past_some xs (suc i) (omega arith) h, rising_below 0 U xs r (suc i - 1) (omega arith))

pub past_lt : (U : ℕ) (xs : List ℕ) → rising 0 U xs ≡ true → (i j : ℕ) → i < j → j ≤ length xs → past xs i < past xs j
past_lt U xs r zero j l h = omega (arith, past_none xs, past_some xs j l h)
past_lt U xs r (suc i) j l h =
    omega (
      arith,
      past_some xs (suc i) (omega arith) (omega arith),
      past_some xs j (omega arith) h,
      rising_lt 0 U xs r
          (suc i - 1) (j - 1) (omega arith) (omega arith),
    )

pub past_mono : (U : ℕ) (xs : List ℕ) → rising 0 U xs ≡ true → (i j : ℕ) → i ≤ j → j ≤ length xs → past xs i ≤ past xs j
past_mono U xs r i j l h =
    elim (ℕ_discrete i j) [ yes e ↦ rw e (omega arith) | no e ↦ omega (arith, past_lt U xs r i j (omega (arith, e)) h) ]

-- ---- where reading stands

behind_some : (U : ℕ) (xs : List ℕ) (i : ℕ) → behind U xs (i + 1) ≡ place_of two_runs U xs i + 1
unfolding behind
behind_some U xs i = rw (add-one i)

module _ (s : List ℕ) (g : Shape) (o : Open s g) where
  -- at the start
  pub walk_new : WalkOn s g (record { next = 0; past = 0; place = 0 })
  walk_new = record {
    opened = o;
    within = omega arith;
    past_is = sym (past_none (decode s));
    place_is = unfold behind in refl;
    counted = below_none s g.upper;
  }

  -- past the element whose one stands at `place`
  pub walk_past : (rank place value : ℕ) → OneAt s g.upper rank place → value ≡ get_or (decode s) rank 0
      → PassedTo s g (rank + 1) (record { next = rank + 1; past = value + 1; place = place + 1 })
  walk_past rank place value one e =
      let r = one_ranks s g o place rank one in
      let d : rank + 1 - 1 ≡ rank = omega arith in
      let stands : place_of two_runs (list_u s) (decode s) rank ≡ place =
      placed_at two_runs s g (open_stored s g o) place rank one in
      let p = rw d at (past_some (decode s) (rank + 1) (omega arith) (omega (arith, r.number, open_length s g o))) in
      record {
        on = record {
          opened = o;
          within = omega (arith, r.number);
          past_is = ap (λ (v : ℕ). v + 1) e ∙ sym p;
          place_is = ap (λ (v : ℕ). v + 1) (sym stands) ∙ sym (behind_some (list_u s) (decode s) rank);
          counted = rw (add-one place) (omega (arith, below_suc s g.upper place, one.set, one.below));
        };
        at = refl;
      }

-- as many elements passed, it stands at the same place
pub passed_unique : (s : List ℕ) (g : Shape) (n : ℕ) (w r : Walk) → PassedTo s g n w → PassedTo s g n r → w ≡ r
passed_unique s g n w r p q =
    let e : w.next ≡ r.next = p.at ∙ sym q.at in
    let d = p.on.past_is ∙ ap (past (decode s)) e ∙ sym q.on.past_is in
    let f = p.on.place_is ∙ ap (behind (list_u s) (decode s)) e ∙ sym q.on.place_is in
    rw (← e, ← d, ← f)
