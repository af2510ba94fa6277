-- Laws of lists that agree or not: the last element of one, and each answer of three.
use mathlib.Core.Bool.{true, not}
use mathlib.Core.Path.{◌≡◌, refl}
use mathlib.Core.List.{List, [], ◌∷◌}
use Prim.Native.Nat.{ℕ, suc, ◌+◌, ◌-◌, ◌≤◌, ◌<◌}
use native.Mathlib.Omega.{arith}
use borrow.Author.Tests.{eq-eqb, ne_eqb}
use lib.Dec.{eqb}
use lib.ListN.{length, get_or}
use Rattle.rules.specs.Verdict.{Accepted}
use Rattle.rules.specs.Limits.{limit}
use Rattle.rules.specs.ReadList.{list_u, list_n, decode, list_refusal}
use Rattle.rules.specs.Term.{next}
use Rattle.listlaws.proofs.ValidLaws.{valid_parts}
use Rattle.listlaws.proofs.Theorems.{accepted_block}
use Rattle.termlaws.proofs.OrderLaws.{rising_order}
use Rattle.agreeing.specs.Agreeing.{disagreeing}

-- ---- the last element

pub next_last : (b : ℕ) (xs : List ℕ) → 0 < length xs → next b xs ≡ get_or xs (length xs - 1) 0 + 1
unfolding next
next_last b [] h = absurd (omega arith)
next_last b (x ∷ []) h = refl
next_last b (x ∷ (y ∷ ys)) h =
    let e : length (x ∷ (y ∷ ys)) - 1 ≡ suc (length (y ∷ ys) - 1) = omega arith in
    rw e (next_last (x + 1) (y ∷ ys) (omega arith))

pub next_none : (b : ℕ) (xs : List ℕ) → length xs ≡ 0 → next b xs ≡ b
unfolding next
next_none b [] h = refl
next_none b (x ∷ xs) h = absurd (omega arith)

pub accepted_next : (s : List ℕ) → list_refusal s ≡ Accepted → next 0 (decode s) ≤ limit
accepted_next s a =
    let v = valid_parts (list_u s) (decode s) (accepted_block s a).0 in
    omega (arith, v.0, (rising_order 0 (list_u s) (decode s) (omega arith) v.1).1)

-- ---- whether three lists disagree

module _ (p c q : List ℕ) where
  pub differ_n : (list_n c ≡ list_n p → ⊥) → disagreeing p c q ≡ true
  differ_n h = rw (ne_eqb (list_n c) (list_n p) h)

  module _ (n : list_n c ≡ list_n p) where
    pub differ_sum : (list_u c ≡ next 0 (decode c) → ⊥) → disagreeing p c q ≡ true
    differ_sum h = rw (eq-eqb (list_n c) (list_n p) n, ne_eqb (list_u c) (next 0 (decode c)) h)

    module _ (u : list_u c ≡ next 0 (decode c)) where
      pub differ_positions : (list_n q ≡ list_u c → ⊥) → disagreeing p c q ≡ true
      differ_positions h = rw (
        eq-eqb (list_n c) (list_n p) n,
        eq-eqb (list_u c) (next 0 (decode c)) u,
        ne_eqb (list_n q) (list_u c) h,
      )

      pub differ_last : list_n q ≡ list_u c → disagreeing p c q ≡ not (eqb (list_u q) (next 0 (decode q)))
      differ_last h = rw (
        eq-eqb (list_n c) (list_n p) n,
        eq-eqb (list_u c) (next 0 (decode c)) u,
        eq-eqb (list_n q) (list_u c) h,
      )
