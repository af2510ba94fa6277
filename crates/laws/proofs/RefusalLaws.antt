-- Laws of refusals: told apart by their numbers, and the first of several.
use mathlib.Core.Bool.{Bool, true, false, cond, not, ◌||◌, true≢false, false≢true}
use mathlib.Core.Path.{◌≡◌, refl, sym, ap, ◌∙◌}
use mathlib.Core.List.{[], ◌∷◌}
use Prim.Native.Nat.{ℕ, zero, suc, ◌<◌}
use native.Mathlib.Omega.{arith}
use lib.Dec.{eqb}
use lib.ListN.{get_or}
use borrow.Author.Tests.{eqb-true, not-true, not-false}
use Rattle.std.specs.Prelude.{Ok, Err, is_err}
use Rattle.std.specs.Result.{IsErr, IsErrAnd}
use Rattle.rules.specs.declared.Refusal.{Refusal}
use Rattle.rules.specs.declared.Refusal.TheVariants as Named
use Rattle.rules.specs.Verdict.{Verdict}
use Rattle.rules.specs.Verdict.{Accepted, Short, Length, Version, Limit}
use Rattle.rules.specs.Verdict.{Layout, Runs, Parts, Question, Room, Lists}
use Rattle.rules.specs.Refusal.{number, accepted, and_then}

-- ---- numbers

-- number k + 1 of a list of refusals, Accepted past its end
abbrev named : ℕ → Verdict
named zero = Accepted
named (suc k) =
    get_or (Short ∷ Length ∷ Version ∷ Limit ∷ Layout ∷ Runs ∷ Parts ∷ Question ∷ Room ∷ Lists ∷ []) k Accepted

named_number : (r : Verdict) → named (number r) ≡ r
named_number (Ok _) = refl
named_number (Err Named.Short) = refl
named_number (Err Named.Length) = refl
named_number (Err Named.Version) = refl
named_number (Err Named.Limit) = refl
named_number (Err Named.Layout) = refl
named_number (Err Named.Runs) = refl
named_number (Err Named.Parts) = refl
named_number (Err Named.Question) = refl
named_number (Err Named.Room) = refl
named_number (Err Named.Lists) = refl

pub number_inj : (r q : Verdict) → number r ≡ number q → r ≡ q
number_inj r q e = sym (named_number r) ∙ ap named e ∙ named_number q

-- ---- accepted

pub accepted_true : (r : Verdict) → accepted r ≡ true → r ≡ Accepted
unfolding accepted
accepted_true r e = number_inj r Accepted (eqb-true (number r) 0 e)

pub true_accepted : (r : Verdict) → r ≡ Accepted → accepted r ≡ true
unfolding accepted
true_accepted r e = rw e

pub refusal_told : (e : Refusal) → accepted (Err e) ≡ false
unfolding accepted
refusal_told Named.Short = refl
refusal_told Named.Length = refl
refusal_told Named.Version = refl
refusal_told Named.Limit = refl
refusal_told Named.Layout = refl
refusal_told Named.Runs = refl
refusal_told Named.Parts = refl
refusal_told Named.Question = refl
refusal_told Named.Room = refl
refusal_told Named.Lists = refl

-- nothing is refused just where there is no error
pub accepted_of : (r : Verdict) (b : Bool) → is_err r ≡ b → accepted r ≡ not b
unfolding accepted
accepted_of (Ok _) b e = ap not e
accepted_of (Err e) b t = refusal_told e ∙ ap not t

-- ---- the first of two

pub and_then_next : (r q : Verdict) → r ≡ Accepted → and_then r q ≡ q
unfolding and_then
and_then_next r q e = rw (true_accepted r e)

pub and_then_stop : (r q : Verdict) → accepted r ≡ false → and_then r q ≡ r
unfolding and_then
and_then_stop r q e = rw e

-- what a `?` makes of a test that tells r, where r is q: it hands the refusal on, which is the answer of q and then x; or
-- q has passed
module _ (r q : Verdict) (is : r ≡ q) where
  pub handed_on : (out x : Verdict) (e : Refusal) → r ≡ Err e → IsErr out × IsErrAnd out (λ d. d ≡ e) → out ≡ and_then q x
  handed_on (Ok _) x e was h = absurd h.1
  handed_on (Err d) x e was h =
      let t = sym is ∙ was in
      ap Err h.1 ∙ sym t ∙ sym (and_then_stop q x (ap accepted t ∙ refusal_told e))

  pub went_on : (u : Unit {0}) → r ≡ Ok u → q ≡ Accepted
  went_on u was = sym is ∙ was

pub and_then_assoc : (a b q : Verdict) → and_then (and_then a b) q ≡ and_then a (and_then b q)
unfolding and_then
and_then_assoc a b q = go (accepted a) refl
  where
    go : (t : Bool) → accepted a ≡ t → and_then (cond t b a) q ≡ cond t (and_then b q) a
    go true e = refl
    go false e = rw e

pub and_then_both : (r q : Verdict) → and_then r q ≡ Accepted → (r ≡ Accepted) × (q ≡ Accepted)
unfolding and_then
and_then_both r q = go (accepted r) refl
  where
    go : (b : Bool) → accepted r ≡ b → cond b q r ≡ Accepted → (r ≡ Accepted) × (q ≡ Accepted)
    go true t e = (accepted_true r t, e)
    go false t e = (e, absurd (false≢true (sym t ∙ true_accepted r e)))

-- ---- a test and what follows it

refused_not : (r : Verdict) → 0 < number r → r ≡ Accepted → ⊥
refused_not r h e = omega (arith, ap number e)

-- where the answer is Accepted, a test that leads to a refusal has failed
pub test_passed : (b : Bool) (r q : Verdict) → 0 < number r → cond b r q ≡ Accepted → (b ≡ false) × (q ≡ Accepted)
test_passed true r q h e = absurd (refused_not r h e)
test_passed false r q h e = (refl, e)

-- a test that two numbers differ
pub equal_passed : (m n : ℕ) → not (eqb m n) ≡ false → m ≡ n
equal_passed m n e = eqb-true m n (not-false (eqb m n) e)

-- neither of two tests
pub or_parts : (a b : Bool) → a || b ≡ false → (a ≡ false) × (b ≡ false)
or_parts true b e = absurd (true≢false e)
or_parts false b e = (refl, e)
