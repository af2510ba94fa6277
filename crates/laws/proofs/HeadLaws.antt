-- Laws of the first three tests of every block: its header's bytes, its stated length and its version.
use mathlib.Core.Bool.{Bool, true, false, cond, not, ◌&&◌, false≢true}
use mathlib.Core.Path.{◌≡◌, refl, sym, ◌∙◌}
use mathlib.Core.List.{List}
use Prim.Native.Nat.{ℕ, ◌≤◌, ◌<◌}
use native.Mathlib.Nat.{lt_of_not-le}
use native.Mathlib.Decide.{dec_le}
use native.Mathlib.Omega.{arith}
use borrow.Author.Tests.{le-ltb, lt-ltb, ltb-false, eq-eqb, ne_eqb, not-false, le-leb, lt-leb}
use lib.Dec.{ltb, leb, eqb, lit<}
use lib.ListN.{length, get_or}
use Rattle.rules.specs.Verdict.{Verdict}
use Rattle.rules.specs.Verdict.{Accepted, Short, Length, Version}
use Rattle.rules.specs.Refusal.{accepted, and_then}
use Rattle.rules.specs.Limits.{up_to}
use Rattle.rules.specs.ReadList.{stated}
use Rattle.laws.specs.Blocks.{Headed, head_tests}
use Rattle.laws.proofs.RefusalLaws.{test_passed, equal_passed}

-- ---- versions 1 to the last

both_false : (a : Bool) → a && false ≡ false
both_false true = refl
both_false false = refl

pub up_to_known : (last v : ℕ) → 1 ≤ v → v ≤ last → up_to last v ≡ true
unfolding up_to
up_to_known last v a b = rw (le-leb 1 v a, le-leb v last b)

pub up_to_below : (last v : ℕ) → v < 1 → up_to last v ≡ false
unfolding up_to
up_to_below last v a = rw (lt-leb 1 v a)

pub up_to_above : (last v : ℕ) → last < v → up_to last v ≡ false
unfolding up_to
up_to_above last v a = rw (lt-leb v last a) (both_false (leb 1 v))

pub up_to_parts : (last v : ℕ) → up_to last v ≡ true → (1 ≤ v) × (v ≤ last)
up_to_parts last v e = (
  elim (dec_le 1 v) [
    | yes a ↦ a
    | no b ↦ absurd (false≢true (sym (up_to_below last v (lt_of_not-le b)) ∙ e))
  ],
  elim (dec_le v last) [
    | yes a ↦ a
    | no b ↦ absurd (false≢true (sym (up_to_above last v (lt_of_not-le b)) ∙ e))
  ],
)

-- of one version alone
pub up_to_one : (v : ℕ) → up_to 1 v ≡ true → v ≡ 1
up_to_one v e = omega (arith, up_to_parts 1 v e)

-- ---- the three tests

module _ (h last : ℕ) (s : List ℕ) (r : Verdict) where
  pub head_short : length s < h → head_tests h last s r ≡ Short
  head_short l = rw (lt-ltb (length s) h l)

  pub head_length : h ≤ length s → (stated s ≡ length s → ⊥) → head_tests h last s r ≡ Length
  head_length l n = rw (le-ltb (length s) h l, ne_eqb (stated s) (length s) n)

  pub head_version : h ≤ length s → stated s ≡ length s → up_to last (get_or s 4 0) ≡ false → head_tests h last s r ≡ Version
  head_version l e n = rw (le-ltb (length s) h l, eq-eqb (stated s) (length s) e, n)

  pub head_next : Headed h last s → head_tests h last s r ≡ r
  head_next p = rw (
    le-ltb (length s) h p.header,
    eq-eqb (stated s) (length s) p.states,
    p.known,
  )

  -- the three tests alone, and then r
  pub head_then : head_tests h last s r ≡ and_then (head_tests h last s Accepted) r
  unfolding and_then accepted
  head_then = go (ltb (length s) h) (eqb (stated s) (length s)) (up_to last (get_or s 4 0))
    where
      go : (a b c : Bool) → cond a Short (cond (not b) Length (cond (not c) Version r))
          ≡ and_then (cond a Short (cond (not b) Length (cond (not c) Version Accepted))) r
      go true b c = refl
      go false false c = refl
      go false true false = refl
      go false true true = refl

  pub head_passed : head_tests h last s r ≡ Accepted → Headed h last s × (r ≡ Accepted)
  head_passed e =
      let t2 : Verdict = cond (not (up_to last (get_or s 4 0))) Version r in
      let t1 : Verdict = cond (not (eqb (stated s) (length s))) Length t2 in
      let a = test_passed (ltb (length s) h) Short t1 (lit< tt) e in
      let b = test_passed (not (eqb (stated s) (length s))) Length t2 (lit< tt) a.1 in
      let c = test_passed (not (up_to last (get_or s 4 0))) Version r (lit< tt) b.1 in (
        record {
          header = ltb-false (length s) h a.0;
          states = equal_passed (stated s) (length s) b.0;
          known = not-false (up_to last (get_or s 4 0)) c.0;
        },
        c.1,
      )
