-- Laws of a valid word, one test after the other.
use mathlib.Core.Bool.{Bool, true, false, ◌&&◌}
use mathlib.Core.Path.{◌≡◌, refl, sym, ◌∙◌}
use mathlib.Core.List.{List}
use Prim.Native.Nat.{ℕ}
use borrow.Author.Tests.{eq-eqb, ne_eqb, eqb-true}
use lib.Dec.{eqb}
use lib.ListN.{length}
use Rattle.std.specs.Prelude.{Some, None}
use Rattle.std.specs.Bool.{then_some}
use Rattle.std.proofs.lemmas.Option.{none-some, same_Some}
use Rattle.rules.specs.List.{rising}
use Rattle.rules.specs.Term.{lent_word, total, positive, in_order_by_page, valid_word}
use Rattle.listlaws.proofs.RisingLaws.{and_parts, and_assoc}
use Rattle.wordlaws.specs.Reach.{summing, Reached}

-- what an answer tells of the test that it hangs on
pub some_told : (v : Bool) (e k : ℕ) → Some k ≡ then_some v e → (v ≡ true) × (k ≡ e)
some_told true e k t = (refl, same_Some k e t)
some_told false e k t = absurd (none-some k (sym t))

pub none_told : (v : Bool) (e : ℕ) → None ≡ then_some v e → v ≡ false
none_told true e t = absurd (none-some e t)
none_told false e t = refl

pub no_word : (N e : ℕ) (ps cs qs : List ℕ) → valid_word N (lent_word ps cs qs) ≡ false
    → Reached (valid_word N (lent_word ps cs qs)) e None
no_word N e ps cs qs v = rw v

pub summing_parts : (n : ℕ) (cs : List ℕ) → summing n cs ≡ true → (total cs ≡ n) × (positive cs ≡ true)
unfolding summing
summing_parts n cs s =
    let t = and_parts (positive cs) (eqb (total cs) n) s in
    (eqb-true (total cs) n t.1, t.0)

module _ (N : ℕ) (ps cs qs : List ℕ) where
  pub lengths_differ : (length ps ≡ length cs → ⊥) → valid_word N (lent_word ps cs qs) ≡ false
  unfolding valid_word
  lengths_differ d = rw (ne_eqb (length ps) (length cs) d)

  module _ (lengths : length ps ≡ length cs) where
    pub pages_fall : rising 0 N ps ≡ false → valid_word N (lent_word ps cs qs) ≡ false
    unfolding valid_word
    pages_fall r = rw (eq-eqb (length ps) (length cs) lengths, r)

    module _ (rises : rising 0 N ps ≡ true) where
      counts_left : valid_word N (lent_word ps cs qs) ≡ summing (length qs) cs && in_order_by_page cs qs
      unfolding valid_word summing
      counts_left =
          rw (eq-eqb (length ps) (length cs) lengths, rises)
          (and_assoc (positive cs) (eqb (total cs) (length qs)) (in_order_by_page cs qs))

      pub counts_fail : summing (length qs) cs ≡ false → valid_word N (lent_word ps cs qs) ≡ false
      counts_fail s = counts_left ∙ rw s

      pub positions_left : summing (length qs) cs ≡ true → valid_word N (lent_word ps cs qs) ≡ in_order_by_page cs qs
      positions_left s = counts_left ∙ rw s
