-- What the checks of a list answer, in sentences: each is of any answer that their contracts allow.
use mathlib.Core.Bool.{true}
use mathlib.Core.Logic.{◌↔◌}
use mathlib.Core.Path.{◌≡◌, sym, ◌∙◌}
use mathlib.Core.List.{List}
use Prim.Native.Nat.{ℕ}
use lib.ListN.{length}
use Rattle.rules.specs.Verdict.{Verdict}
use Rattle.rules.specs.Verdict.{Accepted}
use Rattle.rules.specs.List.{valid_list, block, form_of, form_block}
use Rattle.rules.specs.ReadList.{part_refusal}
use Rattle.rules.specs.Promises.{ListChecked}
use Rattle.listlaws.proofs.Theorems.{accepted_iff}
use Rattle.maplaws.proofs.Theorems.{part_iff}

-- The check accepts the blocks of valid lists, and nothing else.
pub check_accepts : (s : List ℕ) (r : Verdict) → ListChecked s r
    → (r ≡ Accepted) ↔ ((U : ℕ) × (xs : List ℕ) × (valid_list U xs ≡ true) × (s ≡ block U xs))
check_accepts s r e = (λ a. (accepted_iff s).0 (sym e ∙ a), λ b. e ∙ (accepted_iff s).1 b)

-- In a term it accepts the blocks of valid lists in the form that their place asks for, and nothing else.
pub part_accepts : (v : ℕ) (s : List ℕ) (r : Verdict) → r ≡ part_refusal v s → (r ≡ Accepted)
    ↔ ((U : ℕ) × (xs : List ℕ) × (valid_list U xs ≡ true) × (s ≡ form_block (form_of v U (length xs)) U xs))
part_accepts v s r e = (λ a. (part_iff v s).0 (sym e ∙ a), λ b. e ∙ (part_iff v s).1 b)
