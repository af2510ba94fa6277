-- What the check of a term answers, in sentences: each is of any answer that the contract of `check_term` allows.
use mathlib.Core.Logic.{◌↔◌}
use mathlib.Core.Path.{◌≡◌, sym, ◌∙◌}
use mathlib.Core.List.{List}
use Prim.Native.Nat.{ℕ}
use Rattle.rules.specs.Verdict.{Verdict}
use Rattle.rules.specs.Verdict.{Accepted}
use Rattle.rules.specs.Bytes.{Bytes}
use Rattle.rules.specs.Term.{Word, term_block}
use Rattle.rules.specs.Promises.{TermChecked}
use Rattle.termlaws.specs.Words.{Writable}
use Rattle.termlaws.proofs.Theorems.{accepted_iff}

-- The check accepts the blocks of writable words, and nothing else.
pub check_accepts : (v : ℕ) (s : List ℕ) → Bytes s → (r : Verdict) → TermChecked v s r
    → (r ≡ Accepted) ↔ ((N : ℕ) × (t : Word) × Writable v N t × (s ≡ term_block v N t))
check_accepts v s b r e = (λ a. (accepted_iff v s b).0 (sym e ∙ a), λ p. e ∙ (accepted_iff v s b).1 p)
