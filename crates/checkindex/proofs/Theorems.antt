-- What the check of an index answers, in sentences: each is of any answer that the contract of `check_index` allows.
use mathlib.Core.Bool.{true}
use mathlib.Core.Logic.{◌↔◌}
use mathlib.Core.Path.{◌≡◌, sym, ◌∙◌}
use mathlib.Core.List.{List}
use Prim.Native.Nat.{ℕ}
use Rattle.rules.specs.Verdict.{Verdict}
use Rattle.rules.specs.Verdict.{Accepted}
use Rattle.rules.specs.Bytes.{Bytes}
use Rattle.rules.specs.Term.{Word}
use Rattle.rules.specs.Index.{valid_card, card}
use Rattle.rules.specs.Promises.{IndexChecked}
use Rattle.cardlaws.proofs.Theorems.{accepted_iff}

-- The check accepts the cards of some N and words, and nothing else.
pub check_accepts : (s : List ℕ) → Bytes s → (r : Verdict) → IndexChecked s r
    → (r ≡ Accepted) ↔ ((v : ℕ) × (N : ℕ) × (ts : List Word) × (valid_card v N ts ≡ true) × (s ≡ card v N ts))
check_accepts s b r e = (λ a. (accepted_iff s b).0 (sym e ∙ a), λ p. e ∙ (accepted_iff s b).1 p)
