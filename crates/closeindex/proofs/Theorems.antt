-- What closing answers and leaves, in sentences: each is of any answer and room that the contract of `close_index` allows.
use mathlib.Core.Path.{◌≡◌, sym, ap, ◌∙◌}
use mathlib.Core.List.{List}
use Prim.Native.Nat.{ℕ}
use lib.ListN.{take, drop}
use Rattle.std.specs.Prelude.{Result}
use Rattle.rules.specs.declared.Refusal.{Refusal}
use Rattle.rules.specs.Verdict.{Accepted, verdict}
use Rattle.rules.specs.Limits.{index_header}
use Rattle.rules.specs.Write.{Made}
use Rattle.rules.specs.Index.{index_v, index_n, index_t, index_refusal, close_index}
use Rattle.rules.specs.Promises.{IndexClosed}
use Rattle.cardlaws.specs.Cards.{Closed}
use Rattle.cardlaws.proofs.Theorems.{closing}
use Rattle.cardlaws.proofs.ClosingLaws.{close_told, close_kept}

-- A success leaves an accepted index of that version, N and T with the terms that lay there, and changes its header's bytes alone.
pub close_accepts : (buffer : List ℕ) (used v N T : ℕ) (r : Result ℕ Refusal) (room : List ℕ)
    → IndexClosed buffer used v N T r room → verdict r ≡ Accepted
    → (index_refusal (take used room) ≡ Accepted) × (index_v (take used room) ≡ v) × (index_n (take used room) ≡ N)
    × (index_t (take used room) ≡ T)
    × (drop index_header room ≡ drop index_header buffer)
close_accepts buffer used v N T r room e a =
    let m : room ≡ (close_index buffer used v N T).room = ap (λ (k : Made). k.room) e in
    let c : Closed buffer used v N T =
    closing buffer used v N T (close_told buffer used v N T (sym (ap (λ (k : Made). k.refusal) e) ∙ a)) in
    rw m (c.accepts, c.V-is, c.N-is, c.T-is, c.others_same)

-- A refusal leaves the buffer as it was.
pub close_keeps : (buffer : List ℕ) (used v N T : ℕ) (r : Result ℕ Refusal) (room : List ℕ) → IndexClosed buffer used v N T r room
    → (verdict r ≡ Accepted → ⊥) → room ≡ buffer
close_keeps buffer used v N T r room e n =
    ap (λ (k : Made). k.room) e ∙ close_kept buffer used v N T (λ a. n (ap (λ (k : Made). k.refusal) e ∙ a))
