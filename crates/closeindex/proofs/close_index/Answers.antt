-- `close_index` answers the refusal and leaves the buffer as it was, or lays the header once the terms have passed.
use mathlib.Core.Path.{sym, ap, ◌∙◌}
use mathlib.Core.List.{List}
use Prim.Native.Nat.{ℕ}
use native.Mathlib.Omega.{arith}
use Rattle.rules.specs.Limits.{last_edition}
use Rattle.laws.proofs.HeadLaws.{up_to_parts}
use Rattle.rules.specs.Verdict.{Accepted}
use Rattle.cardlaws.specs.Cards.{Closable}
use Rattle.cardlaws.proofs.CloseLaws.{closed_made}
use Rattle.cardlaws.proofs.ClosingLaws.{close_refused, close_passed}
use Rattle.closeindex.proofs.close_index.Goals as goal
use Rattle.closeindex.proofs.close_index.Goals.{In_ok-close_refusal}

pub returns-in_err-close_refusal : goal.returns-in_err-close_refusal
returns-in_err-close_refusal c =
    let a = c.args in
    close_refused a.buffer.now a.used a.version a.n a.t c.close_refusal.result c.close_refusal.ensures
    c.from_residual.result c.in_err-close_refusal.field-0.0 c.in_err-close_refusal.was c.from_residual.ensures

closable : (c : In_ok-close_refusal)
    → let a = c.args in
    Closable a.buffer.now a.used a.version a.n a.t
closable c =
    let a = c.args in
    close_passed a.buffer.now a.used a.version a.n a.t c.close_refusal.result c.close_refusal.ensures
    c.in_ok-close_refusal.field-0 c.in_ok-close_refusal.was

pub overflow_cast-version : goal.overflow_cast-version
overflow_cast-version c = omega (arith, (up_to_parts last_edition c.args.version (closable (goal.at.overflow_cast-version c).In_ok-close_refusal).known).1)

pub write_front-requires : goal.write_front-requires
write_front-requires c =
    let k = closable (goal.at.write_front-requires c).In_ok-close_refusal in
    omega (arith, k.fits, k.header)

pub returns : goal.returns
returns c =
    let a = c.args in
    ap (λ (room : List ℕ). record { refusal = Accepted; size = a.used; room = room }) c.write_front.ensures
    ∙ sym (closed_made a.buffer.now a.used a.version a.n a.t (closable (goal.at.returns c).In_ok-close_refusal))
