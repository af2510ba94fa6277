-- `set_ones` stores the word with the ones set, or leaves it where they all stand.
use mathlib.Core.Path.{ap, ◌∙◌}
use Prim.Native.Nat.{◌*◌}
use native.Mathlib.Omega.{arith}
use lib.Bits.{bit_or}
use lib.Seq.{sets}
use Rattle.rules.specs.Bytes.{be}
use Rattle.addlaws.proofs.SetLaws.{one_set, one_same}
use Rattle.setting.proofs.set_ones.Goals as goal

pub returns-then-word-held : goal.returns-then-word-held
returns-then-word-held c =
    let w = c in
    let r = w in
    let s = r in
    let a = s.args in
    w.write_u64.ensures
    ∙ ap (λ x. sets a.run.now (8 * a.k) (be 8 (bit_or x a.bits))) r.read_u64-held.ensures
    ∙ one_set a.k a.bits a.run.now (omega arith) s.requires

pub returns-else-word-held : goal.returns-else-word-held
returns-else-word-held c =
    let r = c in
    let s = r in
    let a = s.args in
    one_same a.k a.bits a.run.now (omega arith) (λ i. (r.slice_known-1.given i).fits) s.requires
    (rw r.read_u64-held.ensures at c.if-word-held.false)
