use mathlib.Core.Path.{◌∙◌}
use native.Mathlib.Omega.{arith}
use Rattle.std.proofs.lemmas.Nat.{and_mask}
use Rattle.rules.specs.Bytes.{be}
use Rattle.numbers.proofs.StoreLaws.{stored}
use Rattle.numbers.proofs.write_u16.Goals as goal

pub returns : goal.returns
unfolding be
returns c =
    let a = c.args in
    let m = and_mask a.v 16 in
    stored 2 a.v a.d.now c.copy_from_slice.new.self a.at c.requires
    (c.copy_from_slice.ensures.after ∙ c.to_be_bytes.ensures ∙ grind (arith, m))
