use mathlib.Core.Path.{◌∙◌}
use native.Mathlib.Nat.{div-one}
use Rattle.rules.specs.Bytes.{be}
use Rattle.numbers.proofs.StoreLaws.{stored}
use Rattle.numbers.proofs.write_u64.Goals as goal

pub returns : goal.returns
unfolding be
returns c =
    let a = c.args in
    stored 8 a.v a.d.now c.copy_from_slice.new.self a.at c.requires
    (c.copy_from_slice.ensures.after ∙ c.to_be_bytes.ensures ∙ rw div-one)
