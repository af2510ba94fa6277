use Prim.Native.Nat.{◌^◌}
use native.Mathlib.Nat.{div-mul-le_self, lt_of_le_of_lt, mod-eq_of_lt}
use Rattle.fields.proofs.from_bit.Goals as goal

pub returns : goal.returns
returns c = mod-eq_of_lt (lt_of_le_of_lt (div-mul-le_self c.args.x (2 ^ c.args.j)) c.ranges.x.fits)
