-- `shape_in` makes a shape of a list's numbers.
use Prim.Native.Nat.{◌-◌}
use Rattle.querylaws.specs.Lists.{shape_in}
use Rattle.rows.proofs.shape_in.Goals as goal

pub returns : goal.returns
unfolding shape_in
returns c =
    let to = c in
    let upper = to in
    let lower = upper in
    let bits = lower in
    let w = bits in
    let n = w in
    λ i. record {
      u = n.number.ensures i;
      n = n.number-2.ensures i;
      w = w.number-3.ensures i;
      bits = bits.number-4.ensures i;
      lower = lower.number-5.ensures i;
      upper = upper.number-6.ensures i;
      end = to.number-7.ensures i - c.number-8.ensures i;
    }
