-- `add_all` hands the shape's numbers on: an element above the base 0 is itself.
use mathlib.Core.Path.{refl, ap, ◌∙◌}
use mathlib.Core.List.{List}
use Prim.Native.Nat.{ℕ}
use Rattle.rules.specs.InPlace.{added}
use Rattle.addlaws.specs.Adding.{Slots}
use Rattle.addlaws.proofs.MoreLaws.{raised_zero}
use Rattle.adding.proofs.add_all.Lts
use Rattle.adding.proofs.add_all.Reads
use Rattle.adding.proofs.add_all.Tie
use Rattle.adding.proofs.add_all.Goals as goal

abbrev Start : Type 0
Start = Lts.Start Tie.the-claims Reads.Pre Reads.Post

-- the shape is asked in its own numbers
slots : (s : Start)
    → let a = s.args in
    Slots a.g.lower a.g.upper a.g.w a.from 0 a.list.now a.block.now a.g
slots s = record {
  asked = record {
    fitting = s.requires.0;
    few = s.requires.1;
    rises = rw (raised_zero s.args.list.now) s.requires.2;
  };
  lower_is = refl;
  upper_is = refl;
  width_is = refl;
}

pub add_above-requires : goal.add_above-requires
add_above-requires c =
    let s = c.before.before.before.before in
    record { shape = s.args.g; slots = slots s }

pub returns : goal.returns
returns c =
    let k = c in
    let s = k.before.before.before.before.before.before.before in
    let a = s.args in
    k.add_above.ensures a.g (slots s)
    ∙ ap (λ (xs : List ℕ). added a.g.u a.g.n a.from xs a.block.now) (raised_zero a.list.now)
