-- `write_front` lays the header at the front: its four stores are one, side by side.
use mathlib.Core.Path.{◌≡◌, refl, ap, ◌∙◌}
use native.Mathlib.Omega.{arith}
use lib.ListN.{length, set, length-set}
use lib.Seq.{length-sets}
use Rattle.rules.specs.Bytes.{be}
use Rattle.rules.specs.Index.{index_front}
use Rattle.laws.proofs.RoomLaws.{length_laid}
use Rattle.cardlaws.proofs.FrontLaws.{length_front}
use Rattle.cardlaws.proofs.ClosingLaws.{front_stored}
use Rattle.closeindex.proofs.write_front.Lts
use Rattle.closeindex.proofs.write_front.Reads
use Rattle.closeindex.proofs.write_front.Tie
use Rattle.closeindex.proofs.write_front.Goals as goal

abbrev After-write_u32 : Type 0
After-write_u32 = Lts.After-write_u32 Tie.the-claims Reads.Pre Reads.Post

abbrev After-write_u32-2 : Type 0
After-write_u32-2 = Lts.After-write_u322 Tie.the-claims Reads.Pre Reads.Post

-- the length stays
length_at : (c : After-write_u32)
    → length (set c.write_u32.new.d 4 c.args.version)
    ≡ length c.args.buffer.now
length_at c =
    let a = c.args in
    length-set c.write_u32.new.d 4 a.version ∙ ap length c.write_u32.ensures
    ∙ length-sets a.buffer.now 0 (be 4 a.used)

length_at_2 : (c : After-write_u32-2) → length c.write_u32-2.new.d
    ≡ length c.args.buffer.now
length_at_2 c =
    let w = c in
    let a = w.args in
    ap length c.write_u32-2.ensures ∙ length-sets (set w.write_u32.new.d 4 a.version) 5 (be 4 a.n) ∙ length_at w.before.before.before.before

pub returns : goal.returns
returns c =
    let u = c in
    let v = u in
    let w = v in
    let b = w in
    let a = b.args in
    front_stored a.buffer.now w.write_u32.new.d
    (set w.write_u32.new.d 4 a.version) v.write_u32-2.new.d u.write_u16.new.d a.used a.version a.n a.t b.requires
    w.write_u32.ensures refl v.write_u32-2.ensures u.write_u16.ensures

pub shape_of-buffer : goal.shape_of-buffer
shape_of-buffer c =
    let v = c in
    let b = v in
    let a = b.args in
    ap length (returns c)
    ∙ length_laid (index_front a.used a.version a.n a.t) a.buffer.now
    (omega (arith, b.requires, length_front a.used a.version a.n a.t))

pub write_u32-requires-2 : goal.write_u32-requires-2
write_u32-requires-2 c = omega (arith, length_at c.before.before.before, c.requires)

pub write_u16-requires : goal.write_u16-requires
write_u16-requires c = omega (
  arith,
  length_at_2 c.before.before.before,
  c.requires,
)
