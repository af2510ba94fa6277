-- `write_tested` tells that the room is too small, or lays the block.
use mathlib.Core.Path.{◌≡◌, sym, ap₂, ◌∙◌, subst}
use Prim.Native.Nat.{ℕ, ◌+◌, ◌^◌, ◌<◌}
use native.Mathlib.Omega.{arith}
use lib.ListN.{length}
use Rattle.rules.specs.Verdict.{Accepted}
use Rattle.rules.specs.List.{form_of}
use Rattle.rules.specs.Write.{Made, laid}
use Rattle.rules.specs.Term.{Word, lent_word, term_block}
use Rattle.termlaws.proofs.BlockLaws.{term_short}
use Rattle.termlaws.proofs.Theorems.{writes}
use Rattle.filllaws.proofs.WriteLaws.{u_of}
use Rattle.wordlaws.specs.declared.Shapes.{Shapes}
use Rattle.wordlaws.specs.Lists.{Shaped}
use Rattle.wordlaws.proofs.ShapedLaws.{Bounds, bounds_of, shaped_of, block_long}
use Rattle.writeterm.proofs.AnswerLaws.{answer_room}
use Rattle.writeterm.proofs.write_tested.Lts
use Rattle.writeterm.proofs.write_tested.Reads
use Rattle.writeterm.proofs.write_tested.Tie
use Rattle.writeterm.proofs.write_tested.Goals as goal

abbrev Start : Type 0
Start = Lts.Start Tie.the-claims Reads.Pre Reads.Post

abbrev After-shape_of-2 : Type 0
After-shape_of-2 = Lts.After-shape_of2 Tie.the-claims Reads.Pre Reads.Post

abbrev word : Start → Word
word s = lent_word s.args.pages.now s.args.counts.now s.args.positions.now

bounds : (s : Start) → Bounds s.args.n s.args.pages.now s.args.counts.now s.args.positions.now
bounds s =
    let a = s.args in
    bounds_of a.version a.n a.pages.now a.counts.now a.positions.now s.requires.0

-- the start, seen from where the shapes are known
abbrev known : After-shape_of-2 → Start
known c = c.before.before.before.before.before.before.before

abbrev shapes : After-shape_of-2 → Shapes
shapes c = record {
  pages = c.pages_shape.result;
  counts = c.shape_of.result;
  positions = c.shape_of-2.result;
}

shaped : (c : After-shape_of-2)
    → let a = c.args in
    Shaped a.version (shapes c) a.pages.now a.counts.now a.positions.now
shaped c =
    let s = c in
    let a = s.args in
    shaped_of a.version a.n a.reach a.pages.now a.counts.now a.positions.now s.requires.0
    s.requires.1 (shapes c) c.pages_shape.ensures c.shape_of.ensures
    c.shape_of-2.ensures

abbrev size : After-shape_of-2 → ℕ
size c = 5 + (shapes c).pages.end + (shapes c).counts.end + (shapes c).positions.end

-- the N of the pages is read of their shape
pages_u : (c : After-shape_of-2) → (shapes c).pages.u ≡ c.args.n
pages_u c =
    let a = c.args in
    u_of (form_of a.version a.n (length a.pages.now)) a.n (length a.pages.now) (shapes c).pages
    c.pages_shape.ensures

long : (c : After-shape_of-2)
    → length (term_block c.args.version c.args.n (word (known c))) ≡ size c
long c = rw (pages_u c) at (block_long (shaped c))

short : (c : After-shape_of-2) → size c < 2 ^ 32
short c =
    let s = known c in
    omega (arith, long c, term_short s.args.version s.args.n (word s) s.requires.0)

pub pages_shape-requires : goal.pages_shape-requires
pages_shape-requires c =
    let s = c.before.before.before.before.before in
    ((bounds s).pages, s.requires.0.within)

pub shape_of-requires : goal.shape_of-requires
shape_of-requires c =
    let s = c.before.before.before.before.before.before in
    ((bounds s).counts, omega (arith, (bounds s).positions, s.requires.0.reach))

pub shape_of-requires-2 : goal.shape_of-requires-2
shape_of-requires-2 c =
    let s = c.before.before.before.before.before.before.before in
    (omega (arith, (bounds s).positions, s.requires.1), omega (arith, s.requires.0.reach, s.requires.1))

pub overflow_add-size : goal.overflow_add-size
overflow_add-size c = omega (arith, short c.before.before)

pub overflow_add-size-2 : goal.overflow_add-size-2
overflow_add-size-2 c = omega (arith, short c.before.before.before)

pub overflow_add-size-3 : goal.overflow_add-size-3
overflow_add-size-3 c = omega (arith, short c.before.before.before.before)

pub returns-then-room-size : goal.returns-then-room-size
returns-then-room-size c =
    let g = c.before.before.before.before.before in
    let s = known g in
    sym (answer_room s.args.version s.args.n (word s) s.args.room.now s.requires.0
    (omega (arith, long g, c.if-room-size.true)))

pub fill_term-requires : goal.fill_term-requires
fill_term-requires c =
    let g = c.before.before.before.before.before.before in
    ((g.args.version, shaped g), omega (arith, c.if-room-size.false))

pub returns : goal.returns
returns c =
    let g = c.before.before.before.before.before.before.before.before.before in
    let s = known g in
    let a = s.args in
    let f = c.fill_term in
    let room = subst (λ u. f.new.room ≡ laid (term_block a.version u (word s)) a.room.now) (pages_u g)
    (f.ensures a.version (shaped g)) in
    ap₂ {C = Made} (λ n l. record { refusal = Accepted; size = n; room = l }) (sym (long g)) room
    ∙ sym (writes s.args.version s.args.n (word s) s.args.room.now s.requires.0
    (omega (arith, long g, c.if-room-size.false)))
