-- `rank_at` adds the ones behind number i to it, where there is such a number.
use mathlib.Core.Path.{◌≡◌, sym}
use mathlib.Core.List.{List}
use Prim.Native.Nat.{ℕ, ◌+◌, ◌*◌, ◌/◌, ◌^◌, ◌≤◌, ◌<◌}
use native.Mathlib.Omega.{arith}
use lib.ListN.{length}
use Rattle.rules.specs.Runs.{words_for}
use Rattle.rules.specs.Counts.{ones_below}
use Rattle.rules.specs.List.{bitmap}
use Rattle.laws.proofs.CountLaws.{ones_below_le}
use Rattle.shape.specs.declared.Shape.{Shape}
use Rattle.readlaws.specs.Open.{MapOpen, pointers_in, number_at}
use Rattle.readlaws.proofs.FormLaws.{map_reads, form_reads, number_counts}
use Rattle.maprank.proofs.rank_at.Lts
use Rattle.maprank.proofs.rank_at.Reads
use Rattle.maprank.proofs.rank_at.Tie
use Rattle.maprank.proofs.rank_at.Goals as goal

abbrev After-ones_between-2 : Type 0
After-ones_between-2 = Lts.After-ones_between2 Tie.the-claims Reads.Pre Reads.Post

module _ (s : List ℕ) (g : Shape) (o : MapOpen s g) (page : ℕ) (h : page < g.u) where
  -- the number before the page is stored
  number_in : (13 + 4 * (page / 256) ≤ length s) × (page / 256 ≤ pointers_in g) × (page / 256 ≤ 2 ^ 16)
  number_in =
      let m = map_reads s g o in
      let r = form_reads bitmap s g o in
      (omega (arith, m.low, m.up, r.full), omega (arith, m.low), omega (arith, r.within))

  -- the words up to the page's are in the block
  word_in : (page < 2 ^ 32) × (g.upper + 8 * (page / 64) + 8 ≤ length s)
  unfolding words_for
  word_in =
      let m = map_reads s g o in
      let r = form_reads bitmap s g o in
      (omega (arith, r.within), omega (arith, m.bits_are, m.full))

  -- the ones of the words before number i are that number
  counted : number_at s (page / 256) ≡ ones_below s g.upper (64 * (4 * (page / 256)))
  counted =
      let e : 256 * (page / 256) ≡ 64 * (4 * (page / 256)) = omega arith in
      sym (rw e at (number_counts s g o (page / 256) number_in.1))

pub ones_between-requires : goal.ones_between-requires
ones_between-requires c =
    let start = c in
    let a = start.args in
    let w = word_in a.s.now a.g start.requires.0 a.page start.requires.1 in
    (omega arith, w.0, w.1)

pub returns-then-i-eq0 : goal.returns-then-i-eq0
returns-then-i-eq0 c =
    let start = c in
    let a = start.args in
    rw (← (map_reads a.s.now a.g start.requires.0).starts)
    (omega (arith, ones_below_le a.s.now a.g.upper 0, c.ones_between.ensures))

pub number_in-requires : goal.number_in-requires
number_in-requires c =
    let start = c in
    let n = number_in start.args.s.now start.args.g start.requires.0 start.args.page start.requires.1 in
    (n.0, n.2)

pub overflow_mul-i : goal.overflow_mul-i
overflow_mul-i c =
    let start = c in
    omega (
      arith,
      (number_in start.args.s.now start.args.g start.requires.0 start.args.page start.requires.1).2,
    )

pub ones_between-requires-2 : goal.ones_between-requires-2
ones_between-requires-2 c =
    let start = c in
    let a = start.args in
    let w = word_in a.s.now a.g start.requires.0 a.page start.requires.1 in
    (omega arith, w.0, w.1)

-- the number and what is behind it
all : (c : After-ones_between-2) →
    let n = c in
    let a = n.args in
    n.number_in.result + c.ones_between-2.result ≡ ones_below a.s.now a.g.upper a.page
all c =
    let start = c in
    let a = start.args in
    omega (
      arith,
      counted a.s.now a.g start.requires.0 a.page start.requires.1,
      c.number_in.ensures,
      c.ones_between-2.ensures,
    )

pub overflow_add-result : goal.overflow_add-result
overflow_add-result c =
    let start = c in
    let a = start.args in
    omega (
      arith,
      all c.before,
      ones_below_le a.s.now a.g.upper a.page,
      (word_in a.s.now a.g start.requires.0 a.page start.requires.1).0,
    )

pub returns : goal.returns
returns c =
    let start = c in
    rw (← (map_reads start.args.s.now start.args.g start.requires.0).starts) (all c.before)
