-- `select_zero` selects among the ones of the complement.
use Rattle.std.proofs.Common.{◌≡◌, ℕ, ◌+◌, ◌-◌, ◌^◌, ◌<◌, mod-eq_of_lt, arith}
use lib.Count.{ones}
use Rattle.fields.specs.Words.{place_of_zero}
use Rattle.fields.proofs.WordLaws.{complement_ones}
use Rattle.selectlaws.proofs.ByteLaws.{zero_counts}
use Rattle.selection.proofs.select_zero.Goals as goal

-- the zeros of a word and its ones are 64
all_bits : (x : ℕ) → x < 2 ^ 64 → ones (2 ^ 64 - 1 - x) + ones x ≡ 64
all_bits x l =
    let other : 2 ^ 64 - 1 - x < 2 ^ 64 = omega arith in
    rw (mod-eq_of_lt l, mod-eq_of_lt other) at (complement_ones 64 x 64 l (omega arith))

pub overflow_sub-counts : goal.overflow_sub-counts
overflow_sub-counts c = omega (arith, zero_counts c.args.x c.args.counts c.requires.0 (omega arith))

pub select_by-requires : goal.select_by-requires
select_by-requires c =
    let x : ℕ = c.args.x in (
      omega (arith, zero_counts x c.args.counts c.requires.0 (omega arith)),
      omega (arith, c.requires.1, all_bits x (omega arith)),
    )

pub returns : goal.returns
unfolding place_of_zero
returns c = c.select_by.ensures
