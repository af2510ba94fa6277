-- `to_zero` selects the zero among the word's: those that lie below what is left are counted as well.
use mathlib.Core.Path.{◌≡◌, refl}
use Prim.Native.Nat.{ℕ, ◌+◌, ◌-◌, ◌*◌, ◌%◌, ◌^◌, ◌<◌}
use native.Mathlib.Omega.{arith}
use lib.Count.{ones}
use Rattle.rules.specs.Runs.{bit}
use Rattle.fields.specs.Words.{place_of_zero}
use Rattle.fields.proofs.WordLaws.{zero_bit, zero_ones}
use Rattle.passing.proofs.to_zero.Lts
use Rattle.passing.proofs.to_zero.Reads
use Rattle.passing.proofs.to_zero.Tie
use Rattle.passing.proofs.to_zero.Goals as goal

abbrev After-select_zero-place : Type 0
After-select_zero-place = Lts.After-select_zero Tie.the-claims Reads.Pre Reads.Post

-- zero number j of a word
zero_at : (x j p : ℕ) → x < 2 ^ 64 → p ≡ place_of_zero 64 x j → p < 64 → (bit x p ≡ 0) × (ones (x % 2 ^ p) + j ≡ p)
zero_at x j p l e h = rw e (zero_bit 64 x l j (rw e at h), zero_ones 64 x l j (rw e at h))

-- the zero that is selected
selected : (c : After-select_zero-place) →
    let a = c.args in
    (bit a.at.left c.select_zero-place.result ≡ 0)
    × (ones (a.at.left % 2 ^ c.select_zero-place.result) + (a.h + a.at.rank - 64 * a.at.k - 1)
    ≡ c.select_zero-place.result)
selected c =
    let a = c.args in
    zero_at a.at.left (a.h + a.at.rank - 64 * a.at.k - 1) c.select_zero-place.result (omega arith)
    c.select_zero-place.ensures.0 c.select_zero-place.ensures.1

pub overflow_sub-result : goal.overflow_sub-result
overflow_sub-result c = omega (arith, (selected c.before.before).1)

pub returns : goal.returns
returns c =
    let there = c in
    let start = there in
    let z = start.requires.0 in
    let f = selected there.before.before in
    record {
      place = there.select_zero-place.result;
      inside = there.select_zero-place.ensures.1;
      zero = f.0;
      k_kept = refl;
      left_is = c.from_bit.ensures;
      rank_is = omega (arith, f.1);
      number = omega (arith, f.1, z.behind);
    }
