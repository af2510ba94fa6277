-- Where a walk ends, in either form: at the one of the first element at least b, or at the run's end where there is
-- none.
use mathlib.Core.Path.{◌≡◌, refl, sym, ◌∙◌}
use mathlib.Core.List.{List}
use Prim.Native.Nat.{ℕ, ◌+◌, ◌-◌, ◌*◌, ◌/◌, ◌≤◌, ◌<◌}
use native.Mathlib.Omega.{arith}
use borrow.Author.Tests.{eq-eqb, ne_eqb}
use lib.Count.{count_trailing_zeros}
use lib.ListN.{length, get_or}
use Rattle.rules.specs.Runs.{words_for}
use Rattle.rules.specs.List.{Form}
use Rattle.rules.specs.ReadList.{list_u, decode}
use Rattle.rules.specs.Seek.{place_of, upper_words, cursor_bit}
use Rattle.shape.specs.declared.Shape.{Shape}
use Rattle.seeklaws.specs.Cursors.{first_at}
use Rattle.seeklaws.proofs.FirstLaws.{first_at_unique, first_at_none}
use Rattle.seeklaws.proofs.SeekLaws.{cursor_at_spent, cursor_at_on}
use Rattle.walklaws.specs.declared.Ones.{Ones}
use Rattle.walklaws.specs.declared.Landing.{Landing}
use Rattle.walklaws.specs.Cursors.{spent_mark, mark_of}
use Rattle.walklaws.specs.Walks.{Before, last_word, landing_word, Walking, Landed}
use Rattle.walklaws.proofs.OpenLaws.{Stored, placed_at}
use Rattle.walklaws.proofs.WalkLaws.{walking_few, one_lt, one_there, one_ahead}

pub last_on : (f : Form) (U : ℕ) (xs : List ℕ) (i : ℕ) → i < length xs → last_word f U xs i ≡ place_of f U xs i / 64
unfolding last_word
last_on f U xs i h = rw (ne_eqb i (length xs) (λ e. omega arith))

pub last_none : (f : Form) (U : ℕ) (xs : List ℕ) (i : ℕ) → i ≡ length xs → last_word f U xs i ≡ upper_words f U xs - 1
unfolding last_word
last_none f U xs i e = rw (eq-eqb i (length xs) e)

module _ (f : Form) (s : List ℕ) (g : Shape) (t : Stored f s g) (b : ℕ) (x : Ones) (a : Walking s g x)
    (passed : Before s b x.rank) (r : Landing) where
  abbrev xs : List ℕ
  xs = decode s

  pub landed_on : 0 < x.left → b ≤ get_or (decode s) x.rank 0 → r.mark ≡ get_or (decode s) x.rank 0 + 1
      → r.bit ≡ 64 * x.k + count_trailing_zeros 64 x.left → Landed f s b r × (landing_word f s b ≡ x.k)
  unfolding mark_of cursor_bit
  landed_on some h m p =
      let one = one_there s g t.run x a some in
      let n : x.rank < length xs = rw t.long (one_ahead s g t.run x a some) in
      let first : first_at b xs ≡ x.rank = first_at_unique b xs x.rank (omega arith) passed (λ _. h) in
      let place = placed_at f s g t (64 * x.k + count_trailing_zeros 64 x.left) x.rank one in (
        record {
          mark_is = rw (first, cursor_at_on xs x.rank n) m;
          bit_is = rw (first, cursor_at_on xs x.rank n) (p ∙ sym place);
        },
        rw (first, last_on f (list_u s) xs x.rank n, place) (omega (arith, one_lt s g t.run x a some)),
      )

  pub landed_none : 0 < g.n → g.n ≤ x.rank → r.mark ≡ spent_mark → r.bit ≡ 0
      → Landed f s b r × (landing_word f s b + 1 ≡ words_for g.bits)
  unfolding mark_of cursor_bit upper_words
  landed_none some e m p =
      let n : x.rank ≡ length xs = omega (arith, walking_few s g t.run x a, t.long) in
      let first : first_at b xs ≡ length xs = first_at_none b xs (λ j h. passed j (omega arith)) in (
        record {
          mark_is = rw (first, cursor_at_spent xs (length xs) refl) m;
          bit_is = rw (first, cursor_at_spent xs (length xs) refl) p;
        },
        rw (first, last_none f (list_u s) xs (length xs) refl, t.bits_is some) (omega (arith, a.within)),
      )
