-- Answers of one list: a law for each way through the tests.
use mathlib.Core.Path.{◌≡◌, refl}
use mathlib.Core.List.{List, [], ◌∷◌}
use Prim.Native.Nat.{ℕ, ◌≤◌, ◌<◌}
use native.Mathlib.Omega.{arith}
use borrow.Author.Tests.{le-ltb, lt-ltb}
use lib.ListN.{length, get_or}
use Rattle.rules.specs.Verdict.{Accepted}
use Rattle.rules.specs.List.{Form}
use Rattle.rules.specs.ReadList.{form_at, decode}
use Rattle.rules.specs.ReadTerm.{pages_of, read_word}
use Rattle.rules.specs.Index.{index_v, index_t, term_part, word_of, index_refusal}
use Rattle.rules.specs.Questions.{numbered, pages_in, by_rank}
use Rattle.listlaws.proofs.RefusalLaws.{part_form}
use Rattle.maplaws.specs.Maps.{FormValid}
use Rattle.maplaws.proofs.Theorems.{part_valid}
use Rattle.shape.specs.declared.Shape.{Shape}
use Rattle.termlaws.proofs.Theorems.{accepted_lists}
use Rattle.cardlaws.proofs.Theorems.{accepted_term}
use Rattle.seeklaws.proofs.FirstLaws.{rising_below}
use Rattle.readlaws.specs.Open.{FormOpen}
use Rattle.readlaws.proofs.FormLaws.{form_reads, form_length, form_rising}

-- ---- a word's pages

pub pages_are : (s : List ℕ) (t : ℕ) → pages_in s t ≡ decode (pages_of (term_part t s))
unfolding pages_in word_of read_word
pages_are s t = refl

pub pages_valid : (s : List ℕ) (t : ℕ) → index_refusal s ≡ Accepted → t < index_t s
    → FormValid (form_at (pages_of (term_part t s))) (pages_of (term_part t s))
pages_valid s t a h =
    let p : List ℕ = pages_of (term_part t s) in
    let e = (accepted_lists (index_v s) (term_part t s) (accepted_term s a t h).accepts).pages in
    rw (part_form (index_v s) p e) (part_valid (index_v s) p e)

-- ---- by rank

-- an element is below 2 ^ 24
pub element_below : (f : Form) (s : List ℕ) (g : Shape) → FormOpen f s g → (i : ℕ) → i < g.n
    → get_or (decode s) i 0 < 16777216
element_below f s g o i h = omega (
  arith,
  rising_below 0 g.u (decode s) (form_rising f s g o) i (omega (arith, form_length f s g o)),
  (form_reads f s g o).within,
)

module _ (xs : List ℕ) (r : ℕ) where
  pub rank_none : length xs ≤ r → by_rank xs r ≡ 0 ∷ []
  unfolding by_rank numbered
  rank_none h = rw (le-ltb r (length xs) h)

  pub rank_some : r < length xs → by_rank xs r ≡ 1 ∷ (get_or xs r 0 ∷ [])
  unfolding by_rank numbered
  rank_some h = rw (lt-ltb r (length xs) h)
