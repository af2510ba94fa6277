-- Where one page's positions lie among a word's [01 One word of the manual, and the index].
--
--   positions_before s r  how many positions the first r pages of the term s have
--   PageIn s r           where those on page number r of the term s lie
--   TermAt s sh ws p i t  list i has the positions of the accepted term t, which has page p, and span i is that page's
use Rattle.std.specs.Prelude.{◌≡◌, List, ℕ, ◌+◌, ◌≤◌, ◌<◌, length, get_or}
use Rattle.rules.specs.Verdict.{Accepted}
use Rattle.rules.specs.ReadList.{decode}
use Rattle.rules.specs.ReadTerm.{pages_of, counts_of, positions_of, read_word, term_refusal}
use Rattle.rules.specs.Index.{index_v}
use Rattle.rules.specs.Plain.{positions_on}
use Rattle.querylaws.specs.Lists.{part_at}
use Rattle.span.specs.Walks.{past}
use Rattle.turning.specs.Words.{base_in, end_in}
use Rattle.phrase.specs.Pages.{on_page}

abbrev pub positions_before : List ℕ → ℕ → ℕ
positions_before s r = past (decode (counts_of s)) r

pub record PageIn (s : List ℕ) (r : ℕ) : Type 0 where
  pub some : positions_before s r < positions_before s (r + 1)
  pub within : positions_before s (r + 1) ≤ length (decode (positions_of s))
  pub positions_are :
      positions_on (get_or (decode (pages_of s)) r 0) (read_word s)
      ≡ on_page (decode (positions_of s)) (past (decode (positions_of s)) (positions_before s r))
      (positions_before s (r + 1))

pub record TermAt (s sh ws : List ℕ) (p i : ℕ) (t : List ℕ) : Type 0 where
  pub accepts : term_refusal (index_v s) t ≡ Accepted
  pub rank : ℕ
  pub ranked : rank < length (decode (pages_of t))
  pub page_is : get_or (decode (pages_of t)) rank 0 ≡ p
  pub part_is : part_at s sh i ≡ positions_of t
  pub base_is : base_in ws i ≡ past (decode (positions_of t)) (positions_before t rank)
  pub end_is : end_in ws i ≡ positions_before t (rank + 1)
