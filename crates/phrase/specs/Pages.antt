-- A word's positions on one page, and the first from a bound on sought among them.
--
--   on_page es base to   a page's positions: the elements of es from `base` on and below number `to`, each less base
--   page_at s sh ws i    the positions of word i on the page
--   Ready s sh ws i b   no element of word i at least b is passed but for the last, and none behind the page
--   PassedOn s sh ws i b r after  what passing word i's elements up to b leaves; r: whether the page has one from b on
--   Sought s sh ws i b r after  what seeking a position of word i leaves: r is the page's first from b on, if there is one
use Rattle.std.specs.Prelude.{Bool, true, false, ◌≡◌, List, ℕ, ◌+◌, ◌*◌, ◌≤◌, ◌<◌, ltb, length, Option, MatchOption}
use Rattle.std.proofs.Math.Seq.{slice}
use Rattle.rules.specs.Limits.{limit}
use Rattle.rules.specs.ReadTerm.{less}
use Rattle.rules.specs.Plain.{member}
use Rattle.seeklaws.specs.Cursors.{first_at}
use Rattle.querylaws.specs.Lists.{number_of, part_at, shape_in}
use Rattle.upto.specs.Bounds.{Passing}
use Rattle.turning.specs.Words.{elements_at, position_walk, base_in, end_in, Kept}

unfoldable pub on_page : List ℕ → ℕ → ℕ → List ℕ
on_page es base to = less base (slice (first_at base es) to es)

unfoldable pub page_at : List ℕ → List ℕ → List ℕ → ℕ → List ℕ
page_at s sh ws i = on_page (elements_at s sh i) (base_in ws i) (end_in ws i)

pub record Ready (s sh ws : List ℕ) (i b : ℕ) : Type 0 where
  pub room : length ws ≡ 64
  pub short : end_in ws i ≤ number_of sh i 7
  pub passing : Passing (part_at s sh i) (shape_in sh i) (end_in ws i) b (position_walk ws i)

pub record PassedOn (s sh ws : List ℕ) (i b : ℕ) (r : Bool) (after : List ℕ) : Type 0 where
  pub ready : Ready s sh after i b
  pub found : r ≡ ltb b (position_walk after i).past
  pub all : (position_walk after i).past ≤ b → (position_walk after i).next ≡ end_in after i
  pub kept : Kept ws (8 * i + 3) (8 * i + 6) after

pub record Sought (s sh ws : List ℕ) (i b : ℕ) (r : Option ℕ) (after : List ℕ) : Type 0 where
  pub ready : Ready s sh after i (base_in after i + b)
  pub kept : Kept ws (8 * i + 3) (8 * i + 6) after
  pub first : MatchOption r ((d : ℕ) → b ≤ d → member d (page_at s sh after i) ≡ false)
      (λ n. (b ≤ n) × (n < limit) × (member n (page_at s sh after i) ≡ true)
      × ((d : ℕ) → b ≤ d → d < n → member d (page_at s sh after i) ≡ false))
