-- The words of a phrase: their lists, where reading of them stands, and their spans on one page.
--
--   elements_at s sh i   the elements of list number i, which the numbers sh place in the card s
--   walk_at ws j         where reading of a list stands: three numbers of ws from number j on
--   with_walk ws j w     ws with those numbers as w has them
--   count_walk ws i      where reading of word i's counts stands, by the first of its eight numbers
--   position_walk ws i   where reading of its positions stands, by the next three
--   ranks_of cs r        the numbers of the positions on page number r, where cs are the counts' elements
--   base_in ws i         the base of word i on the page, number 6 of its eight; position = element - base
--   end_in ws i          its end there, number 7: the elements up to the page's last
--   BlockAt s sh i      list i is an accepted block in two runs, and its numbers are its own
--   Kept ws from to after  the numbers of ws before `from` and from `to` on are as they were
--   Readable s sh ws i j  list i is a block, and reading of it stands where the numbers of ws from j on say
--   Walked s sh ws i j n after  n elements of list i are passed, and the other numbers are as they were
--   TurnedOn s sh ws i x after  word i stands before the positions of the ranks x, and has their span
use Rattle.std.specs.Prelude.{◌≡◌, List, ℕ, ◌+◌, ◌*◌, ◌≤◌, ◌<◌, length, get_or, set}
use Rattle.rules.specs.ReadList.{decode}
use Rattle.readlaws.specs.Open.{Open}
use Rattle.querylaws.specs.Lists.{number_of, part_at, shape_in}
use Rattle.span.specs.declared.Walk.{Walk}
use Rattle.span.specs.Walks.{past, WalkOn}
use Rattle.turning.specs.declared.Ranks.{Ranks}

-- ---- numbers

abbrev pub elements_at : List ℕ → List ℕ → ℕ → List ℕ
elements_at s sh i = decode (part_at s sh i)

abbrev pub walk_at : List ℕ → ℕ → Walk
walk_at ws j = record { next = get_or ws j 0; past = get_or ws (j + 1) 0; place = get_or ws (j + 2) 0 }

abbrev pub with_walk : List ℕ → ℕ → Walk → List ℕ
with_walk ws j w = set (set (set ws j w.next) (j + 1) w.past) (j + 2) w.place

abbrev pub count_walk : List ℕ → ℕ → Walk
count_walk ws i = walk_at ws (8 * i)

abbrev pub position_walk : List ℕ → ℕ → Walk
position_walk ws i = walk_at ws (8 * i + 3)

abbrev pub ranks_of : List ℕ → ℕ → Ranks
ranks_of cs r = record { from = past cs r; to = past cs (r + 1) }

abbrev pub base_in : List ℕ → ℕ → ℕ
base_in ws i = get_or ws (8 * i + 6) 0

abbrev pub end_in : List ℕ → ℕ → ℕ
end_in ws i = get_or ws (8 * i + 7) 0

-- ---- one word

pub record BlockAt (s sh : List ℕ) (i : ℕ) : Type 0 where
  pub room : length sh ≡ 64
  pub few : i < 8
  pub starts : number_of sh i 0 ≤ number_of sh i 1
  pub ends : number_of sh i 1 ≤ length s
  pub opened : Open (part_at s sh i) (shape_in sh i)

pub record Kept (ws : List ℕ) (from to : ℕ) (after : List ℕ) : Type 0 where
  pub before : (m : ℕ) → m < from → get_or after m 0 ≡ get_or ws m 0
  pub behind : (m : ℕ) → to ≤ m → get_or after m 0 ≡ get_or ws m 0

pub record Readable (s sh ws : List ℕ) (i j : ℕ) : Type 0 where
  pub block : BlockAt s sh i
  pub room : length ws ≡ 64
  pub on : WalkOn (part_at s sh i) (shape_in sh i) (walk_at ws j)

pub record Walked (s sh ws : List ℕ) (i j n : ℕ) (after : List ℕ) : Type 0 where
  pub readable : Readable s sh after i j
  pub at : (walk_at after j).next ≡ n
  pub kept : Kept ws j (j + 3) after

pub record TurnedOn (s sh ws : List ℕ) (i : ℕ) (x : Ranks) (after : List ℕ) : Type 0 where
  pub readable : Readable s sh after i (8 * i + 3)
  pub at : (position_walk after i).next ≡ x.from
  pub base_is : base_in after i ≡ past (elements_at s sh i) x.from
  pub end_is : end_in after i ≡ x.to
  pub kept : Kept ws (8 * i + 3) (8 * i + 8) after
