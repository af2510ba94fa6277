-- The lists of a question's words in the slots of their words.
--
--   Slot s sh i b       slot i of the numbers sh places the accepted block b in the card s
--   Filled s ts k n sh  so does each of the first n slots, with list number k of its word of ts
use Rattle.std.specs.Prelude.{◌≡◌, List, ℕ, ◌<◌, length, get_or}
use Rattle.querylaws.specs.Lists.{part_at}
use Rattle.turning.specs.Words.{BlockAt}
use Rattle.wordlists.specs.Lying.{list_of}

pub record Slot (s sh : List ℕ) (i : ℕ) (b : List ℕ) : Type 0 where
  pub block : BlockAt s sh i
  pub part_is : part_at s sh i ≡ b

pub record Filled (s ts : List ℕ) (k n : ℕ) (sh : List ℕ) : Type 0 where
  pub room : length sh ≡ 64
  pub slot : (i : ℕ) → i < n → Slot s sh i (list_of s (get_or ts i 0) k)
