-- What each step of a seek asks and promises, on the block s of shape g, for a bound b. The run of a block is its upper
-- run, or its bitmap.
--
--   RunIn s g         the run of s: whole words, with n ones among its bits and none behind them
--   Rest x y i        y is the word x without its first i ones
--   Before s b i      every element before number i is below b
--   last_word f U xs i the word of element number i in the run; the last word where there is none
--   landing_word f s b that word for the first element at least b
--   Paid k a m b      on the way from word k to word m, the looks a became b: one look for each word that was passed
--   Started s g b x   a place and the zeros before it; elements before it, and the cursor's own there, are below b
--   Walking s g x     what is left of word k, and the ones of the run before it
--   Skipping s g h x  what is left of word k from a place on, and the ones before it; fewer than h zeros are before it
--   ZeroIn h x        the run's zero number h, counted from 1, is in what is left of the word
--   AtZero h x r      what is left of the word from that zero on
--   Skipped s g h r   a walk that stands just after zero number h
--   Passed s g b r    a walk that has passed no element at least b
--   AtOne s g x r     a walk of the same rank that has a one left in its word
--   Landed f s b r    the mark and bit of the first element at least b; those of a spent cursor where there is none
use Rattle.std.specs.Prelude.{cond, ◌≡◌, List, ℕ, ◌+◌, ◌-◌, ◌*◌, ◌/◌, ◌%◌, ◌^◌, ◌≤◌, ◌<◌, eqb, length, get_or}
use Rattle.std.specs.Int.Count.{ones}
use Rattle.rules.specs.Runs.{bit, run_word, run_bit, words_for}
use Rattle.rules.specs.Counts.{ones_below}
use Rattle.rules.specs.List.{Form}
use Rattle.rules.specs.ReadList.{list_u, decode}
use Rattle.rules.specs.Seek.{place_of, upper_words, cursor_bit}
use Rattle.fields.specs.Words.{place_of_one}
use Rattle.listlaws.specs.Sound.{After}
use Rattle.shape.specs.declared.Shape.{Shape}
use Rattle.seeklaws.specs.Cursors.{first_at, cursor_at}
use Rattle.walklaws.specs.declared.StartPlace.{StartPlace}
use Rattle.walklaws.specs.declared.Ones.{Ones}
use Rattle.walklaws.specs.declared.Landing.{Landing}
use Rattle.walklaws.specs.Cursors.{mark_of}

pub record RunIn (s : List ℕ) (g : Shape) : Type 0 where
  pub whole : g.upper + 8 * words_for g.bits ≤ length s
  pub short : g.bits ≤ 2 ^ 25
  pub counted : ones_below s g.upper g.bits ≡ g.n
  pub spare : (p : ℕ) → g.bits ≤ p → run_bit s g.upper p ≡ 0
  pub word_lt : (k : ℕ) → run_word s g.upper k < 2 ^ 64

pub record Rest (x y i : ℕ) : Type 0 where
  pub whole : x < 2 ^ 64
  pub fits : y < 2 ^ 64
  pub within : i ≤ ones x
  pub places : (j : ℕ) → place_of_one 64 y j ≡ place_of_one 64 x (i + j)

abbrev pub Before : List ℕ → ℕ → ℕ → Type 0
Before s b i = (j : ℕ) → j < i → get_or (decode s) j 0 < b

unfoldable pub last_word : Form → ℕ → List ℕ → ℕ → ℕ
last_word f U xs i = cond (eqb i (length xs)) (upper_words f U xs - 1) (place_of f U xs i / 64)

abbrev pub landing_word : Form → List ℕ → ℕ → ℕ
landing_word f s b = last_word f (list_u s) (decode s) (first_at b (decode s))

abbrev pub Paid : ℕ → ℕ → ℕ → ℕ → Type 0
Paid k a m b = b + k ≡ a + m

pub record Started (s : List ℕ) (g : Shape) (b : ℕ) (x : StartPlace) : Type 0 where
  pub within : x.bit ≤ g.bits
  pub counted : ones_below s g.upper x.bit + x.zeros ≡ x.bit
  pub own_set : x.own ≤ run_bit s g.upper x.bit
  pub passed : Before s b (ones_below s g.upper x.bit + x.own)

pub record Walking (s : List ℕ) (g : Shape) (x : Ones) : Type 0 where
  pub within : x.k < words_for g.bits
  pub gone : ℕ
  pub left_are : Rest (run_word s g.upper x.k) x.left gone
  pub counted : x.rank ≡ ones_below s g.upper (64 * x.k) + gone

pub record Skipping (s : List ℕ) (g : Shape) (h : ℕ) (x : Ones) : Type 0 where
  pub within : x.k < words_for g.bits
  pub place : ℕ
  pub place_le : place ≤ 64
  pub left_is : x.left ≡ run_word s g.upper x.k / 2 ^ place * 2 ^ place
  pub counted : x.rank ≡ ones_below s g.upper (64 * x.k + place)
  pub short : 64 * x.k + place < h + x.rank

pub record ZeroIn (h : ℕ) (x : Ones) : Type 0 where
  pub few : x.k < 2 ^ 32
  pub small : x.rank < 2 ^ 32
  pub behind : 64 * x.k < h + x.rank
  pub reached : h + (x.rank + ones x.left) ≤ 64 * x.k + 64

pub record AtZero (h : ℕ) (x r : Ones) : Type 0 where
  pub place : ℕ
  pub inside : place < 64
  pub zero : bit x.left place ≡ 0
  pub k_kept : r.k ≡ x.k
  pub left_is : r.left ≡ x.left / 2 ^ place * 2 ^ place
  pub rank_is : r.rank ≡ x.rank + ones (x.left % 2 ^ place)
  pub number : h + r.rank ≡ 64 * x.k + place + 1

pub record Skipped (s : List ℕ) (g : Shape) (h : ℕ) (r : Ones) : Type 0 where
  pub at : Walking s g r
  pub passed : After (ones_below s g.upper) h (r.rank + h)

pub record Passed (s : List ℕ) (g : Shape) (b : ℕ) (r : Ones) : Type 0 where
  pub at : Walking s g r
  pub passed : Before s b r.rank

pub record AtOne (s : List ℕ) (g : Shape) (x r : Ones) : Type 0 where
  pub at : Walking s g r
  pub some : 0 < r.left
  pub rank_kept : r.rank ≡ x.rank

pub record Landed (f : Form) (s : List ℕ) (b : ℕ) (r : Landing) : Type 0 where
  pub mark_is : r.mark ≡ mark_of (decode s) (cursor_at (decode s) (first_at b (decode s)))
  pub bit_is : r.bit ≡ cursor_bit f (list_u s) (decode s) (cursor_at (decode s) (first_at b (decode s)))
