-- What is read of a list block once it is accepted.
--
--   Open s g           s is an accepted block in two runs and g its shape
--   MapOpen s g        s is the block of a bitmap and g its shape
--   FormOpen f s g     s is the block of a list in the form f and g its shape
--   pointers_in g       how many pointers a block of shape g has, or numbers if it is a bitmap
--   pointer_of s g i    pointer number i of the upper run of s, whose shape is g; 0 for i = 0
--   PointerAt s g i r  r is that pointer, as stored and as a place of the run; i from 0 to pointers_in g
--   number_at s i       what s stores as pointer or number i; 0 for i = 0
--   zeros_per f         how many zeros a stored number counts for each i: 256 where it is a place of the upper run
--   jump_from zeros v i the place of the run that number i, stored as v, leads to
--   HighEnd s last zeros rank i     number i is the last, or the next has more than `rank` ones before it
--   Among s last zeros rank low high  the last number with at most `rank` ones before it is one from low to high
--   LastBefore s last zeros rank i  number i is the last with at most `rank` ones before it
--   Comparable s last zeros rank  s stores `last` numbers, each of which can be compared with a rank
--   Sought s last n zeros rank    that, and `rank` is below n
--   RunOf s at n       the run from byte `at` of s to its end has n ones
--   JumpsIn s at n last zeros  that is the run of s, and the `last` numbers that s stores lead to places of it
--   OneAt s at rank p  the one number `rank`, from 0, of the run at byte `at` stands at place p
--   OneAhead run p before rank  the one number `rank` lies at place p of the run or after it; `before` ones lie below p
--   ones_in run         how many ones the words of the run have
--   SomeOne run        they have one at least
--   LastOne run p      the last of them stands at place p
use Rattle.std.specs.Prelude.{◌≡◌, List, ℕ, zero, suc, ◌+◌, ◌-◌, ◌*◌, ◌/◌, ◌^◌, ◌≤◌, ◌<◌, length}
use Rattle.rules.specs.Verdict.{Accepted}
use Rattle.rules.specs.Limits.{limit}
use Rattle.rules.specs.Bytes.{be_at}
use Rattle.rules.specs.Runs.{run_bit}
use Rattle.rules.specs.Counts.{ones_below}
use Rattle.rules.specs.List.{upper, pointer, Form, two_runs, bitmap}
use Rattle.rules.specs.ReadList.{list_u, list_n, form_at, decode, list_refusal}
use Rattle.listlaws.specs.Sound.{After}
use Rattle.shape.specs.declared.Shape.{Shape}
use Rattle.shape.specs.Shape.{shape_of, map_shape}
use Rattle.maplaws.specs.Maps.{MapValid}

pub record Open (s : List ℕ) (g : Shape) : Type 0 where
  pub accepted : list_refusal s ≡ Accepted
  pub shape : g ≡ shape_of (list_u s) (list_n s)

pub record MapOpen (s : List ℕ) (g : Shape) : Type 0 where
  pub valid : MapValid s
  pub shape : g ≡ map_shape (list_u s) (list_n s)

abbrev pub FormOpen : Form → List ℕ → Shape → Type 0
FormOpen two_runs s g = (form_at s ≡ two_runs) × Open s g
FormOpen bitmap s g = MapOpen s g

abbrev pub pointers_in : Shape → ℕ
pointers_in g = (g.lower - 13) / 4

abbrev pub pointer_of : List ℕ → Shape → ℕ → ℕ
pointer_of s g i = pointer g.bits (upper g.w 0 (decode s)) i

pub record PointerAt (s : List ℕ) (g : Shape) (i r : ℕ) : Type 0 where
  pub stored : 0 < i → r ≡ be_at 4 s (9 + 4 * i)
  pub after : After (ones_below s g.upper) (256 * i) r
  pub inside : r ≤ g.bits
  pub defined : r ≡ pointer_of s g i

unfoldable pub number_at : List ℕ → ℕ → ℕ
number_at s zero = 0
number_at s (suc i) = be_at 4 s (9 + 4 * suc i)

abbrev pub zeros_per : Form → ℕ
zeros_per two_runs = 256
zeros_per bitmap = 0

-- a bitmap's number i tells the ones before bit 256 * i
unfoldable pub jump_from : ℕ → ℕ → ℕ → ℕ
jump_from zero v i = 256 * i
jump_from (suc _) v i = v

pub record HighEnd (s : List ℕ) (last zeros rank i : ℕ) : Type 0 where
  pub within : i ≤ last
  pub beyond : i < last → zeros * (i + 1) + rank < number_at s (i + 1)

pub record Among (s : List ℕ) (last zeros rank low high : ℕ) : Type 0 where
  pub order : low ≤ high
  pub before : number_at s low ≤ zeros * low + rank
  pub ends : HighEnd s last zeros rank high

pub record LastBefore (s : List ℕ) (last zeros rank i : ℕ) : Type 0 where
  pub before : number_at s i ≤ zeros * i + rank
  pub ends : HighEnd s last zeros rank i

pub record Comparable (s : List ℕ) (last zeros rank : ℕ) : Type 0 where
  pub stored : 13 + 4 * last ≤ length s
  pub few : last ≤ 2 ^ 16
  pub zeros_few : zeros ≤ 256
  pub small : rank ≤ limit

pub record Sought (s : List ℕ) (last n zeros rank : ℕ) : Type 0 where
  pub compares : Comparable s last zeros rank
  pub below : rank < n

pub record RunOf (s : List ℕ) (at n : ℕ) : Type 0 where
  pub inside : at ≤ length s
  pub short : length s - at < 2 ^ 32
  pub total : ones_below s at (64 * ((length s - at) / 8)) ≡ n

pub record JumpsIn (s : List ℕ) (at n last zeros : ℕ) : Type 0 where
  pub run : RunOf s at n
  pub zeros_before : (i : ℕ) → i ≤ last → zeros * i ≤ number_at s i
  pub ones_before : (i : ℕ) → i ≤ last → ones_below s at (jump_from zeros (number_at s i) i) ≡ number_at s i - zeros * i

pub record OneAt (s : List ℕ) (at rank p : ℕ) : Type 0 where
  pub set : run_bit s at p ≡ 1
  pub below : ones_below s at p ≡ rank

-- the run starts at the first byte, and is short enough that its places fit
pub record OneAhead (run : List ℕ) (p before rank : ℕ) : Type 0 where
  pub passed : before ≡ ones_below run 0 p
  pub ahead : before ≤ rank
  pub some : rank < ones_below run 0 (64 * (length run / 8))
  pub short : length run < 2 ^ 32

abbrev pub ones_in : List ℕ → ℕ
ones_in run = ones_below run 0 (64 * (length run / 8))

pub record SomeOne (run : List ℕ) : Type 0 where
  pub some : 0 < ones_in run
  pub short : length run < 2 ^ 32

pub record LastOne (run : List ℕ) (p : ℕ) : Type 0 where
  pub one : OneAt run 0 (ones_in run - 1) p
  pub inside : p < 64 * (length run / 8)
