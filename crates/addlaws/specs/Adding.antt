-- Elements that are being laid into the runs of a block in place, or into its bitmap, which is an upper run alone with
-- each element as its own place [02 f]: the ones below a word are set, the rest is in hand.
--
--   used bits              the words that bits of one word take: none for 0, else 1
--   Set v k r d e          e is d with the ones of v set in the words below number k; r is the rest of v
--   LowOne w a x r d e     the w low bits of x are laid above the lower run a, which gives r
--   LowsLaid w i v a d e   of a lower run the elements below number i, which give v, are laid or in hand
--   HighsLaid q v a d e    of an upper run the ones of v, all below place q, are set or in hand
--   HighOne a p r d e      whatever ones are set in d that one at place p may follow, those and it are set in e
--   reach w i b xs j       the place behind that of element j - 1 of those that xs gives above b, the first number i;
--                          0 for none
--   Asked g i b xs d       those elements may be laid from number i on into a block of shape g at the front of d
--   Slots lower upper w i b xs d g  the same, with its runs at these bytes and low parts of w bits
--   HasSlots lower upper w i b xs d  a block of some shape is asked so
--   AllAdded lower upper w i b xs d e  e is d with those elements laid, whatever the shape
--   BothLaid g i b xs j k a h d e  e is d with the low parts of the first j of those elements and the ones of the
--                          first k laid in the two runs of that block, but for what is in hand
--   behind xs j            the number behind element j - 1 of xs; 0 for none
--   MapAsked U at xs d     the elements xs may be laid into a bitmap of U bits at byte `at` of d
--   HasMap at xs d         into a bitmap of so many bits
--   MapLaid at xs j h d e  e is d with the ones of the first j of them set in that bitmap, but for what is in hand
--   MapAdded at xs d e     e is d with them laid, whatever the number of bits
--   SlotAs o lower upper w i x d g  a block of shape g and form o at the front of d, with its runs at these bytes and
--                          low parts of w bits, has a place for x as element number i; Slot is that of two runs
--   HasSlot lower upper w i x d  a block of some shape in two runs has
--   HasPlace lower upper w i x d  a block of some shape in some form has
--   OneAdded lower upper w i x d e  e is d with x laid as element number i, whatever the shape in two runs
--   PageAdded lower upper w i x d e  the same, whatever the shape and the form
--   Paged g i xs d         the elements xs may be laid from number i on into a block of shape g, in some form
--   PagesAdded g i xs d e  e is d with them laid, whatever the form
use Rattle.std.specs.Prelude.{true, ◌≡◌, List, [], ◌∷◌, ◌++◌, ℕ, zero, suc, ◌+◌, ◌-◌, ◌*◌, ◌/◌, ◌%◌, ◌^◌, ◌≤◌, ◌<◌, length, get_or, take, drop}
use Rattle.rules.specs.Bytes.{Bytes}
use Rattle.rules.specs.InPlace.{from, with_ones, added, map_added, form_added}
use Rattle.rules.specs.List.{rising, lower, upper, map_of, map_at, map_size, Form, two_runs}
use Rattle.rules.specs.Term.{raised}
use Rattle.shape.specs.declared.Shape.{Shape}
use Rattle.filllaws.specs.declared.Lows.{Lows}
use Rattle.shape.specs.Shape.{form_shape}
use Rattle.filllaws.specs.Filling.{FittingAs, Fitting}
use Rattle.addlaws.specs.declared.Highs.{Highs}

unfoldable pub used : ℕ → ℕ
used zero = 0
used (suc _) = 1

pub record Set (v k r : ℕ) (d e : List ℕ) : Type 0 where
  pub is : e ≡ with_ones k v d
  pub rest : r ≡ v / 2 ^ (64 * k)
  pub within : 8 * k ≤ length d

pub record LowOne (w : ℕ) (a : Lows) (x : ℕ) (r : Lows) (d e : List ℕ) : Type 0 where
  pub is : e ≡ from (8 * a.words) (with_ones ((a.have + w) / 64) (a.acc + x % 2 ^ w * 2 ^ a.have)) d
  pub rest : r.acc ≡ (a.acc + x % 2 ^ w * 2 ^ a.have) / 2 ^ (64 * ((a.have + w) / 64))
  pub have : r.have ≡ (a.have + w) % 64
  pub words : r.words ≡ a.words + (a.have + w) / 64

pub record LowsLaid (w i v : ℕ) (a : Lows) (d e : List ℕ) : Type 0 where
  pub set : Set v a.words a.acc d e
  pub place : 64 * a.words + a.have ≡ i * w
  pub short : a.have < 64
  pub fits : v < 2 ^ (i * w)

pub record HighsLaid (q v : ℕ) (a : Highs) (d e : List ℕ) : Type 0 where
  pub set : Set v a.word a.acc d e
  pub place : 64 * a.word ≤ q
  pub one : a.acc < 2 ^ 64
  pub top : v < 2 ^ q
  pub room : 8 * (a.word + used a.acc) ≤ length d

abbrev pub HighOne : Highs → ℕ → Highs → List ℕ → List ℕ → Type 0
HighOne a p r d e =
    (q v : ℕ) (c : List ℕ) → Bytes c → HighsLaid q v a c d → q ≤ p → 8 * (p / 64) + 8 ≤ length c
    → HighsLaid (p + 1) (v + 2 ^ p) r c e

unfoldable pub reach : ℕ → ℕ → ℕ → List ℕ → ℕ → ℕ
reach w i b xs zero = 0
reach w i b xs (suc j) = (b + get_or xs j 0) / 2 ^ w + (i + suc j)

pub record Asked (g : Shape) (i b : ℕ) (xs d : List ℕ) : Type 0 where
  pub fitting : Fitting g d
  pub few : i + length xs ≤ g.n
  pub rises : rising 0 g.u (raised b xs) ≡ true

pub record Slots (lower upper w i b : ℕ) (xs d : List ℕ) (g : Shape) : Type 0 where
  pub asked : Asked g i b xs d
  pub lower_is : g.lower ≡ lower
  pub upper_is : g.upper ≡ upper
  pub width_is : g.w ≡ w

pub record HasSlots (lower upper w i b : ℕ) (xs d : List ℕ) : Type 0 where
  pub shape : Shape
  pub slots : Slots lower upper w i b xs d shape

abbrev pub AllAdded : ℕ → ℕ → ℕ → ℕ → ℕ → List ℕ → List ℕ → List ℕ → Type 0
AllAdded lower upper w i b xs d e =
    (g : Shape) → Slots lower upper w i b xs d g → e ≡ added g.u g.n i (raised b xs) d

pub record BothLaid (g : Shape) (i b : ℕ) (xs : List ℕ) (j k : ℕ) (a : Lows) (h : Highs) (d e : List ℕ) : Type 0 where
  pub low : List ℕ
  pub high : List ℕ
  pub is : e ≡ take g.lower d ++ (low ++ high)
  pub lows : LowsLaid g.w (i + j) (lower g.w i (raised b (take j xs))) a
      (take (g.upper - g.lower) (drop g.lower d)) low
  pub highs : HighsLaid (reach g.w i b xs k) (upper g.w i (raised b (take k xs))) h (drop g.upper d) high
  pub bytes : Bytes d

unfoldable pub behind : List ℕ → ℕ → ℕ
behind xs zero = 0
behind xs (suc j) = get_or xs j 0 + 1

pub record MapAsked (U at : ℕ) (xs d : List ℕ) : Type 0 where
  pub at_is : at ≡ map_at U
  pub rises : rising 0 U xs ≡ true
  pub room : map_size U ≤ length d

pub record HasMap (at : ℕ) (xs d : List ℕ) : Type 0 where
  pub u : ℕ
  pub asked : MapAsked u at xs d

pub record MapLaid (at : ℕ) (xs : List ℕ) (j : ℕ) (h : Highs) (d e : List ℕ) : Type 0 where
  pub high : List ℕ
  pub is : e ≡ take at d ++ high
  pub highs : HighsLaid (behind xs j) (map_of (take j xs)) h (drop at d) high
  pub bytes : Bytes d

abbrev pub MapAdded : ℕ → List ℕ → List ℕ → List ℕ → Type 0
MapAdded at xs d e = (U : ℕ) → MapAsked U at xs d → e ≡ map_added U xs d

pub record SlotAs (o : Form) (lower upper w i x : ℕ) (d : List ℕ) (g : Shape) : Type 0 where
  pub fitting : FittingAs o g d
  pub lower_is : g.lower ≡ lower
  pub upper_is : g.upper ≡ upper
  pub width_is : g.w ≡ w
  pub number : i < g.n
  pub below : x < g.u

abbrev pub Slot : ℕ → ℕ → ℕ → ℕ → ℕ → List ℕ → Shape → Type 0
Slot lower upper w i x d g = SlotAs two_runs lower upper w i x d g

pub record HasSlot (lower upper w i x : ℕ) (d : List ℕ) : Type 0 where
  pub shape : Shape
  pub slot : Slot lower upper w i x d shape

pub record HasPlace (lower upper w i x : ℕ) (d : List ℕ) : Type 0 where
  pub form : Form
  pub shape : Shape
  pub slot : SlotAs form lower upper w i x d shape

abbrev pub OneAdded : ℕ → ℕ → ℕ → ℕ → ℕ → List ℕ → List ℕ → Type 0
OneAdded lower upper w i x d e = (g : Shape) → Slot lower upper w i x d g → e ≡ added g.u g.n i (x ∷ []) d

abbrev pub PageAdded : ℕ → ℕ → ℕ → ℕ → ℕ → List ℕ → List ℕ → Type 0
PageAdded lower upper w i x d e =
    (o : Form) (g : Shape) → SlotAs o lower upper w i x d g → e ≡ form_added o g.u g.n i (x ∷ []) d

pub record Paged (g : Shape) (i : ℕ) (xs d : List ℕ) : Type 0 where
  pub form : Form
  pub fitting : FittingAs form g d
  pub few : i + length xs ≤ g.n
  pub rises : rising 0 g.u xs ≡ true

abbrev pub PagesAdded : Shape → ℕ → List ℕ → List ℕ → List ℕ → Type 0
PagesAdded g i xs d e = (o : Form) → g ≡ form_shape o g.u g.n → e ≡ form_added o g.u g.n i xs d
