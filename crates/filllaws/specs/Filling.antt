-- A list block that is being written: elements xs are laid, what is not in the room yet is in hand.
--
--   Stored k at v a b d e  e is d but for the numbers v a up to v (b - 1) of k bytes each, number q at byte at + k * q
--   Flushed at k m v r d e  the m low words of v stand in e as words k and on of the run at byte at; r is the rest of v
--   Lower w at a x r d e   the w low bits of x are laid above the lower run a, which gives r
--   Held s at v k r        the k low words of v stand in the run at byte at of s; r is the rest of v
--   high w xs              the high part of the last of xs; 0 for the empty list
--   Lowered, Raised        the lower run v of i elements, the upper run v of i elements up to high part h
--   FittingAs o g s        g is the shape of a list in the form o, and s has room for its block
--   VersionOf g r          r is the version of a list of shape g, in whatever form that is
--   Header g d e           e is d with the header of a block of shape g, in whatever form that is
--   FramedAs o g before room  its header stands in the room, and behind the block is what was there before
--   Fitting, Framed        those of a list in two runs
--   Partly g xs f before room  of a block of shape g the elements xs are laid
--   Next g xs x            x may follow xs
--   Ready g f x room       some elements are laid, and x may follow
--   OneMore g f x r d e    whatever elements are laid in d that x may follow, those and x are laid in e
--   Follows g xs ys        the elements ys may follow xs
--   Open g f ys room       some elements are laid, and ys may follow
--   Laid g f ys k r d e    whatever elements are laid in d that ys may follow, those and the first k of ys are laid in e
--   Full g f room          all elements are laid
--   Closed g f d e         whatever elements are all laid in d, e is their block and behind it what was there
use Rattle.std.specs.Prelude.{true, ◌≡◌, ◌⊎◌, List, [], ◌∷◌, ◌++◌, ℕ, ◌+◌, ◌-◌, ◌*◌, ◌/◌, ◌%◌, ◌^◌, ◌≤◌, ◌<◌, length, get_or, take}
use Rattle.std.specs.Int.Count.{ones}
use Rattle.std.proofs.lemmas.List.Edits.{sets}
use Rattle.rules.specs.Limits.{limit}
use Rattle.rules.specs.Bytes.{be, be_at}
use Rattle.rules.specs.List.{rising, lower, upper, block, Form, two_runs, form_version}
use Rattle.rules.specs.Write.{laid}
use Rattle.shape.specs.declared.Shape.{Shape}
use Rattle.shape.specs.Shape.{form_shape}
use Rattle.listlaws.specs.Sound.{ones_to, After, least}
use Rattle.filllaws.specs.declared.Lows.{Lows}
use Rattle.filllaws.specs.declared.Ups.{Ups}
use Rattle.filllaws.specs.declared.Filling.{Filling}

pub record Stored (k at : ℕ) (v : ℕ → ℕ) (a b : ℕ) (d e : List ℕ) : Type 0 where
  pub long : length e ≡ length d
  pub others : (i : ℕ) → (i < at + k * a) ⊎ (at + k * b ≤ i) → get_or e i 0 ≡ get_or d i 0
  pub numbers : (q : ℕ) → a ≤ q → q < b → be_at k e (at + k * q) ≡ v q

pub record Flushed (at k m v r : ℕ) (d e : List ℕ) : Type 0 where
  pub stored : Stored 8 at (λ j. v / 2 ^ (64 * (j - k)) % 2 ^ 64) k (k + m) d e
  pub rest : r ≡ v / 2 ^ (64 * m)

pub record Lower (w at : ℕ) (a : Lows) (x : ℕ) (r : Lows) (d e : List ℕ) : Type 0 where
  pub flushed : Flushed at a.words ((a.have + w) / 64) (a.acc + x % 2 ^ w * 2 ^ a.have) r.acc d e
  pub have : r.have ≡ (a.have + w) % 64
  pub words : r.words ≡ a.words + (a.have + w) / 64

pub record Held (s : List ℕ) (at v k r : ℕ) : Type 0 where
  pub written : (j : ℕ) → j < k → be_at 8 s (at + 8 * j) ≡ v / 2 ^ (64 * j) % 2 ^ 64
  pub rest : r ≡ v / 2 ^ (64 * k)

pub record Lowered (s : List ℕ) (at w i v : ℕ) (a : Lows) : Type 0 where
  pub held : Held s at v a.words a.acc
  pub place : 64 * a.words + a.have ≡ i * w
  pub short : a.have < 64
  pub fits : v < 2 ^ (i * w)

pub record Raised (s : List ℕ) (at h i v : ℕ) (b : Ups) : Type 0 where
  pub held : Held s at v b.words b.acc
  pub place : 64 * b.words ≤ h + i
  pub fits : v < 2 ^ (64 * (b.words + 1))
  pub top : v < 2 ^ (h + i)
  pub counted : ones v ≡ i
  pub next : b.next ≡ h / 256 + 1
  pub stop : (b.stop ≤ 64 * (b.words + 1)) × (b.stop ≤ 256 * b.next + i)
  pub pointed : (q : ℕ) → 0 < q → q < b.next → After (ones_to v) (256 * q) (be_at 4 s (9 + 4 * q))

pub record FittingAs (o : Form) (g : Shape) (s : List ℕ) : Type 0 where
  pub shape : g ≡ form_shape o g.u g.n
  pub below : g.n ≤ g.u
  pub within : g.u ≤ limit
  pub room : g.end ≤ length s

abbrev pub Fitting : Shape → List ℕ → Type 0
Fitting g s = FittingAs two_runs g s

abbrev pub VersionOf : Shape → ℕ → Type 0
VersionOf g r = (o : Form) → g ≡ form_shape o g.u g.n → r ≡ form_version o

abbrev pub Header : Shape → List ℕ → List ℕ → Type 0
Header g d e = (o : Form) → g ≡ form_shape o g.u g.n
    → e ≡ sets (sets (sets (sets d 0 (be 4 g.end)) 4 (form_version o ∷ [])) 5 (be 4 g.u)) 9 (be 4 g.n)

pub record FramedAs (o : Form) (g : Shape) (before room : List ℕ) : Type 0 where
  pub fitting : FittingAs o g before
  pub long : length room ≡ length before
  pub size_is : be_at 4 room 0 ≡ g.end
  pub version_is : get_or room 4 0 ≡ form_version o
  pub u_is : be_at 4 room 5 ≡ g.u
  pub n_is : be_at 4 room 9 ≡ g.n
  pub behind : (i : ℕ) → g.end ≤ i → get_or room i 0 ≡ get_or before i 0

abbrev pub Framed : Shape → List ℕ → List ℕ → Type 0
Framed g before room = FramedAs two_runs g before room

unfoldable pub high : ℕ → List ℕ → ℕ
high w xs = (least 0 xs - 1) / 2 ^ w

pub record Partly (g : Shape) (xs : List ℕ) (f : Filling) (before room : List ℕ) : Type 0 where
  pub framed : Framed g before room
  pub count : f.count ≡ length xs
  pub few : length xs ≤ g.n
  pub below : least 0 xs ≤ g.u
  pub lows : Lowered room g.lower g.w (length xs) (lower g.w 0 xs) f.lows
  pub ups : Raised room g.upper (high g.w xs) (length xs) (upper g.w 0 xs) f.ups

pub record Next (g : Shape) (xs : List ℕ) (x : ℕ) : Type 0 where
  pub few : length xs < g.n
  pub climbs : least 0 xs ≤ x
  pub below : x < g.u

pub record Ready (g : Shape) (f : Filling) (x : ℕ) (room : List ℕ) : Type 0 where
  pub xs : List ℕ
  pub before : List ℕ
  pub partly : Partly g xs f before room
  pub next : Next g xs x

abbrev pub OneMore : Shape → Filling → ℕ → Filling → List ℕ → List ℕ → Type 0
OneMore g f x r d e = (xs before : List ℕ) → Partly g xs f before d → Next g xs x → Partly g (xs ++ (x ∷ [])) r before e

pub record Follows (g : Shape) (xs ys : List ℕ) : Type 0 where
  pub few : length (xs ++ ys) ≤ g.n
  pub rises : rising 0 g.u (xs ++ ys) ≡ true

pub record Open (g : Shape) (f : Filling) (ys room : List ℕ) : Type 0 where
  pub xs : List ℕ
  pub before : List ℕ
  pub partly : Partly g xs f before room
  pub follows : Follows g xs ys

abbrev pub Laid : Shape → Filling → List ℕ → ℕ → Filling → List ℕ → List ℕ → Type 0
Laid g f ys k r d e =
    (xs before : List ℕ) → Partly g xs f before d → Follows g xs ys → Partly g (xs ++ take k ys) r before e

pub record Full (g : Shape) (f : Filling) (room : List ℕ) : Type 0 where
  pub xs : List ℕ
  pub before : List ℕ
  pub partly : Partly g xs f before room
  pub all : length xs ≡ g.n

abbrev pub Closed : Shape → Filling → List ℕ → List ℕ → Type 0
Closed g f d e = (xs before : List ℕ) → Partly g xs f before d → length xs ≡ g.n → e ≡ laid (block g.u xs) before
