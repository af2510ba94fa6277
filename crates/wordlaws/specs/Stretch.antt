-- A word's positions, a stretch of 256 at a time: which of them end a page, and the bases that follow from that.
--
--   last_at cs j        1 where position j is the last of its page, for pages with cs positions; else 0
--   headed e cs        cs with e in the place of the first
--   marks_of part       the numbers of the part, as marks
--   base_at b m ps i    the base of position i, where b is that of the first, and m j is 1 where position j ends a page
--   Marked cs t r part the part has the marks of the stretch that starts on page t; the next starts on page r
--   Bounded b part ps  the marks are at most 1, and the elements fit four bytes
--   Based b part ps out  the elements stand in out that the positions and the marks of the part give
--   NextSums cs t r part  the part has the sums of the 256 counts behind t, less 1, or of what is left; r is behind
--                      them
--   Placing s U cs ps  the positions ps give elements that rise and stay below U, where s is the first page's base
--   SpotAt s U cs ps p p is the place of a position of those, or behind the last; `HasSpot` for some s and U
--   FirstSpot s cs p   p is the place of the first position, whatever the positions
--   NextPlaces cs ps p r part  the part has the elements of the 256 positions behind p, or of what is left; r is behind
--                      them
use Rattle.std.specs.Prelude.{true, cond, ◌≡◌, List, [], ◌∷◌, ℕ, zero, suc, ◌+◌, ◌-◌, ◌*◌, ◌^◌, ◌≤◌, ◌<◌, min, ltb, eqb, length, get_or, take, drop}
use Rattle.rules.specs.Limits.{limit}
use Rattle.rules.specs.List.{rising}
use Rattle.rules.specs.Term.{total, sums, placed, positive}
use Rattle.wordlaws.specs.declared.Turn.{Turn}
use Rattle.wordlaws.specs.declared.Tally.{Tally}
use Rattle.wordlaws.specs.declared.Spot.{Spot}

unfoldable pub last_at : List ℕ → ℕ → ℕ
last_at [] j = 0
last_at (c ∷ cs) j = cond (ltb j c) (cond (eqb (j + 1) c) 1 0) (last_at cs (j - c))

unfoldable pub headed : ℕ → List ℕ → List ℕ
headed e [] = []
headed e (c ∷ cs) = e ∷ cs

abbrev pub marks_of : List ℕ → ℕ → ℕ
marks_of part j = get_or part j 0

unfoldable pub base_at : ℕ → (ℕ → ℕ) → List ℕ → ℕ → ℕ
base_at b m ps zero = b
base_at b m ps (suc i) = base_at b m ps i + m i * (get_or ps i 0 + 1)

pub record Marked (cs : List ℕ) (t r : Turn) (part : List ℕ) : Type 0 where
  pub marks : (j : ℕ) → j < 256 → get_or part j 0 ≡ last_at (headed t.end (drop t.page cs)) j
  pub rest : (j : ℕ) → last_at (headed r.end (drop r.page cs)) j
      ≡ last_at (headed t.end (drop t.page cs)) (256 + j)
  pub some : 0 < r.end
  pub small : r.end ≤ 2 ^ 32

abbrev pub Bounded : ℕ → List ℕ → List ℕ → Type 0
Bounded b part ps =
    (j : ℕ) → j < length ps → (get_or part j 0 ≤ 1) × (base_at b (marks_of part) ps j + get_or ps j 0 < 2 ^ 32)

abbrev pub Based : ℕ → List ℕ → List ℕ → List ℕ → Type 0
Based b part ps out = (j : ℕ) → j < length ps → get_or out j 0 ≡ base_at b (marks_of part) ps j + get_or ps j 0

pub record NextSums (cs : List ℕ) (t r : Tally) (part : List ℕ) : Type 0 where
  pub done : r.done ≡ t.done + min 256 (length cs - t.done)
  pub sum : r.sum ≡ t.sum + total (take 256 (drop t.done cs))
  pub holds : take (r.done - t.done) part ≡ sums t.sum (take 256 (drop t.done cs))

pub record Placing (s U : ℕ) (cs ps : List ℕ) : Type 0 where
  pub within : U ≤ limit
  pub summed : total cs ≡ length ps
  pub counted : positive cs ≡ true
  pub rises : rising 0 U (placed s cs ps) ≡ true

pub record SpotAt (s U : ℕ) (cs ps : List ℕ) (p : Spot) : Type 0 where
  pub placing : Placing s U cs ps
  pub within : p.done ≤ length ps
  pub some : 0 < p.turn.end
  pub small : p.turn.end ≤ 2 ^ 32
  pub page : p.done < length ps
      → (j : ℕ) → last_at (headed p.turn.end (drop p.turn.page cs)) j ≡ last_at cs (p.done + j)
  pub base : p.base ≡ base_at s (last_at cs) ps p.done

abbrev pub FirstSpot : ℕ → List ℕ → Spot → Type 0
FirstSpot s cs p = (p.done ≡ 0) × ((U : ℕ) (ps : List ℕ) → Placing s U cs ps → SpotAt s U cs ps p)

pub record HasSpot (cs ps : List ℕ) (p : Spot) : Type 0 where
  pub s : ℕ
  pub U : ℕ
  pub at : SpotAt s U cs ps p

pub record NextPlaces (cs ps : List ℕ) (p r : Spot) (part : List ℕ) : Type 0 where
  pub done : r.done ≡ p.done + min 256 (length ps - p.done)
  pub spot : (s U : ℕ) → SpotAt s U cs ps p → SpotAt s U cs ps r
  pub holds : (s U : ℕ) → SpotAt s U cs ps p
      → take (r.done - p.done) part ≡ take (r.done - p.done) (drop p.done (placed s cs ps))
