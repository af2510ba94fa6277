-- Where the terms of an index start.
--
--   Accepts s         s is accepted as a term of an index of some version
--   Starts s t at       term number t of the index s starts at byte `at`
--   TermThere s at      some term of it does
--   TermAt s at b       the bytes b are the part of s that is the term which starts at byte `at`
--   Below s ts          each of the terms ts is a term of s
--   Found s ts ps       each of the terms ts starts at its number of ps
--   LeastOf ts t r      r is the least at or above t of the terms ts
--   LeastFrom ts t o    o is that least term, or none where all of ts are below t
--   PutOf ts n t at ps after  `after` is ps with `at` as the number of each of the first n terms of ts that is t
--   Put ts t at ps after  so it is of all of ts
use Rattle.std.specs.Prelude.{◌≡◌, List, ℕ, ◌≤◌, ◌<◌, length, get_or, Option, MatchOption}
use Rattle.rules.specs.Verdict.{Accepted}
use Rattle.rules.specs.ReadTerm.{term_refusal}
use Rattle.rules.specs.Index.{index_t, term_part}
use Rattle.laws.specs.Blocks.{block_at}

-- a term that some version of an index accepts
pub record Accepts (s : List ℕ) : Type 0 where
  pub version : ℕ
  pub accepted : term_refusal version s ≡ Accepted

pub record Starts (s : List ℕ) (t at : ℕ) : Type 0 where
  pub below : t < index_t s
  pub start : at ≡ block_at 11 t s

pub record TermThere (s : List ℕ) (at : ℕ) : Type 0 where
  pub number : ℕ
  pub starts : Starts s number at

abbrev pub TermAt : List ℕ → ℕ → List ℕ → Type 0
TermAt s at b = (t : ℕ) → Starts s t at → b ≡ term_part t s

abbrev pub Below : List ℕ → List ℕ → Type 0
Below s ts = (i : ℕ) → i < length ts → get_or ts i 0 < index_t s

abbrev pub Found : List ℕ → List ℕ → List ℕ → Type 0
Found s ts ps = (i : ℕ) → i < length ts → Starts s (get_or ts i 0) (get_or ps i 0)

pub record LeastOf (ts : List ℕ) (t r : ℕ) : Type 0 where
  pub onward : t ≤ r
  pub least : (i : ℕ) → i < length ts → t ≤ get_or ts i 0 → r ≤ get_or ts i 0
  pub among : (i : ℕ) × (i < length ts) × (get_or ts i 0 ≡ r)

abbrev pub LeastFrom : List ℕ → ℕ → Option ℕ → Type 0
LeastFrom ts t o = MatchOption o ((i : ℕ) → i < length ts → get_or ts i 0 < t) (λ r. LeastOf ts t r)

pub record PutOf (ts : List ℕ) (n t at : ℕ) (ps after : List ℕ) : Type 0 where
  pub same : length after ≡ length ps
  pub here : (i : ℕ) → i < n → get_or ts i 0 ≡ t → get_or after i 0 ≡ at
  pub others : (i : ℕ) → (i < n → get_or ts i 0 ≡ t → ⊥) → get_or after i 0 ≡ get_or ps i 0

abbrev pub Put : List ℕ → ℕ → ℕ → List ℕ → List ℕ → Type 0
Put ts t at ps after = PutOf ts (length ts) t at ps after
