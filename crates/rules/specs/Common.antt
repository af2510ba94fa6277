-- Common pages by the step rule, with its counts [01 How a seek moves].
--
--   Reader          a list of pages, its form [02 f], and the cursor on it
--   reader v U l    the list l of pages below U in an index of version v, with a fresh cursor
--   Tally           seeks, looks, and the pages listed
--   lead_of ls       the number of the shortest list, the first of equals
--   lead_pages ls, other_pages ls  that list, and the others
--   agree U c rs    the others are sought in turn for c, until one answers none or more than c
--   rounds f r U lead others b  the rule from the bound b on until r pages are listed [02 e], with at most f seeks of
--                   the lead
--   common_from v U ls b r  the same on the lists ls of pages below U in an index of version v, with as many seeks as it
--                   takes
--   common v U ls   the rule from 0 on, with no end to the pages
use Rattle.std.specs.Prelude.{true, false, List, [], ◌∷◌, ◌++◌, ℕ, zero, suc, ◌+◌, ltb, length, get_or, take, drop}
use Rattle.rules.specs.List.{Form, form_of}
use Rattle.rules.specs.Seek.{Cursor, fresh, none, page, Sought, seek}

pub record Reader : Type 0 where
  pub form : Form
  pub pages : List ℕ
  pub cursor : Cursor

pub record Tally : Type 0 where
  pub seeks : ℕ
  pub looks : ℕ
  pub listed : List ℕ

-- how seeking the others ended: all answered c, one answered none, or one answered a larger page
pub data Ended : Type 0 where
  agreed : Ended
  exhausted : Ended
  larger : ℕ → Ended

pub record Round : Type 0 where
  pub ended : Ended
  pub readers : List Reader
  pub seeks : ℕ
  pub looks : ℕ

-- the shortest of what was seen is number best, of length m; ls are the lists from number i on
unfoldable pub lead_from : ℕ → ℕ → ℕ → List (List ℕ) → ℕ
lead_from best m i [] = best
lead_from best m i (l ∷ ls) =
    elim (ltb (length l) m) [ true ↦ lead_from i (length l) (i + 1) ls | false ↦ lead_from best m (i + 1) ls ]

unfoldable pub lead_of : List (List ℕ) → ℕ
lead_of [] = 0
lead_of (l ∷ ls) = lead_from 0 (length l) 1 ls

unfoldable pub reader : ℕ → ℕ → List ℕ → Reader
reader v U l = record { form = form_of v U (length l); pages = l; cursor = fresh }

unfoldable pub readers_of : ℕ → ℕ → List (List ℕ) → List Reader
readers_of v U [] = []
readers_of v U (l ∷ ls) = reader v U l ∷ readers_of v U ls

-- a seek for b on a reader's list
unfoldable pub seek_by : ℕ → Reader → ℕ → Sought
seek_by U r b = seek r.form U r.pages r.cursor b

-- the reader behind a seek
unfoldable pub moved_by : Reader → Sought → Reader
moved_by r s = record { form = r.form; pages = r.pages; cursor = s.cursor }

-- one seek more in front of a round
unfoldable pub before : Reader → Sought → Round → Round
before l s r = record {
  ended = r.ended;
  readers = moved_by l s ∷ r.readers;
  seeks = r.seeks + 1;
  looks = s.looks + r.looks;
}

unfoldable pub stopped : Ended → List Reader → Round
stopped e rs = record { ended = e; readers = rs; seeks = 0; looks = 0 }

unfoldable pub agree : ℕ → ℕ → List Reader → Round
agree U c [] = stopped agreed []
agree U c (r ∷ rs) =
    let s : Sought = seek_by U r c in
    elim s.found [
      | none _ ↦ before r s (stopped exhausted rs)
      | page d _ ↦ elim (ltb c d) [
        | true ↦ before r s (stopped (larger d) rs)
        | false ↦ before r s (agree U c rs)
      ]
    ]

unfoldable pub counted : ℕ → ℕ → List ℕ → Tally → Tally
counted seeks looks listed t = record {
  seeks = seeks + t.seeks;
  looks = looks + t.looks;
  listed = listed ++ t.listed;
}

unfoldable pub nothing : Tally
nothing = record { seeks = 0; looks = 0; listed = [] }

-- the lead is sought for b
unfoldable pub rounds : ℕ → ℕ → ℕ → Reader → List Reader → ℕ → Tally
rounds zero r U lead others b = nothing
rounds (suc f) zero U lead others b = nothing
rounds (suc f) (suc r) U lead others b =
    let s : Sought = seek_by U lead b in
    let moved : Reader = moved_by lead s in
    elim s.found [
      | none _ ↦ counted 1 s.looks [] nothing
      | page c _ ↦
          let a : Round = agree U c others in
          elim a.ended [
            | exhausted ↦ counted (1 + a.seeks) (s.looks + a.looks) [] nothing
            | larger d ↦ counted (1 + a.seeks) (s.looks + a.looks) [] (rounds f (suc r) U moved a.readers d)
            | agreed ↦ counted (1 + a.seeks) (s.looks + a.looks) (c ∷ []) (rounds f r U moved a.readers (c + 1))
          ]
    ]

unfoldable pub lead_pages : List (List ℕ) → List ℕ
lead_pages ls = get_or ls (lead_of ls) []

-- the others, in their order
unfoldable pub other_pages : List (List ℕ) → List (List ℕ)
other_pages ls = take (lead_of ls) ls ++ drop (lead_of ls + 1) ls

-- each seek of the lead passes an element of it, so one more than it has suffice
unfoldable pub common_from : ℕ → ℕ → List (List ℕ) → ℕ → ℕ → Tally
common_from v U ls b r =
    let lead : List ℕ = lead_pages ls in
    rounds (length lead + 1) r U (reader v U lead) (readers_of v U (other_pages ls)) b

-- no more pages than the lead has can be listed
unfoldable pub common : ℕ → ℕ → List (List ℕ) → Tally
common v U ls = common_from v U ls 0 (length (lead_pages ls) + 1)
