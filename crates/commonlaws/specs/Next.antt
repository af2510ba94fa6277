-- The next common page at or above a bound, as the step rule finds it.
--
--   Turn                  how a turn ends:
--                         one list has no page left, the lead is sought again for d, or all are on page c
--   Turned                that, the readers after it, its seeks and looks
--   turned U lead others b  one turn: the lead is sought for b, and the others in turn for the page that it found
--   Next                  a page with its rank in the lead, or none with the lead's n; the readers after it, its seeks
--                         and looks
--   next_in f U lead others b    turns from the bound b until there is a page or no more, at most f
--   next_common U lead others b  as many turns as it takes
--   midway U lead c i done rest  the next page where the lead is on page c of rank i,
--                                the readers done were sought for c
--                         and are on it, and the rest are yet to be sought
--   plus s l n            n with s seeks and l looks more
--   stop f lead others    nothing sought any more
--   rounds_to U lead others b r  the step rule from the bound b until r pages are listed, with as many seeks of the lead
--                         as it takes
--   fresh_lead v U ls, fresh_others v U ls  the readers with which the rule begins on the lists ls
--   rounds_by go t e r     what the rule tallies by a turn, until r pages are listed, where go is what it tallies from a
--                         bound on
--   onward U n r          a next page, listed as one of r, and the rule from the page behind it
--   first_shared b ls xs   by plain reading:
--                         the first of xs at least b that is in every list of ls, with its number; or none with the
--                         number of xs
use Rattle.std.specs.Prelude.{List, [], ◌∷◌, ◌++◌, ℕ, zero, suc, ◌+◌, length}
use Rattle.rules.specs.Seek.{Found, none, page, Sought}
use Rattle.rules.specs.Common.{Reader, Tally, Ended, agreed, exhausted, larger, Round}
use Rattle.rules.specs.Common.{stopped, agree, reader, readers_of, seek_by, moved_by, counted, nothing, rounds, lead_pages, other_pages}
use Rattle.rules.specs.Plain.{first_from, at_least, shared_by}

pub data Turn : Type 0 where
  over : Turn
  again : ℕ → Turn
  hit : ℕ → ℕ → Turn

pub record Turned : Type 0 where
  pub turn : Turn
  pub lead : Reader
  pub others : List Reader
  pub seeks : ℕ
  pub looks : ℕ

unfoldable pub turn_of : ℕ → ℕ → Ended → Turn
turn_of c i agreed = hit c i
turn_of c i exhausted = over
turn_of c i (larger d) = again d

-- a seek of the lead, and a round of the others behind it
unfoldable pub behind_lead : Reader → Sought → Turn → Round → Turned
behind_lead l s t r = record {
  turn = t;
  lead = moved_by l s;
  others = r.readers;
  seeks = 1 + r.seeks;
  looks = s.looks + r.looks;
}

unfoldable pub turned : ℕ → Reader → List Reader → ℕ → Turned
turned U lead others b =
    let s : Sought = seek_by U lead b in
    elim s.found [
      | none _ ↦ behind_lead lead s over (stopped exhausted others)
      | page c i ↦ behind_lead lead s (turn_of c i (agree U c others).ended) (agree U c others)
    ]

pub record Next : Type 0 where
  pub found : Found
  pub lead : Reader
  pub others : List Reader
  pub seeks : ℕ
  pub looks : ℕ

unfoldable pub ending : Found → Turned → Next
ending found t = record { found = found; lead = t.lead; others = t.others; seeks = t.seeks; looks = t.looks }

unfoldable pub stop : Found → Reader → List Reader → Next
stop found lead others = record { found = found; lead = lead; others = others; seeks = 0; looks = 0 }

-- seeks and looks more in front
unfoldable pub plus : ℕ → ℕ → Next → Next
plus seeks looks n = record {
  found = n.found;
  lead = n.lead;
  others = n.others;
  seeks = seeks + n.seeks;
  looks = looks + n.looks;
}

-- what comes of a turn, where go is what comes from a bound on
unfoldable pub next_by : (ℕ → Next) → Turned → Turn → Next
next_by go t over = ending (none (length t.lead.pages)) t
next_by go t (again d) = plus t.seeks t.looks (go d)
next_by go t (hit c i) = ending (page c i) t

unfoldable pub next_in : ℕ → ℕ → Reader → List Reader → ℕ → Next
next_in zero U lead others b = stop (none (length lead.pages)) lead others
next_in (suc f) U lead others b =
    let t : Turned = turned U lead others b in
    next_by (next_in f U t.lead t.others) t t.turn

unfoldable pub next_common : ℕ → Reader → List Reader → ℕ → Next
next_common U lead others b = next_in (length lead.pages + 1) U lead others b

-- a round of the rest behind the done, with the lead on page c of rank i
unfoldable pub mid_turn : Reader → ℕ → ℕ → List Reader → Round → Turned
mid_turn lead c i done r = record {
  turn = turn_of c i r.ended;
  lead = lead;
  others = done ++ r.readers;
  seeks = r.seeks;
  looks = r.looks;
}

unfoldable pub midway : ℕ → Reader → ℕ → ℕ → List Reader → List Reader → Next
midway U lead c i done rest =
    let t : Turned = mid_turn lead c i done (agree U c rest) in
    next_by (next_common U t.lead t.others) t t.turn

unfoldable pub rounds_to : ℕ → Reader → List Reader → ℕ → ℕ → Tally
rounds_to U lead others b r = rounds (length lead.pages + 1) r U lead others b

unfoldable pub fresh_lead : ℕ → ℕ → List (List ℕ) → Reader
fresh_lead v U ls = reader v U (lead_pages ls)

unfoldable pub fresh_others : ℕ → ℕ → List (List ℕ) → List Reader
fresh_others v U ls = readers_of v U (other_pages ls)

unfoldable pub rounds_by : (ℕ → ℕ → Tally) → Turned → Turn → ℕ → Tally
rounds_by go t e zero = nothing
rounds_by go t over (suc r) = counted t.seeks t.looks [] nothing
rounds_by go t (again d) (suc r) = counted t.seeks t.looks [] (go d (suc r))
rounds_by go t (hit c i) (suc r) = counted t.seeks t.looks (c ∷ []) (go (c + 1) r)

unfoldable pub onward : ℕ → Next → ℕ → Tally
onward U n zero = nothing
onward U n (suc r) =
    elim n.found [
      | none _ ↦ counted n.seeks n.looks [] nothing
      | page c _ ↦ counted n.seeks n.looks (c ∷ []) (rounds_to U n.lead n.others (c + 1) r)
    ]

unfoldable pub first_shared : ℕ → List (List ℕ) → List ℕ → Found
first_shared b ls xs = elim (shared_by ls (at_least b xs)) [ [] ↦ none (length xs) | c ∷ _ ↦ first_from c 0 xs ]
