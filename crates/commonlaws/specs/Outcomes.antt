-- What is known of readers, pages, seeks and looks after a turn, after the next page and after the whole rule.
-- The lead and the others are the readers before it, lead' and others' those after it.
--
--   Carried   the same lists; each look is paid for by a seek or by a word that a cursor passed
--   Over      from b on there is no page that all lists share
--   Again     there is none from b up to d, and the lead is to be sought for d
--   Hit       c is the first at least b, of rank i in the lead, and all cursors are on it
--   Goes, Ends, Came  these by how a turn or a next page ended
--   Tallied   the pages, seeks and looks of the rule from b on until r pages are listed, whose cursors had reached so
--             many words before
use Rattle.std.specs.Prelude.{◌≡◌, List, [], ◌∷◌, ℕ, ◌+◌, ◌*◌, ◌≤◌, ◌<◌, length, take}
use Rattle.rules.specs.Seek.{Found, none, page}
use Rattle.rules.specs.Common.{Reader, Tally}
use Rattle.rules.specs.Plain.{first_from}
use Rattle.commonlaws.specs.Readers.{pages_of, Ready, AllReady, AllOnPage, reached_by, words_of, shared_from, left_in}
use Rattle.commonlaws.specs.Next.{Turn, over, again, hit, Turned, Next}

pub record Carried (U : ℕ) (lead : Reader) (others : List Reader) (lead' : Reader) (others' : List Reader)
    (seeks looks : ℕ) : Type 0 where
  pub lead_pages_lem : lead'.pages ≡ lead.pages
  pub pages : pages_of others' ≡ pages_of others
  pub words : words_of U (lead' ∷ others') ≡ words_of U (lead ∷ others)
  pub paid : looks + reached_by U (lead ∷ others) ≤ reached_by U (lead' ∷ others') + seeks
  pub reach : reached_by U (lead' ∷ others') ≤ words_of U (lead ∷ others)

pub record Over (b : ℕ) (lead : Reader) (others : List Reader) (seeks : ℕ) : Type 0 where
  pub shared : shared_from b lead others ≡ []
  pub few : seeks ≤ (1 + length others) * left_in b lead + 1

pub record Again (U b d : ℕ) (lead : Reader) (others : List Reader) (lead' : Reader) (others' : List Reader)
    (seeks : ℕ) : Type 0 where
  pub shared : shared_from b lead others ≡ shared_from d lead others
  pub few : seeks + (1 + length others) * left_in d lead ≤ (1 + length others) * left_in b lead
  pub fewer : left_in d lead < left_in b lead
  pub later : b ≤ d
  pub ready : Ready U d lead'
  pub all_ready : AllReady U d others'

pub record Hit (U b c i : ℕ) (lead : Reader) (others : List Reader) (lead' : Reader) (others' : List Reader)
    (seeks : ℕ) : Type 0 where
  pub first : first_from c 0 lead.pages ≡ page c i
  pub shared : shared_from b lead others ≡ c ∷ shared_from (c + 1) lead others
  pub few : seeks + (1 + length others) * left_in (c + 1) lead ≤ (1 + length others) * left_in b lead
  pub fewer : left_in (c + 1) lead < left_in b lead
  pub later : b ≤ c
  pub on_page_lem : AllOnPage c (lead' ∷ others')
  pub ready : (d : ℕ) → c ≤ d → Ready U d lead'
  pub all_ready : (d : ℕ) → c ≤ d → AllReady U d others'

abbrev pub Goes : ℕ → ℕ → Reader → List Reader → Turned → Turn → Type 0
Goes U b lead others t over = Over b lead others t.seeks
Goes U b lead others t (again d) = Again U b d lead others t.lead t.others t.seeks
Goes U b lead others t (hit c i) = Hit U b c i lead others t.lead t.others t.seeks

abbrev pub Ends : ℕ → ℕ → Reader → List Reader → Next → Found → Type 0
Ends U b lead others n (none m) = (m ≡ length lead.pages) × Over b lead others n.seeks
Ends U b lead others n (page c i) = Hit U b c i lead others n.lead n.others n.seeks

pub record Came (U b : ℕ) (lead : Reader) (others : List Reader) (n : Next) : Type 0 where
  pub carried : Carried U lead others n.lead n.others n.seeks n.looks
  pub ends : Ends U b lead others n n.found

pub record Tallied (U b r : ℕ) (lead : Reader) (others : List Reader) (reach : ℕ) (t : Tally) : Type 0 where
  pub listed : t.listed ≡ take r (shared_from b lead others)
  pub seeks : t.seeks ≤ (1 + length others) * left_in b lead + 1
  pub looks : t.looks + reach ≤ t.seeks + words_of U (lead ∷ others)
