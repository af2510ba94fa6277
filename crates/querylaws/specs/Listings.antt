-- What listing and counting common pages answer.
--
--   fresh_at s sh i      a fresh reader of list i that sh places in the card s
--   readers_in s sh k    those of the first k lists
--   rule_on U rs b n     the step rule on the readers rs, the first of which leads, from b on until n pages are listed
--   rule_in s sh k b n   that, on the first k lists that sh places in the card s
--   whole_in s sh k      the same from 0 on, with no end to the pages
--   Tells t r           r counts the pages, seeks and looks of t
--   laid_within xs room  xs at the room's front, as far as it goes
use Rattle.std.specs.Prelude.{◌≡◌, List, [], ◌∷◌, ℕ, ◌+◌, length, get_or, take}
use Rattle.rules.specs.Seek.{fresh}
use Rattle.rules.specs.Common.{Reader, Tally, nothing}
use Rattle.rules.specs.Write.{laid}
use Rattle.commonlaws.specs.Next.{rounds_to}
use Rattle.querylaws.specs.declared.Listed.{Listed}
use Rattle.querylaws.specs.Lists.{span, form_in, pages_at, pages_in, bound_in}

abbrev pub fresh_at : List ℕ → List ℕ → ℕ → Reader
fresh_at s sh i = record { form = form_in s sh i; pages = pages_at s sh i; cursor = fresh }

unfoldable pub readers_in : List ℕ → List ℕ → ℕ → List Reader
readers_in s sh k = span (fresh_at s sh) 0 k

unfoldable pub rule_on : ℕ → List Reader → ℕ → ℕ → Tally
rule_on U [] b n = nothing
rule_on U (r ∷ rs) b n = rounds_to U r rs b n

abbrev pub rule_in : List ℕ → List ℕ → ℕ → ℕ → ℕ → Tally
rule_in s sh k b n = rule_on (bound_in sh) (readers_in s sh k) b n

abbrev pub whole_in : List ℕ → List ℕ → ℕ → Tally
whole_in s sh k = rule_in s sh k 0 (length (get_or (pages_in s sh k) 0 []) + 1)

pub record Tells (t : Tally) (r : Listed) : Type 0 where
  pub found : r.found ≡ length t.listed
  pub seeks : r.seeks ≡ t.seeks
  pub looks : r.looks ≡ t.looks

abbrev pub laid_within : List ℕ → List ℕ → List ℕ
laid_within xs room = laid (take (length room) xs) room
