-- `list_starts` goes from common page to common page; fewer of the lead's are left each time.
use mathlib.Core.Path.{◌≡◌}
use lib.ListN.{length}
use Rattle.commonlaws.specs.Readers.{left_in}
use Rattle.querylaws.specs.Queries.{lead_in as leadReader}
use Rattle.triallaws.specs.Asked.{pages_in, counts_in, positions_in, lead_in, offsets_in, AskedIn}
use Rattle.triallaws.proofs.PairLaws.{Going}
use Rattle.pairs.proofs.list_starts.Given as goal

abbrev pub invariant-loop-words : goal.invariant-loop-words
invariant-loop-words l =
    (a : AskedIn l.card l.terms l.lists)
    × Going l.card l.terms (lead_in l.lists) (pages_in l.lists) (counts_in l.lists) (positions_in l.lists) l.initial.room a.asked
    (offsets_in l.lists) l.q l.words l.b l.found l.room × (length l.page ≡ 1)

abbrev pub decreases-loop-words : goal.decreases-loop-words
decreases-loop-words l =
    left_in l.b (leadReader l.card (pages_in l.lists) l.q)
