-- How many pages lists can share: no more than the first of them has.
use mathlib.Core.List.{List, []}
use Prim.Native.Nat.{ℕ, ◌+◌, ◌≤◌}
use native.Mathlib.Omega.{arith}
use lib.ListN.{length, get_or, length-take}
use Rattle.rules.specs.Plain.{at_least}
use Rattle.commonlaws.specs.Readers.{pages_of, shared_from}
use Rattle.commonlaws.proofs.SharedLaws.{shared_le, from_le}
use Rattle.commonlaws.proofs.TallyLaws.{rounds_tallied}
use Rattle.readlaws.proofs.FormLaws.{form_length}
use Rattle.querylaws.specs.Lists.{number_of, part_at, form_in, shape_in, pages_at, pages_in, bound_in, Lists}
use Rattle.querylaws.specs.Queries.{new_query, reader_at, lead_in, others_in}
use Rattle.querylaws.specs.Listings.{whole_in}
use Rattle.querylaws.proofs.ListLaws.{list_length}
use Rattle.querylaws.proofs.RunLaws.{lead_ready, others_ready}
use Rattle.querylaws.proofs.NewLaws.{new_running, new_rule}

-- the first list has no fewer pages than all share, and no list has more than 2 ^ 24
pub whole_few : (s sh : List ℕ) (k : ℕ) → Lists s sh k → (length (whole_in s sh k).listed ≤ number_of sh 0 7)
    × (number_of sh 0 7 ≤ 16777216)
unfolding reader_at pages_at shape_in
whole_few s sh k l =
    let lead = lead_in s sh new_query in
    let others = others_in s sh k new_query in
    let a = (new_running s sh k l 0).apt in
    let n : ℕ = length (get_or (pages_in s sh k) 0 []) + 1 in
    let t =
    (rounds_tallied (bound_in sh) lead others 0 (lead_ready s sh k new_query 0 a)
    (others_ready s sh k new_query 0 a) n).listed in
    let at = l.each 0 l.some in
    let m = form_length (form_in s sh 0) (part_at s sh 0) (shape_in sh 0) at.opened in (
      rw (← new_rule s sh k l 0 n, t)
          (omega (
            arith,
            length-take n (shared_from 0 lead others),
            shared_le (pages_of others) (at_least 0 lead.pages),
            from_le 0 lead.pages,
          )),
      omega (arith, list_length s sh 0 at),
    )
