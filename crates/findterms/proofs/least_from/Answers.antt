-- `least_from` takes the least of those terms that are at or above t.
use mathlib.Core.Path.{◌≡◌}
use Prim.Native.Nat.{min}
use lib.Dec.{leb}
use borrow.Author.Tests.{tests}
use Rattle.std.proofs.Common.{rules}
use Rattle.std.proofs.lemmas.Iterator.{YieldsList-from_slice, YieldsList-from_map}
use Rattle.std.proofs.lemmas.Iterator.Consumers.{YieldsList-at, YieldsList-from_filter, min_from_yields_List}
use Rattle.std.proofs.lemmas.Iterator.Adapters.{option_map_id}
use Rattle.std.proofs.lemmas.List.{map-id}
use Rattle.std.specs.List.{filter, reduce}
use Rattle.findlaws.proofs.StartLaws.{least_filtered}
use Rattle.findterms.proofs.least_from.Goals as goal

pub returns : goal.returns
returns c =
    let all = c.args.terms.now in
    let t = c.args.t in
    let least = min_from_yields_List c.filter.result c.min.result c.min.ensures.ran
    (YieldsList-from_filter _ (leb t)
    (YieldsList-at c.filter.ensures.source
    (YieldsList-from_map _ (λ x. x) (YieldsList-from_slice all cc) c.map.ensures.closure (λ x r q k. search rules)))
    c.filter.ensures.closure (λ x r q k. search (rules, tests))) in
    let e : c.min.result ≡ reduce min (filter (leb t) all) = rw (option_map_id, map-id) at least in
    rw e (least_filtered t all)
