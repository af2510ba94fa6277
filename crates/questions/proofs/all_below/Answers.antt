-- `all_below` tests each of the numbers.
use mathlib.Core.Path.{◌∙◌}
use borrow.Author.Tests.{tests}
use lib.Dec.{ltb}
use Rattle.std.proofs.Common.{rules}
use Rattle.std.proofs.lemmas.Iterator.{YieldsList-from_slice}
use Rattle.std.proofs.lemmas.Iterator.Search.{all_from_yields_List}
use Rattle.questions.proofs.GoodLaws.{below_all}
use Rattle.questions.proofs.all_below.Goals as goal

pub returns : goal.returns
returns c =
    let xs = c.args.args.now in
    let t = c.args.t in
    all_from_yields_List (λ x. ltb x t) _ _ c.all.result c.all.ensures.ran (YieldsList-from_slice xs cc)
    (λ x b q k. search (rules, tests))
    ∙ below_all t xs
