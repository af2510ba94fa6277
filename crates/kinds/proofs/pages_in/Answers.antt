-- `pages_in` finds the term, and its pages.
use mathlib.Core.Path.{ap, ◌∙◌}
use Rattle.rules.specs.ReadTerm.{pages_of}
use Rattle.rules.specs.Index.{index_v}
use Rattle.cardlaws.proofs.Theorems.{accepted_term}
use Rattle.kinds.proofs.pages_in.Goals as goal

pub pages_of-requires : goal.pages_of-requires
pages_of-requires c =
    let a = c in
    let s = a.args.card.now in
    rw c.find_term.ensures (record {
      version = index_v s;
      accepted = (accepted_term s a.requires.0 a.args.t a.requires.1).accepts;
    })

pub returns : goal.returns
returns c = c.pages_of.ensures ∙ ap pages_of c.find_term.ensures
