-- A word's block laid into room, for whatever version of an index its shapes are.
--
--   SomeShaped g ps cs qs  g are the shapes of the lists of a word that is writable for an index of some version
--   TermLaid g ps cs qs d e  e is d with the word's block laid into it
use Rattle.std.specs.Prelude.{◌≡◌, List, ℕ}
use Rattle.rules.specs.Write.{laid}
use Rattle.rules.specs.Term.{lent_word, term_block}
use Rattle.wordlaws.specs.declared.Shapes.{Shapes}
use Rattle.wordlaws.specs.Lists.{Shaped}

abbrev pub SomeShaped : Shapes → List ℕ → List ℕ → List ℕ → Type 0
SomeShaped g ps cs qs = (v : ℕ) × Shaped v g ps cs qs

abbrev pub TermLaid : Shapes → List ℕ → List ℕ → List ℕ → List ℕ → List ℕ → Type 0
TermLaid g ps cs qs d e = (v : ℕ) → Shaped v g ps cs qs → e ≡ laid (term_block v g.pages.u (lent_word ps cs qs)) d
