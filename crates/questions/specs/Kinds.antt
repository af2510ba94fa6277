-- The kinds of questions by their numbers [01 Questions].
--
--   number_of k    the number by which a question states kind k
--   Stated n o     o is the kind that the number n states, or none where it states none
use Rattle.std.specs.Prelude.{◌≡◌, ℕ, Option, MatchOption}
use Rattle.questions.specs.declared.Kind.{Kind}
use Rattle.questions.specs.declared.Kind.TheVariants.{ByRank, ByBound, Common, Phrase}

abbrev pub number_of : Kind → ℕ
number_of ByRank = 1
number_of ByBound = 2
number_of Common = 3
number_of Phrase = 4

abbrev pub Stated : ℕ → Option Kind → Type 0
Stated n o = MatchOption o ((k : Kind) → number_of k ≡ n → ⊥) (λ k. number_of k ≡ n)
