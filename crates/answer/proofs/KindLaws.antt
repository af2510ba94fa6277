-- Which answer a kind has.
use mathlib.Core.Path.{◌≡◌}
use mathlib.Core.List.{List}
use Prim.Native.Nat.{ℕ}
use lib.ListN.{get_or}
use Rattle.rules.specs.Index.{index_v, index_n}
use Rattle.rules.specs.Questions.{answer, pages_in, lists_in, phrase_in, by_rank, by_bound, by_common, by_phrase}

module _ (s : List ℕ) (kind : ℕ) (args : List ℕ) where
  pub answer_rank : kind ≡ 1 → answer s kind args ≡ by_rank (pages_in s (get_or args 0 0)) (get_or args 1 0)
  unfolding answer
  answer_rank e = rw e

  pub answer_bound : kind ≡ 2 → answer s kind args ≡ by_bound (pages_in s (get_or args 0 0)) (get_or args 1 0)
  unfolding answer
  answer_bound e = rw e

  pub answer_common : kind ≡ 3 → answer s kind args ≡ by_common (index_v s) (index_n s) (lists_in s args)
  unfolding answer
  answer_common e = rw e

  pub answer_phrase : kind ≡ 4 → answer s kind args ≡ by_phrase (phrase_in s args)
  unfolding answer
  answer_phrase e = rw e
