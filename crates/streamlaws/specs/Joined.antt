-- Two words, one behind the other.
--
--   joined t u   the pages, counts and positions of t, and behind them those of u
use Rattle.std.specs.Prelude.{◌++◌}
use Rattle.rules.specs.Term.{Word, lent_word}

abbrev pub joined : Word → Word → Word
joined t u = lent_word (t.pages ++ u.pages) (t.counts ++ u.counts) (t.positions ++ u.positions)
