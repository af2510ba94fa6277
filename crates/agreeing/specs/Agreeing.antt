-- Whether the three lists of a term agree.
--
--   disagreeing p c q  whether the lists p of pages, c of counts and q of positions disagree
use Rattle.std.specs.Prelude.{Bool, not, ◌||◌, List, ℕ, eqb}
use Rattle.rules.specs.ReadList.{list_u, list_n, decode}
use Rattle.rules.specs.Term.{next}

abbrev pub disagreeing : List ℕ → List ℕ → List ℕ → Bool
disagreeing p c q =
    not (eqb (list_n c) (list_n p))
    || (not (eqb (list_u c) (next 0 (decode c)))
    || (not (eqb (list_n q) (list_u c))
    || not (eqb (list_u q) (next 0 (decode q)))))
