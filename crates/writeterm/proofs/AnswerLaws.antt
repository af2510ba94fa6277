-- Laws of what writing a term leaves, one for each refusal; of a success termlaws has the law.
use mathlib.Core.Bool.{true, false}
use mathlib.Core.Path.{◌≡◌}
use mathlib.Core.List.{List}
use Prim.Native.Nat.{ℕ, ◌≤◌, ◌<◌}
use borrow.Author.Tests.{lt-ltb, le-ltb}
use lib.ListN.{length}
use Rattle.rules.specs.Verdict.{Version, Limit, Room, Lists}
use Rattle.rules.specs.Limits.{limit, last_edition, up_to}
use Rattle.rules.specs.Write.{refused, stored}
use Rattle.rules.specs.Term.{Word, next, places, valid_word, term_block, write_term}
use Rattle.termlaws.specs.Words.{Writable}

module _ (v N : ℕ) (t : Word) (room : List ℕ) where
  pub answer_version : up_to last_edition v ≡ false → write_term v N t room ≡ refused Version room
  unfolding write_term
  answer_version k = rw k

  module _ (known : up_to last_edition v ≡ true) where
    pub answer_limit : limit < N → write_term v N t room ≡ refused Limit room
    unfolding write_term
    answer_limit h = rw (known, lt-ltb limit N h)

    pub answer_lists : N ≤ limit → valid_word N t ≡ false → write_term v N t room ≡ refused Lists room
    unfolding write_term
    answer_lists h e = rw (known, le-ltb limit N h, e)

    pub answer_reach : N ≤ limit → valid_word N t ≡ true → limit < next 0 (places t)
        → write_term v N t room ≡ refused Limit room
    unfolding write_term
    answer_reach h e l = rw (known, le-ltb limit N h, e, lt-ltb limit (next 0 (places t)) l)

  pub answer_room : Writable v N t → length room < length (term_block v N t) → write_term v N t room ≡ refused Room room
  unfolding write_term stored
  answer_room w l = rw (
    w.known,
    le-ltb limit N w.within,
    w.valid,
    le-ltb limit (next 0 (places t)) w.reach,
    lt-ltb (length room) (length (term_block v N t)) l,
  )
