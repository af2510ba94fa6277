-- Common pages that are found one after another, as many as a room has places.
--
--   Turns s sh k n q b ps t           ps are the next pages from b on that the k lists share, n of them, or fewer where
--                                     none is left; t is the query behind them, with the mark of the last (b where n is
--                                     0), or spent_mark where none is left
--   bit_behind k q mark                the bit at which the last of k lists has the page of that mark, 0 if spent_mark
--   Batched s sh k q b room r room'   r is that query and mark for as many pages as the room has places, with its bit and
--                                     how many were found; room' is the room with them at its front
use Rattle.std.specs.Prelude.{cond, ◌≡◌, List, [], ◌∷◌, ℕ, zero, suc, ◌+◌, ◌-◌, eqb, length}
use Rattle.rules.specs.Write.{laid}
use Rattle.walklaws.specs.Cursors.{spent_mark}
use Rattle.querylaws.specs.declared.Query.{Query}
use Rattle.querylaws.specs.declared.Turn.{Turn}
use Rattle.querylaws.specs.Queries.{cursor_in, Turned}

unfoldable pub Turns : List ℕ → List ℕ → ℕ → ℕ → Query → ℕ → List ℕ → Turn → Type 0
Turns s sh k zero q b ps t = (ps ≡ []) × (t.q ≡ q) × (t.mark ≡ b)
Turns s sh k (suc n) q b [] t = Turned s sh k q b t × (t.mark ≡ spent_mark)
Turns s sh k (suc n) q b (p ∷ ps) t = (u : Turn) × Turned s sh k q b u × (u.mark ≡ p + 1) × (u.mark ≡ spent_mark → ⊥)
    × Turns s sh k n u.q u.mark ps t

unfoldable pub bit_behind : ℕ → Query → ℕ → ℕ
bit_behind k q mark = cond (eqb mark spent_mark) 0 (cursor_in q (k - 1)).bit

pub record Batched (s sh : List ℕ) (k : ℕ) (q : Query) (b : ℕ) (room : List ℕ) (r : Turn) (room' : List ℕ)
    : Type 0 where
  pub pages : List ℕ
  pub turns : Turns s sh k (length room) q b pages r
  pub bit : r.bit ≡ bit_behind k r.q r.mark
  pub found : r.found ≡ length pages
  pub laid_out : room' ≡ laid pages room
