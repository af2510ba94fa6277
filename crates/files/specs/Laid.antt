-- Bytes or numbers laid into lent room, and the numbers of a file.
--
--   Put b at r d e   e is d with b laid from place at on, and r is the place behind b
--   Partly w b at r d e  all of w but b, its end, is laid so
--   words_of qs       the whole four-byte numbers of the bytes qs
use Rattle.std.specs.Prelude.{◌≡◌, List, ◌++◌, ℕ, ◌+◌, length}
use Rattle.std.proofs.lemmas.List.Edits.{sets}
use Rattle.rules.specs.Program.{numbers_of}

pub record Put (b : List ℕ) (at r : ℕ) (d e : List ℕ) : Type 0 where
  pub stored : e ≡ sets d at b
  pub next : r ≡ at + length b

pub record Partly (w b : List ℕ) (at r : ℕ) (d e : List ℕ) : Type 0 where
  pub done : List ℕ
  pub put : Put done at r d e
  pub whole : w ≡ done ++ b

abbrev pub words_of : List ℕ → List ℕ
words_of qs = numbers_of (length qs) qs
