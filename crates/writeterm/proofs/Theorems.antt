-- The theorems of writing a term, each in a sentence: what termlaws says of `write_term`, of an answer and its room.
use mathlib.Core.Path.{◌≡◌, sym, ap, ◌∙◌}
use mathlib.Core.List.{List}
use Prim.Native.Nat.{ℕ, ◌≤◌}
use lib.ListN.{length, take, drop}
use Rattle.std.specs.Prelude.{Result, Ok}
use Rattle.rules.specs.Verdict.{Accepted}
use Rattle.rules.specs.declared.Refusal.{Refusal}
use Rattle.rules.specs.Bytes.{Bytes}
use Rattle.rules.specs.ReadList.{list_u}
use Rattle.rules.specs.Write.{made}
use Rattle.rules.specs.Term.{Word, term_block, write_term}
use Rattle.rules.specs.ReadTerm.{pages_of, read_word, term_refusal}
use Rattle.rules.specs.Promises.{TermWritten}
use Rattle.laws.proofs.RoomLaws.{success}
use Rattle.termlaws.specs.Words.{Writable}
use Rattle.termlaws.proofs.Theorems.{written, write_again}

-- A success of n bytes with the room s after it, where the room held `room` before.
module _ (v N : ℕ) (w : Word) (room : List ℕ) (n : ℕ) (s : List ℕ) (e : TermWritten v N w room (Ok n) s) where
  accepts : (write_term v N w room).refusal ≡ Accepted
  accepts = sym (ap (λ m. m.refusal) e)

  -- What the writer accepts is a writable word, and the bytes that it writes are that word's block.
  pub written_block : Writable v N w × (take n s ≡ term_block v N w)
  written_block =
      let k = written v N w room accepts in
      (k.writable, ap (λ m. take m.size m.room) e ∙ k.front)

  -- They are accepted, and reading them gives the word.
  pub written_read : (term_refusal v (take n s) ≡ Accepted) × (read_word (take n s) ≡ w)
  written_read =
      let k = written v N w room accepts in
      let f = ap (λ m. take m.size m.room) e in
      (ap (term_refusal v) f ∙ k.accepts, ap read_word f ∙ k.reads)

  -- The room behind them is as it was.
  pub written_past : drop n s ≡ drop n room
  written_past =
      ap (λ m. drop m.size m.room) e ∙ (written v N w room accepts).past
      ∙ sym (ap (λ m. drop m.size room) e)

-- Writing what was read of accepted bytes gives the same bytes.
pub read_written : (v : ℕ) (s : List ℕ) → Bytes s → term_refusal v s ≡ Accepted → (room : List ℕ)
    → length s ≤ length room → (r : Result ℕ Refusal) (u : List ℕ)
    → TermWritten v (list_u (pages_of s)) (read_word s) room r u
    → made r u ≡ success s room
read_written v s b a room h r u e = e ∙ write_again v s b a room h
