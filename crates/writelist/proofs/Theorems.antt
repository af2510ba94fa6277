-- The theorems of writing a list, each in a sentence.
use mathlib.Core.Bool.{Bool, true, false}
use mathlib.Core.Path.{◌≡◌, refl, sym, ap, ◌∙◌}
use mathlib.Core.List.{List, ◌++◌}
use Prim.Native.Nat.{ℕ, ◌≤◌, ◌<◌}
use native.Mathlib.Decide.{dec_lt}
use native.Mathlib.Omega.{arith}
use lib.ListN.{length, take, drop}
use lib.Seq.{take_at}
use Rattle.std.specs.Prelude.{Ok}
use Rattle.rules.specs.Verdict.{Verdict}
use Rattle.rules.specs.Verdict.{Accepted, Limit, Room, Lists}
use Rattle.rules.specs.Limits.{limit}
use Rattle.rules.specs.Refusal.{number}
use Rattle.rules.specs.List.{rising, valid_list, size, block}
use Rattle.rules.specs.ReadList.{list_u, decode, list_refusal}
use Rattle.rules.specs.Write.{made, laid, write_list}
use Rattle.rules.specs.Promises.{ListWritten}
use Rattle.listlaws.proofs.BlockLaws.{block_size}
use Rattle.listlaws.proofs.ValidLaws.{valid_from, valid_parts}
use Rattle.listlaws.proofs.Theorems.{decode_block, block_accepted, accepted_block}
use Rattle.filllaws.proofs.WriteLaws.{write_limit, write_lists, write_room, write_laid}

-- what acceptance by the writer says
record Wrote (U : ℕ) (xs room : List ℕ) : Type 0 where
  valid : valid_list U xs ≡ true
  fits : size U (length xs) ≤ length room

module _ (U : ℕ) (xs room : List ℕ) (a : (write_list U xs room).refusal ≡ Accepted) where
  refuted : (r : Verdict) → (write_list U xs room).refusal ≡ r → 0 < number r → ⊥
  refuted r e l = omega (arith, ap number (sym a ∙ e))

  wrote : Wrote U xs room
  wrote =
      elim (dec_lt limit U) [
        | yes h ↦ absurd (refuted Limit (ap (λ m. m.refusal) (write_limit U xs room h)) (omega arith))
        | no h ↦ within (omega arith) (rising 0 U xs) refl
      ]
    where
      within : U ≤ limit → (b : Bool) → rising 0 U xs ≡ b → Wrote U xs room
      within l false r = absurd (refuted Lists (ap (λ m. m.refusal) (write_lists U xs room l r)) (omega arith))
      within l true r =
          elim (dec_lt (length room) (size U (length xs))) [
            | yes h ↦ absurd (refuted Room (ap (λ m. m.refusal) (write_room U xs room l r h)) (omega arith))
            | no h ↦ record { valid = valid_from U xs l r; fits = omega arith }
          ]

-- What the writer accepts is a valid list, and its answer's bytes are that list's block.
pub written_block : (U : ℕ) (xs room : List ℕ) (n : ℕ) (s : List ℕ) → ListWritten U xs room (Ok n) s
    → (valid_list U xs ≡ true) × (take n s ≡ block U xs)
unfolding laid
written_block U xs room n s e =
    let w = wrote U xs room (sym (ap (λ m. m.refusal) e)) in
    let v = valid_parts U xs w.valid in
    let l : made (Ok n) s ≡ record {
      refusal = Accepted;
      size = size U (length xs);
      room = laid (block U xs) room;
    } = e ∙ write_laid U xs room v.0 v.1 w.fits in
    let k : n ≡ size U (length xs) = ap (λ m. m.size) l in
    let t : s ≡ laid (block U xs) room = ap (λ m. m.room) l in (
      w.valid,
      rw (k, t) (take_at (block U xs) (drop (length (block U xs)) room) (size U (length xs))
          (block_size U xs)),
    )

-- What the writer writes is accepted, and reading it gives the list.
pub written_read : (U : ℕ) (xs room : List ℕ) (n : ℕ) (s : List ℕ) → ListWritten U xs room (Ok n) s
    → (list_refusal (take n s) ≡ Accepted) × (decode (take n s) ≡ xs)
written_read U xs room n s e =
    let b = written_block U xs room n s e in
    rw b.1 (block_accepted U xs b.0, decode_block U xs b.0)

-- Writing what was read of accepted bytes gives the same bytes.
pub read_written : (s room : List ℕ) → list_refusal s ≡ Accepted → length s ≤ length room
    → write_list (list_u s) (decode s) room ≡ record {
      refusal = Accepted;
      size = length s;
      room = s ++ drop (length s) room;
    }
unfolding laid
read_written s room a h =
    let b = accepted_block s a in
    let v = valid_parts (list_u s) (decode s) b.0 in
    let n : size (list_u s) (length (decode s)) ≡ length s = sym (ap length b.1 ∙ block_size (list_u s) (decode s)) in
    write_laid (list_u s) (decode s) room v.0 v.1 (omega arith) ∙ rw (n, ← b.1)
