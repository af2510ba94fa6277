-- The theorems of one list, each in a sentence.
use mathlib.Core.Bool.{true}
use mathlib.Core.Logic.{◌↔◌}
use mathlib.Core.Path.{◌≡◌, refl, sym, ap, ◌∙◌}
use mathlib.Core.List.{List}
use Prim.Native.Nat.{ℕ}
use Rattle.rules.specs.Verdict.{Accepted}
use Rattle.rules.specs.Bytes.{Bytes, same}
use Rattle.rules.specs.List.{rising, valid_list, block, two_runs}
use Rattle.rules.specs.ReadList.{list_u, decode, is_block, list_refusal}
use Rattle.listlaws.proofs.RisingLaws.{and_parts}
use Rattle.listlaws.proofs.BlockLaws.{block_bytes, same_eq, same_refl}
use Rattle.listlaws.proofs.RefusalLaws.{alone_accepted, alone_framed}
use Rattle.listlaws.proofs.ValidLaws.{valid_parts, valid_from, valid_U, valid_read, valid_framed}

-- Reading the block of a valid list gives the list.
pub decode_block : (U : ℕ) (xs : List ℕ) → valid_list U xs ≡ true → decode (block U xs) ≡ xs
decode_block U xs v = valid_read U xs v

-- A block is that of one valid list alone: its bytes tell U and the elements.
pub block_tells : (s : List ℕ) (U : ℕ) (xs : List ℕ) → valid_list U xs ≡ true → s ≡ block U xs
    → (U ≡ list_u s) × (xs ≡ decode s)
block_tells s U xs v e = (sym (ap list_u e ∙ valid_U U xs v), sym (ap decode e ∙ decode_block U xs v))

-- Two valid lists with one block are one.
pub block_unique : (U Y : ℕ) (xs ys : List ℕ) → valid_list U xs ≡ true → valid_list Y ys ≡ true → block U xs ≡ block Y ys
    → (U ≡ Y) × (xs ≡ ys)
block_unique U Y xs ys v y e =
    let a = block_tells (block U xs) U xs v refl in
    let b = block_tells (block U xs) Y ys y e in
    (a.0 ∙ sym b.0, a.1 ∙ sym b.1)

-- What is accepted is the block of the valid list that is read of it.
pub accepted_block : (s : List ℕ) → list_refusal s ≡ Accepted
    → (valid_list (list_u s) (decode s) ≡ true) × (s ≡ block (list_u s) (decode s))
unfolding is_block
accepted_block s a =
    let f = alone_framed s a in
    let p = and_parts (rising 0 (list_u s) (decode s)) (same s (block (list_u s) (decode s))) f.1 in
    (valid_from (list_u s) (decode s) f.0.within p.0, same_eq s (block (list_u s) (decode s)) p.1)

-- The block of a valid list is accepted.
pub block_accepted : (U : ℕ) (xs : List ℕ) → valid_list U xs ≡ true → list_refusal (block U xs) ≡ Accepted
unfolding is_block
block_accepted U xs v =
    alone_accepted (block U xs) (valid_framed U xs v)
    (rw (decode_block U xs v, valid_U U xs v, (valid_parts U xs v).1) (same_refl (block U xs)))

-- Accepted are the blocks of valid lists, and nothing else.
pub accepted_iff : (s : List ℕ)
    → (list_refusal s ≡ Accepted) ↔ ((U : ℕ) × (xs : List ℕ) × (valid_list U xs ≡ true) × (s ≡ block U xs))
accepted_iff s = (
  λ a. (list_u s, decode s, (accepted_block s a).0, (accepted_block s a).1),
  λ b. ap list_refusal b.3 ∙ block_accepted b.0 b.1 b.2,
)

-- What is accepted are bytes, each below 256.
pub accepted_bytes : (s : List ℕ) → list_refusal s ≡ Accepted → Bytes s
accepted_bytes s a = rw (accepted_block s a).1 (block_bytes (list_u s) (decode s))
