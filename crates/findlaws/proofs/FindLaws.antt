-- Laws of finding: the blocks of what is accepted can be walked, and a term
-- found is the block of its word, whatever the terms before it hold.
use mathlib.Core.Path.{◌≡◌, sym, ◌∙◌}
use mathlib.Core.List.{List}
use Prim.Native.Nat.{ℕ, zero, suc, ◌+◌, ◌≤◌, ◌<◌}
use native.Mathlib.Omega.{arith}
use lib.ListN.{length, take, drop}
use Rattle.rules.specs.Verdict.{Accepted}
use Rattle.rules.specs.Bytes.{Bytes, be_at}
use Rattle.rules.specs.Term.{term_block}
use Rattle.rules.specs.ReadTerm.{pages_of, counts_of, positions_of}
use Rattle.rules.specs.Index.{index_v, index_n, index_t, term_part, word_of, index_refusal}
use Rattle.laws.specs.Blocks.{block_at, Lies}
use Rattle.laws.proofs.ByteLaws.{Alike}
use Rattle.laws.proofs.PartLaws.{part_at}
use Rattle.termlaws.proofs.Theorems.{accepted_lists}
use Rattle.cardlaws.specs.Cards.{term_at}
use Rattle.cardlaws.proofs.Theorems.{accepted_term, accepted_part}
use Rattle.parts.specs.Places.{Held, Walkable}
use Rattle.parts.proofs.PlaceLaws.{part_depends}
use Rattle.findlaws.specs.Starts.{Accepts, Starts, TermAt}

-- a block that lies in bytes states four bytes or more, and ends within them
lies_walks : (h p : ℕ) (s b : List ℕ) → 4 ≤ h → Lies h p s b → (4 ≤ be_at 4 s p) × (p + be_at 4 s p ≤ length s)
lies_walks h p s b l i = (omega (arith, i.holds), i.within)

pub index_walks : (s : List ℕ) → index_refusal s ≡ Accepted → (t : ℕ) → t < index_t s → Walkable 11 t s
index_walks s a t h i l =
    lies_walks 44 (block_at 11 i s) s (term_part i s) (omega arith) (accepted_term s a i (omega arith)).lies

pub term_walks : (s : List ℕ) → Accepts s → (k : ℕ) → k < 3 → Walkable 5 k s
term_walks s a k h zero l = lies_walks 13 (block_at 5 0 s) s (pages_of s) (omega arith) (accepted_lists a.version s a.accepted).pages_at
term_walks s a k h (suc zero) l =
    lies_walks 13 (block_at 5 1 s) s (counts_of s) (omega arith) (accepted_lists a.version s a.accepted).counts_at
term_walks s a k h (suc (suc zero)) l =
    lies_walks 13 (block_at 5 2 s) s (positions_of s) (omega arith) (accepted_lists a.version s a.accepted).positions_at
term_walks s a k h (suc (suc (suc i))) l = absurd (omega arith)

-- a term that starts at byte `at` lies within the index, and is its part from there on
pub start_held : (s : List ℕ) (t at : ℕ) → index_refusal s ≡ Accepted → Starts s t at → Held at s
start_held s t at a o = rw o.start (index_walks s a t o.below t (omega arith))

pub start_part : (s : List ℕ) (at : ℕ) → TermAt s at (take (be_at 4 s at) (drop at s))
unfolding term_part
start_part s at t o = rw o.start (sym (part_at 11 s t))

-- A term found is the block of its word.
pub found_block : (s : List ℕ) → Bytes s → index_refusal s ≡ Accepted → (t : ℕ) → t < index_t s → (r : List ℕ)
    → r ≡ term_part t s → r ≡ term_block (index_v s) (index_n s) (word_of t s)
found_block s b a t h r e = e ∙ accepted_part s b a t h

-- It depends on where the terms before it end, and not on what they hold: two accepted
-- indexes whose terms before number t end at one place, and that agree from there as
-- far as that term of the first reaches, have the same term number t.
pub found_depends : (s u : List ℕ) → index_refusal s ≡ Accepted → (t : ℕ) → t < index_t s
    → term_at t s ≡ term_at t u → term_at t s + be_at 4 s (term_at t s) ≤ length u
    → Alike s u (term_at t s) (term_at t s + be_at 4 s (term_at t s)) → term_part t s ≡ term_part t u
unfolding term_part
found_depends s u a t h e room alike =
    let w = index_walks s a t h t (omega arith) in
    part_depends 11 t s u e w.0 w.1 room alike
