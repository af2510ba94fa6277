-- A list that lies in a term that lies in a card.
use mathlib.Core.Bool.{true}
use mathlib.Core.Path.{◌≡◌, sym, ap, ◌∙◌}
use mathlib.Core.List.{List, [], ◌∷◌}
use Prim.Native.Nat.{ℕ, zero, suc, ◌+◌, ◌-◌, ◌*◌, ◌^◌, ◌≤◌, ◌<◌}
use native.Mathlib.Omega.{arith}
use native.Mathlib.Decide.{ℕ_discrete}
use borrow.Author.Tests.{ltb-true}
use lib.Dec.{ltb}
use lib.ListN.{set, length-set, length, get_or, take, drop, length-drop}
use lib.Seq.{get_or-set_same, get_or-set_other, length-take-le, take-take, drop-drop, take-nil}
use Rattle.rules.specs.Verdict.{Accepted}
use Rattle.rules.specs.Bytes.{Bytes, be_at}
use Rattle.rules.specs.Parts.{after, part}
use Rattle.rules.specs.ReadTerm.{lists_of}
use Rattle.rules.specs.Index.{index_refusal}
use Rattle.rules.specs.Questions.{all_below, words_good}
use Rattle.rules.specs.ReadList.{stated}
use Rattle.laws.specs.Blocks.{block_at}
use Rattle.laws.proofs.ByteLaws.{be_at_lt}
use Rattle.laws.proofs.PartLaws.{part_at}
use Rattle.cardlaws.proofs.PassedLaws.{accepted_passed}
use Rattle.parts.specs.Places.{Held, Walkable}
use Rattle.parts.proofs.PlaceLaws.{after_length}
use Rattle.listlaws.proofs.RisingLaws.{and_parts}
use Rattle.questions.proofs.GoodLaws.{words_parts}
use Rattle.wordlists.specs.Lying.{list_of, Lying, AllLying}

drop_take : (a n : ℕ) (s : List ℕ) → drop a (take n s) ≡ take (n - a) (drop a s)
drop_take zero n s = ap (λ (m : ℕ). take m s) (same n)
  where
    same : (n : ℕ) → n ≡ n - 0
    same n = omega arith
drop_take (suc a) zero s = ap (λ (m : ℕ). take m (drop (suc a) s)) (none a)
  where
    none : (a : ℕ) → 0 ≡ 0 - suc a
    none a = omega arith
drop_take (suc a) (suc n) [] = sym (take-nil (suc n - suc a))
drop_take (suc a) (suc n) (x ∷ s) = drop_take a n s ∙ ap (λ (m : ℕ). take m (drop a s)) (same a n)
  where
    same : (a n : ℕ) → n - a ≡ suc n - suc a
    same a n = omega arith

-- a part of a part is a part
part_part : (m a n b : ℕ) (s : List ℕ) → a + m ≤ n → take m (drop a (take n (drop b s))) ≡ take m (drop (b + a) s)
part_part m a n b s h =
    ap (take m) (drop_take a n (drop b s)) ∙ take-take m (n - a) (drop a (drop b s)) (omega arith)
    ∙ ap (take m) (drop-drop a b s)

-- a list that is a part of a term that is a part of the card
module _ (s : List ℕ) (at k : ℕ) (term rest list : List ℕ) (held : Held at s)
    (is-term : term ≡ take (be_at 4 s at) (drop at s)) (walks : Walkable 5 k term)
    (left : rest ≡ after k (lists_of term)) (is_list : list ≡ part k (lists_of term)) where
  pub rest_within : block_at 5 k term + length rest ≡ length term
  unfolding lists_of
  rest_within = rw left (after_length 5 k term walks)

  list_at : list ≡ take (be_at 4 term (block_at 5 k term)) (drop (block_at 5 k term) term)
  unfolding lists_of
  list_at = is_list ∙ part_at 5 term k

  length_list : length list ≡ be_at 4 term (block_at 5 k term)
  length_list =
      ap length list_at
      ∙ length-take-le (be_at 4 term (block_at 5 k term)) (drop (block_at 5 k term) term)
      (omega (arith, walks k (omega arith), length-drop (block_at 5 k term) term))

  length_term : length term ≡ be_at 4 s at
  length_term = ap length is-term ∙ length-take-le (be_at 4 s at) (drop at s) (omega (arith, held, length-drop at s))

  from_is : at + (length term - length rest) ≡ at + block_at 5 k term
  from_is = omega (arith, rest_within)

  list_bytes : take (length list) (drop (at + block_at 5 k term) s) ≡ list
  list_bytes =
      rw length_list (sym (list_at
      ∙ ap (λ (x : List ℕ). take (be_at 4 term (block_at 5 k term)) (drop (block_at 5 k term) x)) is-term
      ∙ part_part (be_at 4 term (block_at 5 k term)) (block_at 5 k term) (be_at 4 s at) at s
      (omega (arith, walks k (omega arith), length_term))))

  pub list_lies : Lying s list (at + (length term - length rest)) (at + (length term - length rest) + length list)
  list_lies =
      let from : ℕ = at + (length term - length rest) in
      let n : from + length list - from ≡ length list = omega arith in
      record {
        starts = omega arith;
        ends = omega (arith, from_is, length_list, length_term, walks k (omega arith), held);
        bytes = rw (n, from_is) list_bytes;
      }

-- each of a question's words is on the card
pub word_below : (T : ℕ) (ts : List ℕ) → words_good T ts ≡ true → (i : ℕ) → i < length ts → get_or ts i 0 < T
unfolding all_below
word_below T ts g i h = go ts (words_parts T ts g).2 i h
  where
    go : (us : List ℕ) → all_below T us ≡ true → (j : ℕ) → j < length us → get_or us j 0 < T
    go [] e j l = absurd (omega arith)
    go (u ∷ us) e zero l = ltb-true u T (and_parts (ltb u T) (all_below T us) e).0
    go (u ∷ us) e (suc j) l = go us (and_parts (ltb u T) (all_below T us) e).1 j (omega arith)

-- one word's place more
pub lying_more : (s ts : List ℕ) (k i : ℕ) (ps : List ℕ) (from to : ℕ) → 2 * i + 1 < length ps → AllLying s ts k i ps
    → Lying s (list_of s (get_or ts i 0) k) from to
    → AllLying s ts k (i + 1) (set (set ps (2 * i) from) (2 * i + 1) to)
lying_more s ts k i ps from to h a l j g =
    elim (ℕ_discrete j i) [
      | yes e ↦
          let x : get_or (set (set ps (2 * i) from) (2 * i + 1) to) (2 * i) 0 ≡ from =
          get_or-set_other (set ps (2 * i) from) (2 * i + 1) (2 * i) to 0 (λ z. omega arith)
          ∙ get_or-set_same ps (2 * i) from 0 (omega arith) in
          let y : get_or (set (set ps (2 * i) from) (2 * i + 1) to) (2 * i + 1) 0 ≡ to =
          get_or-set_same (set ps (2 * i) from) (2 * i + 1) to 0 (rw length-set (omega arith)) in
          rw (e, x, y) l
      | no n ↦
          let x : get_or (set (set ps (2 * i) from) (2 * i + 1) to) (2 * j) 0 ≡ get_or ps (2 * j) 0 =
          get_or-set_other (set ps (2 * i) from) (2 * i + 1) (2 * j) to 0 (λ z. omega arith)
          ∙ get_or-set_other ps (2 * i) (2 * j) from 0 (λ z. omega arith) in
          let y : get_or (set (set ps (2 * i) from) (2 * i + 1) to) (2 * j + 1) 0 ≡ get_or ps (2 * j + 1) 0 =
          get_or-set_other (set ps (2 * i) from) (2 * i + 1) (2 * j + 1) to 0 (λ z. omega arith)
          ∙ get_or-set_other ps (2 * i) (2 * j + 1) from 0 (λ z. omega arith) in
          rw (x, y) (a j (omega arith))
    ]

-- the places of a card fit 32 bits
pub card_short : (s : List ℕ) → Bytes s → index_refusal s ≡ Accepted → length s < 2 ^ 32
unfolding stated
card_short s b a = omega (arith, (accepted_passed s a).head.states, be_at_lt 4 s 0 b)
