-- Laws of slots: a list's numbers put into one place its block, and the other slots stay as they are.
use mathlib.Core.Path.{◌≡◌, refl, sym, ap, ◌∙◌}
use mathlib.Core.List.{List}
use Prim.Native.Nat.{ℕ, zero, suc, ◌+◌, ◌-◌, ◌*◌, ◌^◌, ◌<◌}
use native.Mathlib.Decide.{ℕ_discrete}
use native.Mathlib.Omega.{arith}
use lib.ListN.{length, get_or, drop, length-drop}
use lib.Seq.{paste, length-paste, length-take-le}
use Rattle.rules.specs.Verdict.{Accepted}
use Rattle.rules.specs.ReadList.{list_u, list_n, form_at, list_refusal}
use Rattle.rules.specs.ReadTerm.{counts_of, positions_of}
use Rattle.rules.specs.Index.{index_v, index_t, term_part, index_refusal}
use Rattle.shape.specs.declared.Shape.{Shape}
use Rattle.shape.specs.Shape.{form_shape}
use Rattle.termlaws.proofs.Theorems.{accepted_lists}
use Rattle.cardlaws.proofs.Theorems.{accepted_term}
use Rattle.readlaws.specs.Open.{Open}
use Rattle.readlaws.proofs.ReadLaws.{open_reads}
use Rattle.readlaws.proofs.FormLaws.{alone_opens}
use Rattle.querylaws.specs.Lists.{number_of, part_at, shape_in}
use Rattle.openlists.specs.Places.{bytes_of, Within, numbers_of}
use Rattle.openlists.proofs.SlotLaws.{paste_in, paste_before}
use Rattle.wordlists.specs.Lying.{list_of, Lying}
use Rattle.openwords.specs.Slots.{Slot, Filled}

-- counts and positions of a word are accepted, in two runs
pub list_accepted : (s : List ℕ) (t k : ℕ) → index_refusal s ≡ Accepted → t < index_t s → 0 < k → k < 3
    → list_refusal (list_of s t k) ≡ Accepted
unfolding list_of counts_of positions_of
list_accepted s t zero a h n l = absurd (omega arith)
list_accepted s t (suc zero) a h n l = (accepted_lists (index_v s) (term_part t s) (accepted_term s a t h).accepts).counts
list_accepted s t (suc (suc zero)) a h n l =
    (accepted_lists (index_v s) (term_part t s) (accepted_term s a t h).accepts).positions
list_accepted s t (suc (suc (suc k))) a h n l = absurd (omega arith)

-- the place of what lies in a card lies in it, whose bytes are fewer than 2 ^ 32
pub place_within : (s b : List ℕ) (from to : ℕ) → length s < 2 ^ 32 → Lying s b from to → Within s from to
place_within s b from to h l = record { starts = l.starts; ends = l.ends; short = omega (arith, l.ends) }

-- a list's shape by its eight numbers
shape_from : (sh : List ℕ) (i : ℕ) (f : ℕ → ℕ) → ((j : ℕ) → j < 8 → number_of sh i j ≡ f j) → shape_in sh i ≡ (record {
  u = f 2;
  n = f 7;
  w = f 3;
  bits = f 4;
  lower = f 5;
  upper = f 6;
  end = f 1 - f 0;
})
unfolding shape_in
shape_from sh i f e = rw (
  e 0 (omega arith),
  e 1 (omega arith),
  e 2 (omega arith),
  e 3 (omega arith),
  e 4 (omega arith),
  e 5 (omega arith),
  e 6 (omega arith),
  e 7 (omega arith),
)

-- a slot is what its numbers are
slot_same : (s sh r : List ℕ) (i : ℕ) (b : List ℕ) → length r ≡ 64
    → ((j : ℕ) → j < 8 → number_of r i j ≡ number_of sh i j) → Slot s sh i b → Slot s r i b
slot_same s sh r i b l e o =
    let p : part_at s r i ≡ part_at s sh i = unfold part_at in rw (e 0 (omega arith), e 1 (omega arith)) in
    let g : shape_in r i ≡ shape_in sh i = unfold shape_in in shape_from r i (number_of sh i) e in
    record {
      block = record {
        room = l;
        few = o.block.few;
        starts = omega (arith, e 0 (omega arith), e 1 (omega arith), o.block.starts);
        ends = omega (arith, e 1 (omega arith), o.block.ends);
        opened = rw (p, g) o.block.opened;
      };
      part_is = p ∙ o.part_is;
    }

module _ (s : List ℕ) (from to : ℕ) (b : List ℕ) (w : Within s from to) (bytes : bytes_of s from to ≡ b)
    (a : list_refusal b ≡ Accepted) where
  abbrev shape : Shape
  shape = form_shape (form_at b) (list_u b) (list_n b)

  abbrev numbers : List ℕ
  numbers = numbers_of from to shape

  opens : Open b shape
  opens = alone_opens b a shape refl

  ends_at : to - from ≡ shape.end
  ends_at =
      let n : length (bytes_of s from to) ≡ to - from =
      length-take-le (to - from) (drop from s) (omega (arith, length-drop from s, w.starts, w.ends)) in
      sym n ∙ ap length bytes ∙ sym (open_reads b shape opens).ends

  slot_made : (sh : List ℕ) (i : ℕ) → length sh ≡ 64 → i < 8 → ((j : ℕ) → j < 8 → number_of sh i j ≡ get_or numbers j 0)
      → Slot s sh i b
  slot_made sh i l h e =
      let p : part_at s sh i ≡ b = unfold part_at in rw (e 0 (omega arith), e 1 (omega arith)) bytes in
      let g : shape_in sh i ≡ shape =
      rw ends_at at (shape_from sh i (λ j. get_or numbers j 0) e) in
      record {
        block = record {
          room = l;
          few = h;
          starts = omega (arith, e 0 (omega arith), e 1 (omega arith), w.starts);
          ends = omega (arith, e 1 (omega arith), w.ends);
          opened = rw (p, g) opens;
        };
        part_is = p;
      }

  module _ (ts : List ℕ) (k t : ℕ) (sh : List ℕ) (few : t < 8) where
    pub filled_more : b ≡ list_of s (get_or ts t 0) k → Filled s ts k t sh
        → Filled s ts k (t + 1) (paste sh (8 * t) numbers 8)
    filled_more is f =
        let room = length-paste sh (8 * t) numbers 8 (omega (arith, f.room)) (omega arith) ∙ f.room in record {
          room = room;
          slot = λ i h. elim (ℕ_discrete i t) [
            | yes e ↦ rw (e, ← is)
                (slot_made (paste sh (8 * t) numbers 8) t room few
                (λ j m. paste_in sh numbers (8 * t) 8 (omega (arith, f.room)) (omega arith) j m))
            | no e ↦
                slot_same s sh (paste sh (8 * t) numbers 8) i (list_of s (get_or ts i 0) k) room
                (λ j m. paste_before sh numbers (8 * t) 8 (omega (arith, f.room)) (omega arith) (8 * i + j)
                (omega arith)) (f.slot i (omega arith))
          ];
        }
