-- The theorems of one list in either form, each in a sentence; a list alone has its own in listlaws.
use mathlib.Core.Bool.{Bool, true, false, cond, ◌&&◌}
use mathlib.Core.Logic.{◌↔◌}
use mathlib.Core.Path.{◌≡◌, refl, sym, ap, ap₂, ◌∙◌}
use mathlib.Core.List.{List}
use Prim.Native.Nat.{ℕ, ◌≤◌, ◌<◌}
use native.Mathlib.Decide.{dec_lt}
use native.Mathlib.Omega.{arith}
use borrow.Author.Tests.{le-ltb}
use lib.Dec.{leb}
use lib.ListN.{length}
use Rattle.rules.specs.Verdict.{Accepted}
use Rattle.rules.specs.Limits.{limit, map_edition}
use Rattle.rules.specs.Bytes.{Bytes, same}
use Rattle.rules.specs.List.{rising, valid_list, Form, two_runs, bitmap, dense, form_of, form_block}
use Rattle.rules.specs.ReadList.{list_u, list_n, form_at, decode, is_block, list_refusal, part_refusal}
use Rattle.listlaws.proofs.RisingLaws.{and_parts}
use Rattle.listlaws.proofs.BlockLaws.{same_eq, same_refl}
use Rattle.listlaws.proofs.RefusalLaws.{framed_form, alone_accepted, alone_framed, part_accepted, part_framed}
use Rattle.listlaws.proofs.ValidLaws.{valid_parts, valid_from}
use Rattle.maplaws.specs.Maps.{FormValid}
use Rattle.maplaws.proofs.FormLaws.{form_bytes, form_at_lem, form_U, form_n, form_decode, form_framed}

-- ---- forms

runs_no_map : two_runs ≡ bitmap → ⊥
runs_no_map e = let x : ◌≡◌ {A = ℕ} 0 1 = cc in absurd (omega arith)

-- An index stores no list without an element as a bitmap.
dense_some : (v U n : ℕ) → form_of v U n ≡ bitmap → 0 < n
unfolding form_of dense
dense_some v U n e = elim (dec_lt 0 n) [
  | yes h ↦ h
  | no h ↦ absurd (runs_no_map (sym (rw (le-ltb 0 n (omega arith)) (go (leb map_edition v))) ∙ e))
]
  where
    go : (b : Bool) → cond (b && false) bitmap two_runs ≡ two_runs
    go true = refl
    go false = refl

-- ---- a block in its form

-- A block is that of one valid list in one form alone: its bytes tell the form, U and the elements.
pub form_tells : (s : List ℕ) (f : Form) (U : ℕ) (xs : List ℕ) → valid_list U xs ≡ true → s ≡ form_block f U xs
    → (f ≡ form_at s) × (U ≡ list_u s) × (xs ≡ decode s)
form_tells s f U xs v e = (
  sym (ap form_at e ∙ form_at_lem f U xs),
  sym (ap list_u e ∙ form_U f U xs v),
  sym (ap decode e ∙ form_decode f U xs v),
)

-- Two valid lists with one block are one, in one form.
pub form_unique : (f g : Form) (U Y : ℕ) (xs ys : List ℕ) → valid_list U xs ≡ true → valid_list Y ys ≡ true
    → form_block f U xs ≡ form_block g Y ys → (f ≡ g) × (U ≡ Y) × (xs ≡ ys)
form_unique f g U Y xs ys v y e =
    let a = form_tells (form_block f U xs) f U xs v refl in
    let b = form_tells (form_block f U xs) g Y ys y e in
    (a.0 ∙ sym b.0, a.1 ∙ sym b.1, a.2 ∙ sym b.2)

-- The block of a valid list is a valid block.
pub block_valid : (f : Form) (U : ℕ) (xs : List ℕ) → valid_list U xs ≡ true → (f ≡ bitmap → 0 < length xs)
    → FormValid f (form_block f U xs)
unfolding is_block
block_valid f U xs v some = record {
  framed = form_framed f U xs v;
  whole = rw (form_decode f U xs v, form_U f U xs v, (valid_parts U xs v).1) (same_refl (form_block f U xs));
  some = λ e. rw (form_n f U xs v) (some e);
}

module _ (f : Form) (s : List ℕ) (a : FormValid f s) where
  -- A valid block is that of the valid list that is read of it.
  pub valid_block : (valid_list (list_u s) (decode s) ≡ true) × (s ≡ form_block f (list_u s) (decode s))
  unfolding is_block
  valid_block =
      let p = and_parts (rising 0 (list_u s) (decode s)) (same s (form_block f (list_u s) (decode s))) a.whole in
      (valid_from (list_u s) (decode s) a.framed.within p.0, same_eq s (form_block f (list_u s) (decode s)) p.1)

  pub valid_rising : rising 0 (list_u s) (decode s) ≡ true
  valid_rising = (valid_parts (list_u s) (decode s) valid_block.0).1

  pub valid_length : length (decode s) ≡ list_n s
  valid_length = sym (ap list_n valid_block.1 ∙ form_n f (list_u s) (decode s) valid_block.0)

  pub valid_within : list_u s ≤ limit
  valid_within = a.framed.within

  pub valid_fits : list_n s ≤ list_u s
  valid_fits = a.framed.below

  pub valid_bytes : Bytes s
  valid_bytes = rw valid_block.1 (form_bytes f (list_u s) (decode s))

  pub valid_form : form_at s ≡ f
  valid_form = framed_form f s a.framed

-- Valid in two runs is what a list alone has to be.
pub valid_alone : (s : List ℕ) → (FormValid two_runs s) ↔ (list_refusal s ≡ Accepted)
valid_alone s = (
  λ a. alone_accepted s a.framed a.whole,
  λ e. let p = alone_framed s e in record { framed = p.0; whole = p.1; some = λ z. absurd (runs_no_map z) },
)

-- ---- a list in a term

module _ (v : ℕ) (s : List ℕ) where
  abbrev form : Form
  form = form_of v (list_u s) (list_n s)

  pub part_valid : part_refusal v s ≡ Accepted → FormValid (form_of v (list_u s) (list_n s)) s
  part_valid e =
      let p = part_framed v s e in
      record { framed = p.0; whole = p.1; some = dense_some v (list_u s) (list_n s) }

  pub valid_part : (f : Form) → form_of v (list_u s) (list_n s) ≡ f → FormValid f s → part_refusal v s ≡ Accepted
  valid_part f g a = part_accepted v s f g a.framed a.whole

  -- What is accepted is the block of the valid list that is read of it, in the form that its place asks for.
  pub part_block : part_refusal v s ≡ Accepted → (valid_list (list_u s) (decode s) ≡ true)
      × (s ≡ form_block (form_of v (list_u s) (list_n s)) (list_u s) (decode s))
  part_block e = valid_block form s (part_valid e)

  pub part_rising : part_refusal v s ≡ Accepted → rising 0 (list_u s) (decode s) ≡ true
  part_rising e = valid_rising form s (part_valid e)

  pub part_length : part_refusal v s ≡ Accepted → length (decode s) ≡ list_n s
  part_length e = valid_length form s (part_valid e)

  pub part_bytes : part_refusal v s ≡ Accepted → Bytes s
  part_bytes e = valid_bytes form s (part_valid e)

-- The block of a valid list in that form is accepted.
pub block_part : (v U : ℕ) (xs : List ℕ) → valid_list U xs ≡ true
    → part_refusal v (form_block (form_of v U (length xs)) U xs) ≡ Accepted
block_part v U xs a =
    let f : Form = form_of v U (length xs) in
    valid_part v (form_block f U xs) f (ap₂ (form_of v) (form_U f U xs a) (form_n f U xs a))
    (block_valid f U xs a (dense_some v U (length xs)))

-- Accepted are the blocks of valid lists in the form that their place asks for, and nothing else.
pub part_iff : (v : ℕ) (s : List ℕ) → (part_refusal v s ≡ Accepted)
    ↔ ((U : ℕ) × (xs : List ℕ) × (valid_list U xs ≡ true) × (s ≡ form_block (form_of v U (length xs)) U xs))
part_iff v s = (
  λ e.
      let b = part_block v s e in
      (list_u s, decode s, b.0, rw (part_length v s e) b.1),
  λ b. ap (part_refusal v) b.3 ∙ block_part v b.0 b.1 b.2,
)
