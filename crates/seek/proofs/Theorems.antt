-- Of all lists in either form and all sequences of bounds: what seeks answer, how many pages lie below each bound, what
-- they cost, and that neither jumps nor the form change an answer.
use mathlib.Core.Bool.{true}
use mathlib.Core.Path.{◌≡◌, refl, sym, ap, ap₂, ◌∙◌}
use mathlib.Core.List.{List, [], ◌∷◌}
use Prim.Native.Nat.{ℕ, ◌+◌, ◌≤◌}
use native.Mathlib.Omega.{arith}
use lib.ListN.{length}
use Rattle.rules.specs.Limits.{limit}
use Rattle.rules.specs.List.{rising, Form}
use Rattle.rules.specs.ReadList.{list_u, decode}
use Rattle.rules.specs.Seek.{Cursor as Placing, fresh, rank_of, upper_words}
use Rattle.maplaws.specs.Maps.{FormValid}
use Rattle.maplaws.proofs.Theorems.{valid_rising, valid_within}
use Rattle.seeklaws.specs.Cursors.{seek_with, answers, looks_over, firsts, never_down, ranks, belows}
use Rattle.seeklaws.proofs.SeekLaws.{answers_first, jumps_answer, ranks_below, spent_rank, forms_answers}
use Rattle.seeklaws.proofs.LookLaws.{looks_all}
use Rattle.walklaws.specs.declared.Cursor.{Cursor}
use Rattle.walklaws.specs.Cursors.{spent_mark, unused, rule_cursor, Held, found_for, moved_to, found_by, after, founds}
use Rattle.walklaws.proofs.CursorLaws.{held_rule}
use Rattle.walklaws.proofs.MoveLaws.{unused_held, unused_rule, moved_held, moved_rule}
use Rattle.walklaws.proofs.MoveLaws.{moved_seeks, moved_looks, moved_found}

module _ (f : Form) (U : ℕ) (xs : List ℕ) (rises : rising 0 U xs ≡ true) (within : U ≤ limit) where
  founds_rule : (c : Cursor) → Held f U xs c → (bs : List ℕ)
      → founds f U xs c bs ≡ answers f U xs (rule_cursor f U xs c) bs
  unfolding founds answers
  founds_rule c h [] = refl
  founds_rule c h (b ∷ bs) =
      let rest = founds_rule (moved_to f U xs c b) (moved_held f U xs rises within c h b) bs in
      ap₂ ◌∷◌ (moved_found f U xs rises within c h b)
      (rest ∙ ap (λ (a : Placing). answers f U xs a bs) (moved_rule f U xs rises within c h b))

  founds_fresh : (bs : List ℕ) → founds f U xs unused bs ≡ answers f U xs fresh bs
  founds_fresh bs = founds_rule unused (unused_held f U xs) bs
      ∙ ap (λ (a : Placing). answers f U xs a bs) (unused_rule f U xs rises within)

  after_counts : (c : Cursor) → Held f U xs c → (bs : List ℕ) → ((after f U xs c bs).seeks ≡ c.seeks + length bs)
      × ((after f U xs c bs).looks ≡ c.looks + looks_over f U xs (rule_cursor f U xs c) bs)
  unfolding after looks_over
  after_counts c h [] = (omega arith, omega arith)
  after_counts c h (b ∷ bs) =
      let rest = after_counts (moved_to f U xs c b) (moved_held f U xs rises within c h b) bs in
      let same = ap (λ (a : Placing). looks_over f U xs a bs) (moved_rule f U xs rises within c h b) in (
        omega (arith, rest.0, moved_seeks f U xs rises within c h b),
        omega (arith, rest.1, moved_looks f U xs rises within c h b, same),
      )

  fresh_seeks : (bs : List ℕ) → (after f U xs unused bs).seeks ≡ length bs
  unfolding unused
  fresh_seeks bs = omega (arith, (after_counts unused (unused_held f U xs) bs).0)

module _ (f : Form) (s : List ℕ) (valid : FormValid f s) where
  abbrev U : ℕ
  U = list_u s

  abbrev xs : List ℕ
  xs = decode s

  rises : rising 0 U xs ≡ true
  rises = valid_rising f s valid

  within : U ≤ limit
  within = valid_within f s valid

  -- for bounds that never go down each answer is the first page at or after the bound, by plain reading
  pub seeks_find : (bs : List ℕ) → never_down 0 bs ≡ true → founds f U xs unused bs ≡ firsts xs bs
  seeks_find bs n = founds_fresh f U xs rises within bs ∙ answers_first f U xs rises bs n

  -- and its number is how many pages lie below the bound: the rank of the page found or stayed on, or n
  pub seeks_below : (bs : List ℕ) → never_down 0 bs ≡ true → ranks (founds f U xs unused bs) ≡ belows xs bs
  seeks_below bs n = ap ranks (founds_fresh f U xs rises within bs) ∙ ranks_below f U xs rises bs n

  -- a spent cursor says n for any bound
  pub spent_says_all : (c : Cursor) → c.mark ≡ spent_mark → (b : ℕ) → rank_of (found_for f U xs c b) ≡ length xs
  unfolding rule_cursor
  spent_says_all c e b = rw e (spent_rank f U xs rises b)

  -- over any seeks on one cursor the looks are at most the seeks and the words of the run
  pub seeks_cost : (bs : List ℕ) → ((after f U xs unused bs).seeks ≡ length bs)
      × ((after f U xs unused bs).looks ≤ (after f U xs unused bs).seeks + upper_words f U xs)
  unfolding unused
  seeks_cost bs =
      let n = after_counts f U xs rises within unused (unused_held f U xs) bs in
      let e = ap (λ (a : Placing). looks_over f U xs a bs) (unused_rule f U xs rises within) in
      (omega (arith, n.0), omega (arith, n.0, n.1, e, looks_all f U xs rises bs))

  -- jumps cannot change an answer: it is that of the seek with every one read as 0
  pub jumps_change_none : (c : Cursor) (h : Held f U xs c) (b : ℕ)
      → (found_by f U xs (moved_to f U xs c b) ≡ (seek_with (λ b. 0) f U xs h.place b).found)
      × (rule_cursor f U xs (moved_to f U xs c b) ≡ (seek_with (λ b. 0) f U xs h.place b).cursor)
  jumps_change_none c h b =
      let e = held_rule f U xs rises within c h in
      let j = jumps_answer f U xs rises h.place b h.placed in (
        moved_found f U xs rises within c h b ∙ rw e j.0,
        moved_rule f U xs rises within c h b ∙ rw e j.1,
      )

-- one list stored in two forms: the same answers and the same seeks, for bounds in any order; the looks alone may
-- differ
pub forms_change_none : (f g : Form) (s t : List ℕ) → FormValid f s → FormValid g t → list_u s ≡ list_u t
    → decode s ≡ decode t → (bs : List ℕ)
    → (founds f (list_u s) (decode s) unused bs ≡ founds g (list_u t) (decode t) unused bs)
    × ((after f (list_u s) (decode s) unused bs).seeks ≡ (after g (list_u t) (decode t) unused bs).seeks)
forms_change_none f g s t v w u d bs =
    let r = valid_rising g t w in
    let l = valid_within g t w in
    rw (u, d) (
      founds_fresh f (list_u t) (decode t) r l bs ∙ forms_answers f g (list_u t) (decode t) r fresh bs tt
          ∙ sym (founds_fresh g (list_u t) (decode t) r l bs),
      fresh_seeks f (list_u t) (decode t) r l bs ∙ sym (fresh_seeks g (list_u t) (decode t) r l bs),
    )
