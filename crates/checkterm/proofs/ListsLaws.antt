-- Laws of the three lists of a term as they are checked:
-- each answer, what is left where all have passed, and the term's refusal.
use mathlib.Core.Bool.{cond, not}
use mathlib.Core.Path.{◌≡◌, refl, sym, ap, ◌∙◌}
use mathlib.Core.List.{List}
use Prim.Native.Nat.{ℕ, zero, suc, ◌+◌, ◌≤◌, ◌<◌}
use native.Mathlib.Omega.{arith}
use borrow.Author.Tests.{lt-ltb, le-ltb}
use lib.Dec.{lit<}
use lib.ListN.{length, drop, length-append}
use Rattle.rules.specs.Verdict.{Verdict}
use Rattle.rules.specs.Verdict.{Accepted, Version, Layout, Parts}
use Rattle.rules.specs.Refusal.{and_then}
use Rattle.rules.specs.Limits.{version, last_edition, up_to, list_header, term_header}
use Rattle.rules.specs.ReadList.{stated, list_u, list_n, list_refusal, part_refusal}
use Rattle.rules.specs.Parts.{after, part, inside}
use Rattle.rules.specs.ReadTerm.{lists_of, pages_of, counts_of, positions_of, disagree, term_refusal}
use Rattle.laws.proofs.RefusalLaws.{and_then_next, and_then_assoc, and_then_both}
use Rattle.laws.proofs.HeadLaws.{head_then}
use Rattle.laws.proofs.PartLaws.{part_after, inside_parts, inside_lies}
use Rattle.listlaws.proofs.RefusalLaws.{form_first, part_alone}
use Rattle.parts.specs.Places.{head_refusal, Walkable}
use Rattle.agreeing.specs.Agreeing.{disagreeing}
use Rattle.checkterm.specs.Lists.{list_version, lists_refusal, rest_refusal, ListsIn}

-- ---- one list more, and none

pub lists_more : (v n m : ℕ) (s : List ℕ) → n ≡ suc m
    → lists_refusal v n s ≡ and_then (inside list_header (part_refusal v) s) (lists_refusal version m (drop (stated s) s))
unfolding lists_refusal
lists_more v n m s e = rw e

pub lists_none : (v n : ℕ) (s : List ℕ) → n ≡ 0 → lists_refusal v n s ≡ Accepted
unfolding lists_refusal
lists_none v n s e = rw e

-- ---- all have passed

version_stays : (k : ℕ) → list_version version k ≡ version
version_stays zero = refl
version_stays (suc k) = refl

lists_inside : (v n : ℕ) (s : List ℕ) → lists_refusal v n s ≡ Accepted → (k : ℕ) → k < n
    → inside list_header (part_refusal (list_version v k)) (after k s) ≡ Accepted
unfolding lists_refusal after
lists_inside v zero s e k h = absurd (omega arith)
lists_inside v (suc n) s e zero h =
    (and_then_both (inside list_header (part_refusal v) s) (lists_refusal version n (drop (stated s) s)) e).0
lists_inside v (suc n) s e (suc k) h =
    let i = lists_inside version n (drop (stated s) s)
    (and_then_both (inside list_header (part_refusal v) s) (lists_refusal version n (drop (stated s) s)) e).1 k (omega arith) in
    ap (λ (u : ℕ). inside list_header (part_refusal u) (after k (drop (stated s) s))) (sym (version_stays k)) ∙ i

pub lists_in : (v : ℕ) (s : List ℕ) → lists_refusal v 3 (lists_of s) ≡ Accepted → ListsIn v s
unfolding lists_of part
lists_in v s e k h =
    let u : ℕ = list_version v k in
    let i = inside_parts list_header (part_refusal u) (after k (drop 5 s)) (lists_inside v 3 (drop 5 s) e k h) in
    record { accepts = i.passes; lies = inside_lies list_header (part_refusal u) 5 s k (lit< tt) i }

-- counts and positions are lists in two runs
pub runs_in : (v : ℕ) (s : List ℕ) → ListsIn v s → (k : ℕ) → suc k < 3 → list_refusal (part (suc k) (lists_of s)) ≡ Accepted
runs_in v s l k h =
    let p : List ℕ = part (suc k) (lists_of s) in
    part_alone version p (l (suc k) h).accepts (form_first (list_u p) (list_n p))

pub lists_walk : (v : ℕ) (s : List ℕ) → ListsIn v s → (k : ℕ) → k < 3 → Walkable 5 k s
lists_walk v s l k h i m =
    let y = (l i (omega arith)).lies in
    (omega (arith, y.holds), y.within)

-- the lists of a term
pub disagree_parts : (s p c q : List ℕ) → p ≡ part 0 (drop 5 s) → c ≡ part 1 (drop 5 s) → q ≡ part 2 (drop 5 s)
    → disagreeing p c q ≡ disagree s
unfolding disagree pages_of counts_of positions_of lists_of
disagree_parts s p c q e f g = rw (e, f, g)

-- ---- the term

-- the last list ends before the bytes do, or where they end
module _ (s : List ℕ) where
  left_over : length (part 2 (lists_of s)) + length (after 3 (lists_of s)) ≡ length (after 2 (lists_of s))
  left_over = sym (length-append (part 2 (lists_of s)) (after 3 (lists_of s))) ∙ ap length (part_after 2 (lists_of s))

  pub rest_more : length (part 2 (lists_of s)) < length (after 2 (lists_of s)) → rest_refusal s ≡ Layout
  rest_more h = rw (lt-ltb 0 (length (after 3 (lists_of s))) (omega (arith, left_over)))

  pub rest_none : length (after 2 (lists_of s)) ≤ length (part 2 (lists_of s))
      → rest_refusal s ≡ cond (disagree s) Parts Accepted
  rest_none h = rw (le-ltb 0 (length (after 3 (lists_of s))) (omega (arith, left_over)))

-- the lists one after the other, and then r
abbrev lists_then : (v n : ℕ) (s : List ℕ) (r : Verdict) → Verdict
lists_then v zero s r = r
lists_then v (suc n) s r = and_then (inside list_header (part_refusal v) s) (lists_then version n (drop (stated s) s) r)

then_lists : (v n : ℕ) (s : List ℕ) (r : Verdict) → lists_then v n s r ≡ and_then (lists_refusal v n s) r
unfolding lists_refusal
then_lists v zero s r = sym (and_then_next Accepted r refl)
then_lists v (suc n) s r =
    let q : Verdict = inside list_header (part_refusal v) s in
    ap (and_then q) (then_lists version n (drop (stated s) s) r)
    ∙ sym (and_then_assoc q (lists_refusal version n (drop (stated s) s)) r)

-- the tests behind the version that is told
abbrev pub told : ℕ → List ℕ → Verdict
told v s = and_then (lists_refusal v 3 (lists_of s)) (rest_refusal s)

pub term_then : (v : ℕ) (s : List ℕ) → term_refusal v s
    ≡ and_then (head_refusal term_header version s) (cond (not (up_to last_edition v)) Version (told v s))
unfolding term_refusal after
term_then v s =
    head_then term_header version s
    (cond (not (up_to last_edition v)) Version (lists_then v 3 (lists_of s) (rest_refusal s)))
    ∙ ap (λ (r : Verdict). and_then (head_refusal term_header version s) (cond (not (up_to last_edition v)) Version r))
    (then_lists v 3 (lists_of s) (rest_refusal s))
