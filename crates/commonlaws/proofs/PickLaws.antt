-- Laws of the list that leads and of the others: which it is, and what all lists say of it and them.
use mathlib.Core.Bool.{Bool, true, false, ◌&&◌}
use mathlib.Core.Path.{◌≡◌, refl, sym, ap, ◌∙◌}
use mathlib.Core.List.{List, [], ◌∷◌, ◌++◌}
use Prim.Native.Nat.{ℕ, zero, suc, ◌+◌, ◌≤◌, ◌<◌}
use native.Mathlib.Nat.{add-zero}
use native.Mathlib.Numerals.{add-one}
use native.Mathlib.Decide.{dec_lt, ℕ_discrete}
use native.Mathlib.Omega.{arith}
use borrow.Author.Tests.{lt-ltb, le-ltb}
use lib.ListN.{length, get_or, take, drop, length-drop}
use lib.Seq.{get_or-drop, drop-drop}
use Rattle.rules.specs.List.{rising}
use Rattle.rules.specs.Common.{lead_from, lead_of, lead_pages, other_pages}
use Rattle.rules.specs.Plain.{member, in_all}
use Rattle.commonlaws.specs.Readers.{Rise, words_in, Leads}

-- ---- the shortest list, the first of equals

module _ (all : List (List ℕ)) where
  abbrev size_at : ℕ → ℕ
  size_at j = length (get_or all j [])

  leads_from : (best m i : ℕ) (ls : List (List ℕ)) → drop i all ≡ ls → size_at best ≡ m → best < i → i ≤ length all
      → ((j : ℕ) → j < i → m ≤ size_at j) → ((j : ℕ) → j < best → m < size_at j) → Leads all (lead_from best m i ls)
  unfolding lead_from
  leads_from best m i [] e s h l p q =
      let n : length all ≤ i = omega (arith, length-drop i all, ap length e) in
      record {
        within = omega arith;
        least = λ j g. omega (arith, s, p j (omega arith));
        first = λ j g. omega (arith, s, q j g);
      }
  leads_from best m i (x ∷ ls) e s h l p q =
      let n : i < length all = omega (arith, length-drop i all, ap length e) in
      let here : get_or all i [] ≡ x =
      rw add-zero at (sym (get_or-drop i all 0 []) ∙ ap (λ (y : List (List ℕ)). get_or y 0 []) e) in
      let next : drop (i + 1) all ≡ ls = sym (drop-drop 1 i all) ∙ ap (λ (y : List (List ℕ)). drop 1 y) e in
      let size : size_at i ≡ length x = ap length here in
      elim (dec_lt (length x) m) [
        | yes g ↦
            rw (lt-ltb (length x) m g, lead_from)
            (leads_from i (length x) (i + 1) ls next size (omega arith) (omega arith)
            (upto i (length x) (λ j f. omega (arith, p j f)) (omega (arith, size))) (λ j f. omega (arith, p j f)))
        | no g ↦
            rw (le-ltb (length x) m (omega arith), lead_from)
            (leads_from best m (i + 1) ls next s (omega arith) (omega arith) (upto i m p (omega (arith, size))) q)
      ]
    where
      upto : (i k : ℕ) → ((j : ℕ) → j < i → k ≤ size_at j) → k ≤ size_at i → (j : ℕ) → j < i + 1 → k ≤ size_at j
      upto i k f g j h = elim (ℕ_discrete j i) [ yes d ↦ rw d g | no d ↦ f j (omega (arith, d)) ]

pub lead_leads : (ls : List (List ℕ)) → 0 < length ls → Leads ls (lead_of ls)
unfolding lead_of
lead_leads [] h = absurd (omega arith)
lead_leads (l ∷ ls) h = leads_from (l ∷ ls) 0 (length l) 1 ls refl refl (omega arith) (omega arith)
    (λ j g. let e : j ≡ 0 = omega arith in rw e (omega arith)) (λ j g. absurd (omega arith))

-- ---- one list and the others

pub data Pick : List (List ℕ) → List ℕ → List (List ℕ) → Type 0 where
  here : {l : List ℕ} {ls : List (List ℕ)} → Pick (l ∷ ls) l ls
  there : {l p : List ℕ} {ls rest : List (List ℕ)} → Pick ls p rest → Pick (l ∷ ls) p (l ∷ rest)

pick_at : (ls : List (List ℕ)) (l : ℕ) → l < length ls → Pick ls (get_or ls l []) (take l ls ++ drop (suc l) ls)
pick_at [] l h = absurd (omega arith)
pick_at (x ∷ ls) zero h = here
pick_at (x ∷ ls) (suc l) h = there (pick_at ls l (omega arith))

pub lead_picked : (ls : List (List ℕ)) → 0 < length ls → Pick ls (lead_pages ls) (other_pages ls)
unfolding lead_pages other_pages
lead_picked ls h = rw (add-one (lead_of ls)) (pick_at ls (lead_of ls) (lead_leads ls h).within)

swap : (a b c : Bool) → a && (b && c) ≡ b && (a && c)
swap true b c = refl
swap false true c = refl
swap false false c = refl

pub pick_in_all : (x : ℕ) {ls rest : List (List ℕ)} {p : List ℕ} → Pick ls p rest
    → member x p && in_all x rest ≡ in_all x ls
unfolding in_all
pick_in_all x here = refl
pick_in_all x (there {l = l} {p = p} {rest = rest} k) =
    swap (member x p) (member x l) (in_all x rest) ∙ ap (λ (b : Bool). member x l && b) (pick_in_all x k)

pub pick_words : (v U : ℕ) {ls rest : List (List ℕ)} {p : List ℕ} → Pick ls p rest → words_in v U (p ∷ rest) ≡ words_in v U ls
unfolding words_in
pick_words v U here = refl
pick_words v U (there k) = omega (arith, pick_words v U k)

pub pick_length : {ls rest : List (List ℕ)} {p : List ℕ} → Pick ls p rest → 1 + length rest ≡ length ls
pick_length here = omega arith
pick_length (there k) = omega (arith, pick_length k)

pub pick_rise : (U : ℕ) {ls rest : List (List ℕ)} {p : List ℕ} → Pick ls p rest → Rise U ls
    → (rising 0 U p ≡ true) × Rise U rest
pick_rise U here r = r
pick_rise U (there k) r =
    let t = pick_rise U k r.1 in
    (t.0, (r.0, t.1))
