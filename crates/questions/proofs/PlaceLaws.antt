-- The question at a place of a run: what the run says from there on, and that a well-formed question has its numbers inside.
use mathlib.Core.Bool.{true, false, ◌&&◌}
use mathlib.Core.Path.{◌≡◌, sym, ap, ap₂, ◌∙◌}
use mathlib.Core.List.{List, ◌∷◌}
use Prim.Native.Nat.{ℕ, ◌+◌, ◌-◌, ◌≤◌, ◌<◌}
use native.Mathlib.Omega.{arith}
use borrow.Author.Tests.{le-leb, lt-leb, leb-true}
use lib.ListN.{length, get_or, take, drop, length-drop}
use lib.Seq.{drop-drop, get_or-drop}
use Rattle.rules.specs.Questions.{good_question, kind_of, count_of, args_of, behind, answer}
use Rattle.listlaws.proofs.RisingLaws.{and_parts}
use Rattle.questions.specs.Formed.{formed, answers_to}
use Rattle.questions.proofs.FrontLaws.{formed_front, answers_front}

module _ (qs : List ℕ) (at : ℕ) where
  kind_at : kind_of (drop at qs) ≡ get_or qs at 0
  unfolding kind_of
  kind_at = get_or-drop at qs 0 0 ∙ ap (λ (i : ℕ). get_or qs i 0) (omega arith)

  pub count_at : count_of (drop at qs) ≡ get_or qs (at + 1) 0
  unfolding count_of
  count_at = get_or-drop at qs 1 0

  -- a question that ends behind the last number is cut short
  pub cut_short : (T : ℕ) → at < length qs → length qs < at + (2 + count_of (drop at qs)) → formed T (drop at qs) ≡ false
  cut_short T h k =
      let l = length-drop at qs in
      rw (
        formed_front T (drop at qs) (omega arith),
        lt-leb (2 + count_of (drop at qs)) (length (drop at qs))
            (omega arith),
      )

  module _ (to : ℕ) (h : at < length qs) (e : to ≡ at + (2 + count_of (drop at qs))) where
    args_at : args_of (drop at qs) ≡ take (to - (at + 2)) (drop (at + 2) qs)
    unfolding args_of
    args_at =
        let c : count_of (drop at qs) ≡ to - (at + 2) = omega arith in
        ap₂ take c (drop-drop 2 at qs)

    behind_at : behind (drop at qs) ≡ drop to qs
    unfolding behind
    behind_at = drop-drop (2 + count_of (drop at qs)) at qs ∙ ap (λ (i : ℕ). drop i qs) (sym e)

    -- one that ends inside is as good as it is by itself, and as what is behind it
    pub formed_at : (T : ℕ) → to ≤ length qs → formed T (drop at qs)
        ≡ good_question T (get_or qs at 0) (take (to - (at + 2)) (drop (at + 2) qs)) && formed T (drop to qs)
    formed_at T k =
        let l = length-drop at qs in
        formed_front T (drop at qs) (omega arith)
        ∙ rw (le-leb (2 + count_of (drop at qs)) (length (drop at qs)) (omega arith), kind_at, args_at, behind_at)

    pub answers_at : (s : List ℕ) → answers_to s (drop at qs)
        ≡ answer s (get_or qs at 0) (take (to - (at + 2)) (drop (at + 2) qs)) ∷ answers_to s (drop to qs)
    answers_at s =
        let l = length-drop at qs in
        answers_front s (drop at qs) (omega arith) ∙ rw (kind_at, args_at, behind_at)

    -- a well-formed question lies inside, is good, and what is behind it is well formed
    pub formed_inside : (T : ℕ) → formed T (drop at qs) ≡ true → to ≤ length qs
    formed_inside T f =
        let l = length-drop at qs in
        let g = and_parts _ _ (sym (formed_front T (drop at qs) (omega arith)) ∙ f) in
        let b = leb-true (2 + count_of (drop at qs)) (length (drop at qs)) g.0 in
        omega arith

    pub formed_good : (T : ℕ) → formed T (drop at qs) ≡ true
        → (good_question T (get_or qs at 0) (take (to - (at + 2)) (drop (at + 2) qs)) ≡ true)
        × (formed T (drop to qs) ≡ true)
    formed_good T f = and_parts _ _ (sym (formed_at T (formed_inside T f)) ∙ f)
