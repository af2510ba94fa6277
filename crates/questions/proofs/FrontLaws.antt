-- How a run of questions opens at its front: as many turns as it has numbers are enough, for each question takes two or more.
use mathlib.Core.Bool.{◌&&◌}
use mathlib.Core.Path.{◌≡◌, refl, sym, ap, ◌∙◌}
use mathlib.Core.List.{List, [], ◌∷◌}
use Prim.Native.Nat.{ℕ, zero, suc, ◌+◌, ◌≤◌, ◌<◌}
use native.Mathlib.Omega.{arith}
use borrow.Author.Tests.{ne_eqb}
use lib.Dec.{leb}
use lib.ListN.{length, length-drop}
use Rattle.rules.specs.Questions.{good_question, kind_of, count_of, args_of, behind, answer, well_formed, replies}
use Rattle.questions.specs.Formed.{formed, answers_to}

behind_shorter : (x : ℕ) (qs : List ℕ) → length (behind (x ∷ qs)) ≤ length qs
unfolding behind
behind_shorter x qs = rw length-drop (omega arith)

module _ (T : ℕ) where
  formed_turns : (f g : ℕ) (qs : List ℕ) → length qs ≤ f → length qs ≤ g → well_formed T f qs ≡ well_formed T g qs
  unfolding well_formed
  formed_turns zero zero qs h k = refl
  formed_turns zero (suc g) [] h k = refl
  formed_turns (suc f) zero [] h k = refl
  formed_turns (suc f) (suc g) [] h k = refl
  formed_turns zero (suc g) (x ∷ qs) h k = absurd (omega arith)
  formed_turns (suc f) zero (x ∷ qs) h k = absurd (omega arith)
  formed_turns (suc f) (suc g) (x ∷ qs) h k =
      let b = behind_shorter x qs in
      rw (formed_turns f g (behind (x ∷ qs)) (omega arith) (omega arith))

  pub formed_front : (qs : List ℕ) → 0 < length qs → formed T qs
      ≡ leb (2 + count_of qs) (length qs) && (good_question T (kind_of qs) (args_of qs) && formed T (behind qs))
  unfolding formed well_formed
  formed_front [] h = absurd (omega arith)
  formed_front (x ∷ qs) h =
      rw (
        ne_eqb (length (x ∷ qs)) 0 (λ e. omega arith),
        formed_turns (length qs) (length (behind (x ∷ qs)))
            (behind (x ∷ qs)) (behind_shorter x qs) (omega arith),
      )

module _ (s : List ℕ) where
  answers_turn : (f x : ℕ) (qs : List ℕ) → replies s (suc f) (x ∷ qs)
      ≡ answer s (kind_of (x ∷ qs)) (args_of (x ∷ qs)) ∷ replies s f (behind (x ∷ qs))
  unfolding replies
  answers_turn f x qs = rw (ne_eqb (length (x ∷ qs)) 0 (λ e. omega arith), replies)

  answers_turns : (f g : ℕ) (qs : List ℕ) → length qs ≤ f → length qs ≤ g → replies s f qs ≡ replies s g qs
  unfolding replies
  answers_turns zero zero qs h k = refl
  answers_turns zero (suc g) [] h k = refl
  answers_turns (suc f) zero [] h k = refl
  answers_turns (suc f) (suc g) [] h k = refl
  answers_turns zero (suc g) (x ∷ qs) h k = absurd (omega arith)
  answers_turns (suc f) zero (x ∷ qs) h k = absurd (omega arith)
  answers_turns (suc f) (suc g) (x ∷ qs) h k =
      let b = behind_shorter x qs in
      answers_turn f x qs
      ∙ ap (λ (l : List (List ℕ)). answer s (kind_of (x ∷ qs)) (args_of (x ∷ qs)) ∷ l)
      (answers_turns f g (behind (x ∷ qs)) (omega arith) (omega arith))
      ∙ sym (answers_turn g x qs)

  pub answers_front : (qs : List ℕ) → 0 < length qs → answers_to s qs
      ≡ answer s (kind_of qs) (args_of qs) ∷ answers_to s (behind qs)
  unfolding answers_to
  answers_front [] h = absurd (omega arith)
  answers_front (x ∷ qs) h =
      answers_turn (length qs) x qs
      ∙ ap (λ (l : List (List ℕ)). answer s (kind_of (x ∷ qs)) (args_of (x ∷ qs)) ∷ l)
      (answers_turns (length qs) (length (behind (x ∷ qs))) (behind (x ∷ qs)) (behind_shorter x qs) (omega arith))
