-- One page and its starts put behind the pairs found.
use mathlib.Core.Path.{◌≡◌, refl, sym, ap, ◌∙◌}
use mathlib.Core.List.{List, [], ◌∷◌, ◌++◌, append-nil, append_assoc}
use Prim.Native.Nat.{ℕ, suc, ◌+◌, ◌≤◌, ◌<◌}
use native.Mathlib.Omega.{arith}
use borrow.Author.Tests.{lt-ltb}
use lib.ListN.{length, set, drop, length-set, length-append, length-drop}
use Rattle.rules.specs.Write.{laid}
use Rattle.questions.proofs.WroteLaws.{laid_snoc}
use Rattle.trial.specs.Tries.{pair_of, Paired}

module _ (a : List ℕ) (p : ℕ) where
  pub pair_none : (room : List ℕ) → Paired a room p 0 (length a) room
  unfolding pair_of
  pair_none room = record {
    found = ap length (sym (append-nil a));
    same = refl;
    laid = λ first e l. rw (append-nil a) e;
  }

  module _ (n : ℕ) (some : 0 < n) where
    pair_some : pair_of p n ≡ p ∷ (n ∷ [])
    unfolding pair_of
    pair_some = rw (lt-ltb 0 n some)

    pair_length : length (a ++ pair_of p n) ≡ length a + 2
    pair_length = rw pair_some (length-append a (p ∷ (n ∷ [])))

    pub pair_put : (room : List ℕ) → Paired a room p n (length a + 2) (set (set room (length a + 1) p) (length a + 2) n)
    pair_put room = record {
      found = sym pair_length;
      same = length-set (set room (length a + 1) p) (length a + 2) n ∙ length-set room (length a + 1) p;
      laid = λ first e l. put first e (omega (arith, l, pair_length));
    }
      where
        put : (first : List ℕ) → room ≡ laid (0 ∷ a) first → length a + 2 < length first
            → set (set room (length a + 1) p) (length a + 2) n ≡ laid (0 ∷ (a ++ pair_of p n)) first
        put first e l =
            let x = laid_snoc (0 ∷ a) first (length a + 1) p (omega arith) (omega arith) in
            let y =
            laid_snoc (0 ∷ (a ++ (p ∷ []))) first (length a + 2) n (ap suc (length-append a (p ∷ [])) ∙ omega arith)
            l in
            rw (e, pair_some) (ap (λ (r : List ℕ). set r (length a + 2) n) x ∙ y
            ∙ ap (λ (r : List ℕ). laid (0 ∷ r) first) (append_assoc a (p ∷ []) (n ∷ [])))

    pub pair_left : (room : List ℕ) → length room ≤ length a + 2 → Paired a room p n (length a + 2) room
    pair_left room h = record {
      found = sym pair_length;
      same = refl;
      laid = λ first e l. absurd (over first e (omega (arith, l, pair_length)));
    }
      where
        over : (first : List ℕ) → room ≡ laid (0 ∷ a) first → length a + 2 < length first → ⊥
        over first e l = omega (arith, ap length e, h, sized first l)
          where
            sized : (first : List ℕ) → length a + 2 < length first → length (laid (0 ∷ a) first) ≡ length first
            sized first l =
                unfold laid in length-append (0 ∷ a) (drop (length (0 ∷ a)) first)
                ∙ rw (length-drop (length (0 ∷ a)) first) (omega arith)
