-- The answer of common pages in its room.
use mathlib.Core.Path.{◌≡◌, refl, ap, ◌∙◌}
use mathlib.Core.List.{List, [], ◌∷◌, ◌++◌}
use Prim.Native.Nat.{ℕ, ◌+◌, ◌-◌, ◌≤◌}
use native.Mathlib.Omega.{arith}
use borrow.Rule.Slice.PartMut.{mid_of, put_mid}
use lib.ListN.{length, take, drop, set, length-drop}
use Rattle.rules.specs.Write.{laid}
use Rattle.rules.specs.Index.{index_v, index_n}
use Rattle.rules.specs.Common.{Tally}
use Rattle.rules.specs.Questions.{lists_in, numbered, by_common}
use Rattle.commonlaws.proofs.CommonLaws.{common_listed}
use Rattle.querylaws.specs.Listings.{whole_in, laid_within}
use Rattle.querylaws.proofs.ListingLaws.{laid_within_all}
use Rattle.wordlists.specs.Opened.{OpenedPages}
use Rattle.wordlists.proofs.OpenLaws.{opened_some, opened_whole}
use Rattle.std.specs.Prelude.{Some}
use Rattle.questions.specs.Wrote.{Wrote}
use Rattle.questions.proofs.WroteLaws.{tail_part, tail_back}
use Rattle.bycommon.specs.Tallies.{tallied}

-- three numbers in front of a list that is laid behind them
front_laid : (a b c : ℕ) (xs room : List ℕ) → 3 ≤ length room
    → set (set (set (take 3 room ++ laid xs (drop 3 room)) 0 a) 1 b) 2 c ≡ laid (a ∷ b ∷ c ∷ xs) room
unfolding laid
front_laid a b c xs [] h = absurd (omega arith)
front_laid a b c xs (x ∷ []) h = absurd (omega arith)
front_laid a b c xs (x ∷ y ∷ []) h = absurd (omega arith)
front_laid a b c xs (x ∷ y ∷ z ∷ room) h = refl

-- the answer, once its pages are listed behind its first three numbers
pub put_tally : (t : Tally) (room ys : List ℕ) (n a b : ℕ) → length t.listed + 3 ≤ length room → ys
    ≡ laid_within t.listed (mid_of 3 (length room - 3) room)
    → n ≡ length t.listed → a ≡ t.seeks → b ≡ t.looks
    → Wrote (tallied t) room (Some (n + 3)) (set (set (set (put_mid 3 (length room - 3) room ys) 0 (n + 2)) 1 a) 2 b)
unfolding tallied numbered
put_tally t room ys n a b h e f g k =
    let whole = laid_within_all t.listed (drop 3 room) (omega (arith, length-drop 3 room)) in
    let y : ys ≡ laid t.listed (drop 3 room) = rw (tail_part 3 room) at e ∙ whole in
    let m : n + 2 ≡ length (t.seeks ∷ t.looks ∷ t.listed) = omega arith in
    let l : put_mid 3 (length room - 3) room ys ≡ take 3 room ++ laid t.listed (drop 3 room) =
    tail_back 3 room ys ∙ ap (λ (z : List ℕ). take 3 room ++ z) y in (
      omega arith,
      omega arith,
      rw (l, m, g, k) (front_laid (length (t.seeks ∷ t.looks ∷ t.listed)) t.seeks t.looks t.listed room (omega arith)),
    )

-- ---- the words' lists, opened

module _ (s ts r : List ℕ) (o : OpenedPages s ts r) where
  pub opened_answer : tallied (whole_in s r (length ts)) ≡ by_common (index_v s) (index_n s) (lists_in s ts)
  unfolding tallied by_common
  opened_answer =
      rw (opened_whole s ts r o, common_listed (index_v s) (index_n s) (lists_in s ts) (opened_some s ts r o) o.rise)

pub length_tallied : (t : Tally) → length (tallied t) ≡ length t.listed + 3
unfolding tallied numbered
length_tallied t = omega arith
