-- Laws of a run of one page: it follows a session exactly where each test of a single page holds, and the base behind
-- it. FollowLaws has those of any run.
use mathlib.Core.Bool.{Bool, true, false}
use mathlib.Core.Path.{◌≡◌, refl, sym, ap, ◌∙◌}
use mathlib.Core.List.{List, [], ◌∷◌}
use Prim.Native.Nat.{ℕ, ◌+◌, ◌-◌, ◌≤◌, ◌<◌}
use native.Mathlib.Omega.{arith}
use borrow.Author.Tests.{lt-ltb, le-leb}
use lib.ListN.{length, get_or}
use lib.Seq.{take_all}
use Rattle.std.specs.Prelude.{Some, None}
use Rattle.rules.specs.declared.Stream.{Stream}
use Rattle.rules.specs.List.{rising}
use Rattle.rules.specs.Term.{Word, lent_word, total, next, placed, positive, in_order, in_order_by_page}
use Rattle.rules.specs.Stream.{follows}
use Rattle.listlaws.proofs.RisingLaws.{rising_at}
use Rattle.termlaws.proofs.OrderLaws.{rising_order, order_rising}
use Rattle.termlaws.proofs.WordLaws.{agreeing_valid}
use Rattle.wordlaws.proofs.CheckLaws.{next_last, next_page}
use Rattle.wordlaws.proofs.LayLaws.{positive_at}
use Rattle.addlaws.proofs.MoreLaws.{total_one, placed_one}
use Rattle.sessionlaws.specs.Follow.{Following, Followed}
use Rattle.sessionlaws.proofs.LiveLaws.{and_true}
use Rattle.sessionlaws.proofs.FollowLaws.{starts_some, follows_last, none_follow}
use Rattle.sessionlaws.proofs.PutLaws.{following}

-- the tests of a page ps with the counts cs and the positions qs
pub record PageFollows (s : Stream) (ps cs qs : List ℕ) : Type 0 where
  pub pages : s.laid < s.pages
  pub positions : s.filled + length qs ≤ s.positions
  pub counts : length cs ≡ 1
  pub count : get_or cs 0 0 ≡ length qs
  pub some : 0 < length qs
  pub seam : s.page ≤ get_or ps 0 0
  pub below : get_or ps 0 0 < s.n
  pub base : s.base ≤ s.u
  pub rises : rising 0 (s.u - s.base) qs ≡ true

rising_one : (lo N : ℕ) (ps : List ℕ) → length ps ≡ 1 → lo ≤ get_or ps 0 0 → get_or ps 0 0 < N → rising lo N ps ≡ true
unfolding rising
rising_one lo N [] e l h = absurd (omega arith)
rising_one lo N (p ∷ []) e l h = rw (le-leb lo p l, lt-ltb p N h)
rising_one lo N (p ∷ (q ∷ ps)) e l h = absurd (omega arith)

positive_one : (cs : List ℕ) → length cs ≡ 1 → 0 < get_or cs 0 0 → positive cs ≡ true
unfolding positive
positive_one [] e h = absurd (omega arith)
positive_one (c ∷ []) e h = rw (lt-ltb 0 c h)
positive_one (c ∷ (d ∷ cs)) e h = absurd (omega arith)

order_one : (cs qs : List ℕ) → length cs ≡ 1 → total cs ≡ length qs → in_order_by_page cs qs ≡ in_order 0 qs
unfolding in_order_by_page total
order_one [] qs e f = absurd (omega arith)
order_one (c ∷ []) qs e f = and_true (in_order 0 _) ∙ ap (in_order 0) (take_all c qs (omega arith))
order_one (c ∷ (d ∷ cs)) qs e f = absurd (omega arith)

next_one : (b : ℕ) (cs qs : List ℕ) → length cs ≡ 1 → total cs ≡ length qs → next b (placed b cs qs) ≡ b + next 0 qs
next_one b cs qs e f = ap (next b) (placed_one b cs qs e f) ∙ next_page b qs

module _ (s : Stream) (ps cs qs : List ℕ) (one : length ps ≡ 1) where
  abbrev t : Word
  t = lent_word ps cs qs

  page_tests : Following s t → PageFollows s ps cs qs
  page_tests f =
      let a = f.agreeing in
      let c : length cs ≡ 1 = sym a.lengths ∙ one in
      let n = next_one s.base cs qs c a.summed in
      let r = rising_at s.page s.n ps f.seam 0 (omega arith) in
      record {
        pages = omega (arith, f.pages);
        positions = f.positions;
        counts = c;
        count = sym (total_one cs c) ∙ a.summed;
        some = omega (arith, positive_at cs a.counted 0 (omega arith), total_one cs c, a.summed);
        seam = omega (arith, r.0);
        below = r.1;
        base = omega (arith, n, f.ends);
        rises = order_rising 0 (s.u - s.base) qs (sym (order_one cs qs c a.summed) ∙ a.ordered)
            (omega (arith, n, f.ends));
      }

  pub page_refused : (PageFollows s ps cs qs → ⊥) → Followed s t None
  page_refused h = none_follow s t (go (follows s t) (λ e. h (page_tests (following s t e))))
    where
      go : (b : Bool) → (b ≡ true → ⊥) → b ≡ false
      go true h = absurd (h refl)
      go false h = refl

  module _ (p : PageFollows s ps cs qs) where
    summed : total cs ≡ length qs
    summed = total_one cs p.counts ∙ p.count

    ordered : (in_order 0 qs ≡ true) × (next 0 qs ≤ s.u - s.base)
    ordered = rising_order 0 (s.u - s.base) qs (omega arith) p.rises

    end : next s.base (placed s.base cs qs) ≡ s.base + next 0 qs
    end = next_one s.base cs qs p.counts summed

    may : follows s t ≡ true
    may =
        follows_last s t
        (agreeing_valid s.n t (record {
          lengths = one ∙ sym p.counts;
          rises = rising_one 0 s.n ps one (omega arith) p.below;
          counted = positive_one cs p.counts (omega (arith, p.count, p.some));
          summed = summed;
          ordered = order_one cs qs p.counts summed ∙ ordered.0;
        }))
        (starts_some s.page ps (omega arith) ∙ le-leb s.page (get_or ps 0 0) p.seam)
        (omega (arith, p.pages))
        p.positions
        ∙ le-leb _ s.u (omega (arith, end, p.base, ordered.1))

    pub page_follows : Followed s t (Some (s.base + get_or qs (length qs - 1) 0 + 1))
    page_follows =
        let e : s.base + get_or qs (length qs - 1) 0 + 1 ≡ next s.base (placed s.base cs qs) =
        omega (arith, end, next_last 0 qs (length qs - 1) (omega (arith, p.some))) in
        rw (may, e)
