-- Laws of a run of postings: when it may follow a session's, one test after the other, and what it then tells.
use mathlib.Core.Bool.{Bool, true, false}
use mathlib.Core.Path.{◌≡◌, refl, sym, ap, ◌∙◌}
use mathlib.Core.List.{List, [], ◌∷◌}
use Prim.Native.Nat.{ℕ, ◌+◌, ◌≤◌, ◌<◌, min}
use native.Mathlib.Nat.{zero-add}
use native.Mathlib.Decide.{dec_lt}
use native.Mathlib.Omega.{arith}
use borrow.Author.Tests.{lt-ltb, le-leb, lt-leb, leb-true}
use lib.Dec.{leb}
use lib.ListN.{length, get_or}
use Rattle.std.specs.Prelude.{Some, None}
use Rattle.std.specs.Bool.{then_some}
use Rattle.rules.specs.declared.Stream.{Stream}
use Rattle.rules.specs.Limits.{limit}
use Rattle.rules.specs.List.{rising}
use Rattle.rules.specs.Term.{Word, next, placed, places, valid_word}
use Rattle.rules.specs.Stream.{follows}
use Rattle.listlaws.proofs.RisingLaws.{rising_parts}
use Rattle.termlaws.proofs.WordLaws.{valid_agreeing}
use Rattle.wordlaws.specs.Reach.{capped}
use Rattle.wordlaws.proofs.CheckLaws.{spanned, next_placed}
use Rattle.sessionlaws.specs.Follow.{starts, Followed}
use Rattle.sessionlaws.proofs.LiveLaws.{and_false, and_true}

-- pages that rise from 0 rise from where they start
pub starts_rising : (lo N : ℕ) (xs : List ℕ) → rising 0 N xs ≡ true → rising lo N xs ≡ starts lo xs
unfolding rising starts
starts_rising lo N [] r = refl
starts_rising lo N (x ∷ xs) r =
    let t = rising_parts 0 N x xs r in
    rw (lt-ltb x N t.1, t.2) (and_true (leb lo x))

pub starts_none : (lo : ℕ) (xs : List ℕ) → length xs ≡ 0 → starts lo xs ≡ true
unfolding starts
starts_none lo [] e = refl
starts_none lo (x ∷ xs) e = absurd (omega arith)

pub starts_some : (lo : ℕ) (xs : List ℕ) → 0 < length xs → starts lo xs ≡ leb lo (get_or xs 0 0)
unfolding starts
starts_some lo [] h = absurd (omega arith)
starts_some lo (x ∷ xs) h = refl

pub next_none : (lo : ℕ) (xs : List ℕ) → length xs ≡ 0 → next lo xs ≡ lo
unfolding next
next_none lo [] e = refl
next_none lo (x ∷ xs) e = absurd (omega arith)

module _ (s : Stream) (t : Word) where
  -- the base behind the postings
  abbrev end : ℕ
  end = next s.base (placed s.base t.counts t.positions)

  abbrev rises : Bool
  rises = rising s.page s.n t.pages

  pub follows_pages : s.pages < s.laid + length t.pages → follows s t ≡ false
  unfolding follows
  follows_pages h =
      rw (lt-leb (s.laid + length t.pages) s.pages h, and_false rises, and_false (valid_word s.n t))

  pub follows_positions : s.positions < s.filled + length t.positions → follows s t ≡ false
  unfolding follows
  follows_positions h = rw (
    lt-leb (s.filled + length t.positions) s.positions h,
    and_false (leb (s.laid + length t.pages) s.pages),
    and_false rises,
    and_false (valid_word s.n t),
  )

  pub follows_invalid : valid_word s.n t ≡ false → follows s t ≡ false
  unfolding follows
  follows_invalid v = rw v

  module _ (v : valid_word s.n t ≡ true) where
    seam : rises ≡ starts s.page t.pages
    seam = starts_rising s.page s.n t.pages (valid_agreeing s.n t v).rises

    pub follows_seam : starts s.page t.pages ≡ false → follows s t ≡ false
    unfolding follows
    follows_seam e = rw (seam ∙ e, and_false (valid_word s.n t))

    pub follows_last : starts s.page t.pages ≡ true → s.laid + length t.pages ≤ s.pages
        → s.filled + length t.positions ≤ s.positions → follows s t ≡ leb end s.u
    unfolding follows
    follows_last e p q = rw (
      v,
      seam ∙ e,
      le-leb (s.laid + length t.pages) s.pages p,
      le-leb (s.filled + length t.positions) s.positions q,
    )

-- ---- what the test tells

pub none_follow : (s : Stream) (t : Word) → follows s t ≡ false → Followed s t None
none_follow s t e = rw e

module _ (s : Stream) (t : Word) (within : s.u ≤ limit) (k : ℕ) (told : k ≡ capped (next 0 (places t))) where
  abbrev all : ℕ
  all = spanned t.counts t.positions

  end_is : next s.base (placed s.base t.counts t.positions) ≡ s.base + all
  end_is = next_placed s.base t.counts t.positions

  reach_is : k ≡ min all (limit + 1)
  unfolding places
  reach_is = told ∙ ap capped (next_placed 0 t.counts t.positions ∙ zero-add all)

  same_test : leb (s.base + k) s.u ≡ leb (s.base + all) s.u
  same_test =
      elim (dec_lt limit all) [
        | yes h ↦ lt-leb (s.base + k) s.u (omega (arith, reach_is))
            ∙ sym (lt-leb (s.base + all) s.u (omega arith))
        | no h ↦
            let e : k ≡ all = omega (arith, reach_is) in
            ap (λ (n : ℕ). leb (s.base + n) s.u) e
      ]

  same_end : (b : Bool) → leb (s.base + k) s.u ≡ b → then_some b (s.base + k) ≡ then_some b (s.base + all)
  same_end true e = ap Some (omega (arith, reach_is, leb-true (s.base + k) s.u e))
  same_end false e = refl

  pub follow_told : follows s t ≡ leb (next s.base (placed s.base t.counts t.positions)) s.u
      → Followed s t (then_some (leb (s.base + k) s.u) (s.base + k))
  follow_told e = rw (e, end_is, ← same_test) (same_end (leb (s.base + k) s.u) refl)
