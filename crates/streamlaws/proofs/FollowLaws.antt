-- Laws of one run of a session: it follows exactly when the word with it is within what was announced.
use mathlib.Core.Bool.{Bool, true, ◌&&◌}
use mathlib.Core.Path.{◌≡◌}
use mathlib.Core.List.{List, ◌++◌}
use Prim.Native.Nat.{ℕ, ◌+◌, ◌≤◌}
use native.Mathlib.Omega.{arith}
use borrow.Author.Tests.{le-leb, leb-true}
use lib.Dec.{leb}
use lib.ListN.{length, length-append}
use Rattle.rules.specs.Verdict.{Accepted}
use Rattle.rules.specs.List.{rising}
use Rattle.rules.specs.Term.{Word, total, next, placed, places, valid_word}
use Rattle.rules.specs.Stream.{announce_refusal, live, follows, advanced}
use Rattle.laws.proofs.RefusalLaws.{true_accepted}
use Rattle.listlaws.proofs.RisingLaws.{and_parts}
use Rattle.termlaws.proofs.OrderLaws.{next_append, next_le}
use Rattle.termlaws.proofs.PlaceLaws.{placed_order}
use Rattle.termlaws.proofs.WordLaws.{valid_agreeing, agreeing_valid}
use Rattle.streamlaws.specs.Joined.{joined}
use Rattle.streamlaws.specs.Underway.{reached, Within}
use Rattle.streamlaws.proofs.JoinedLaws.{next_joined, agreeing_join, agreeing_first}
use Rattle.streamlaws.proofs.JoinedLaws.{agreeing_second, pages_follow}

module _ (v N P Q U : ℕ) (t : Word) (i : Within N P Q U t) where
  -- the session that has laid t goes on
  pub reached_live : announce_refusal v N P Q U ≡ Accepted → live (reached v N P Q U t) ≡ true
  unfolding live
  reached_live a = rw (
    true_accepted (announce_refusal v N P Q U) a,
    le-leb (length t.pages) P i.pages,
    le-leb (length t.positions) Q i.positions,
  )

  module _ (u : Word) where
    -- the elements of the positions of u, behind those of t
    abbrev behind : List ℕ
    behind = placed (next 0 (places t)) u.counts u.positions

    pub reached_advanced : advanced (reached v N P Q U t) u ≡ reached v N P Q U (joined t u)
    unfolding advanced
    reached_advanced = rw (
      next_joined t u i.agreeing.summed,
      next_append 0 t.pages u.pages,
      length-append t.pages u.pages,
      length-append t.positions u.positions,
    )

    pub follows_within : follows (reached v N P Q U t) u ≡ true → Within N P Q U (joined t u)
    unfolding follows
    follows_within f =
        let e : Bool = leb (next (next 0 (places t)) behind) U in
        let d : Bool = leb (length t.positions + length u.positions) Q in
        let c : Bool = leb (length t.pages + length u.pages) P in
        let b : Bool = rising (next 0 t.pages) N u.pages in
        let p = and_parts (valid_word N u) (b && (c && (d && e))) f in
        let q = and_parts b (c && (d && e)) p.1 in
        let r = and_parts c (d && e) q.1 in
        let s = and_parts d e r.1 in
        record {
          agreeing = agreeing_join N t u i.agreeing (valid_agreeing N u p.0) q.0;
          pages = rw length-append (leb-true (length t.pages + length u.pages) P r.0);
          positions = rw length-append (leb-true (length t.positions + length u.positions) Q s.0);
          below = rw (next_joined t u i.agreeing.summed)
              (leb-true (next (next 0 (places t)) behind) U s.1);
        }

    pub within_follows : Within N P Q U (joined t u) → follows (reached v N P Q U t) u ≡ true
    unfolding follows
    within_follows j =
        let a = i.agreeing in
        rw (
          agreeing_valid N u (agreeing_second N t u j.agreeing a.lengths a.summed),
          pages_follow N t u j.agreeing a.lengths a.summed,
          le-leb (length t.pages + length u.pages) P (rw length-append at j.pages),
          le-leb (length t.positions + length u.positions) Q (rw length-append at j.positions),
        )
        (le-leb (next (next 0 (places t)) behind) U (rw (next_joined t u a.summed) at j.below))

-- a word within what is announced, its first part cut at a page boundary
pub within_first : (N P Q U : ℕ) (t u : Word) → Within N P Q U (joined t u) → length t.pages ≡ length t.counts
    → total t.counts ≡ length t.positions → Within N P Q U t
within_first N P Q U t u j l s =
    let b : ℕ = next 0 (places t) in
    let o = placed_order b u.counts u.positions (agreeing_second N t u j.agreeing l s).ordered in
    let p : length (t.pages ++ u.pages) ≤ P = j.pages in
    let q : length (t.positions ++ u.positions) ≤ Q = j.positions in
    record {
      agreeing = agreeing_first N t u j.agreeing l s;
      pages = omega (arith, p, length-append t.pages u.pages);
      positions = omega (arith, q, length-append t.positions u.positions);
      below = omega (arith, next_le b (placed b u.counts u.positions) o, next_joined t u s, j.below);
    }
