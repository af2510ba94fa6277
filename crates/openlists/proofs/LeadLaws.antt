-- Laws of finding the lead: the search from list i on, for each way on.
use mathlib.Core.Path.{◌≡◌, refl}
use mathlib.Core.List.{List}
use Prim.Native.Nat.{ℕ, ◌+◌, ◌-◌, ◌≤◌, ◌<◌}
use native.Mathlib.Omega.{arith}
use borrow.Author.Tests.{lt-ltb, le-ltb}
use lib.ListN.{length}
use Rattle.rules.specs.Common.{lead_from, lead_of}
use Rattle.querylaws.specs.Lists.{span}
use Rattle.querylaws.proofs.SpanLaws.{span_none, span_cons}

module _ (f : ℕ → List ℕ) (k : ℕ) where
  -- the lead of k lists, where the shortest before list i is number best, of m elements
  abbrev pub lead_on : ℕ → ℕ → ℕ → ℕ
  lead_on best m i = lead_from best m i (span f i (k - i))

  pub lead_start : 0 < k → lead_on 0 (length (f 0)) 1 ≡ lead_of (span f 0 k)
  lead_start h =
      let z : k - 0 ≡ k = omega arith in
      rw (rw z at (span_cons f 0 k h)) (unfold lead_of in refl)

  pub lead_less : (best m i : ℕ) → i < k → length (f i) < m → lead_on best m i ≡ lead_on i (length (f i)) (i + 1)
  unfolding lead_from
  lead_less best m i h l = rw (span_cons f i k h, lt-ltb (length (f i)) m l, lead_from)

  pub lead_more : (best m i : ℕ) → i < k → m ≤ length (f i) → lead_on best m i ≡ lead_on best m (i + 1)
  unfolding lead_from
  lead_more best m i h l = rw (span_cons f i k h, le-ltb (length (f i)) m l, lead_from)

  pub lead_end : (best m i : ℕ) → k ≤ i → lead_on best m i ≡ best
  unfolding lead_from
  lead_end best m i h =
      let e : k - i ≡ 0 = omega arith in
      rw (e, span_none f i)
