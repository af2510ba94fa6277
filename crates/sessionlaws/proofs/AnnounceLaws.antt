-- Laws of the announcement, one for each answer, and what an accepted one tells.
use mathlib.Core.Bool.{Bool, true, false, cond, not, ◌&&◌, ◌||◌}
use mathlib.Core.Path.{◌≡◌, refl, sym, ap, ◌∙◌}
use Prim.Native.Nat.{ℕ, zero, suc, ◌≤◌, ◌<◌}
use native.Mathlib.Omega.{arith}
use borrow.Author.Tests.{lt-ltb, le-ltb, ltb-false, ne_eqb}
use lib.Dec.{ltb, eqb, lit<}
use Rattle.rules.specs.Verdict.{Accepted, Version, Limit, Lists}
use Rattle.rules.specs.Limits.{limit, last_edition, up_to}
use Rattle.rules.specs.Stream.{announce_refusal}
use Rattle.laws.proofs.RefusalLaws.{test_passed, or_parts}
use Rattle.sessionlaws.specs.Session.{Announced}

-- positions on no page, or a U above 0 with no position
abbrev hollow : ℕ → ℕ → ℕ → Bool
hollow P Q U = (eqb P 0 && ltb 0 Q) || (eqb Q 0 && ltb 0 U)

hollow_none : (P Q U : ℕ) → hollow P Q U ≡ false → P ≡ 0 → U ≡ 0
hollow_none zero Q U h e =
    let a = or_parts (ltb 0 Q) (eqb Q 0 && ltb 0 U) h in
    let q : Q ≡ 0 = omega (arith, ltb-false 0 Q a.0) in
    let b : ltb 0 U ≡ false = ap (λ k. eqb k 0 && ltb 0 U) (sym q) ∙ a.1 in
    omega (arith, ltb-false 0 U b)
hollow_none (suc P) Q U h e = absurd (omega arith)

hollow_some : (P Q U : ℕ) → P ≡ 0 → 0 < U → hollow P Q U ≡ true
hollow_some zero zero U e h = lt-ltb 0 U h
hollow_some zero (suc Q) U e h = rw (lt-ltb 0 (suc Q) (omega arith))
hollow_some (suc P) Q U e h = absurd (omega arith)

hollow_free : (P Q U : ℕ) → P ≤ Q → Q ≤ U → (P ≡ 0 → U ≡ 0) → hollow P Q U ≡ false
hollow_free zero Q U a b h =
    let u : U ≡ 0 = h refl in
    let q : Q ≡ 0 = omega arith in
    rw (u, q)
hollow_free (suc P) Q U a b h = rw (ne_eqb (suc P) 0 (λ e. omega arith), ne_eqb Q 0 (λ e. omega arith))

module _ (v N P Q U : ℕ) where
  abbrev rest : Bool
  rest = ltb N P || (ltb Q P || (ltb U Q || hollow P Q U))

  pub announced_parts : announce_refusal v N P Q U ≡ Accepted → Announced N P Q U
  unfolding announce_refusal
  announced_parts e =
      let z = test_passed (not (up_to last_edition v)) Version
      (cond (ltb limit N || ltb limit U) Limit (cond rest Lists Accepted)) (lit< tt) e in
      let a = test_passed (ltb limit N || ltb limit U) Limit (cond rest Lists Accepted) (lit< tt) z.1 in
      let l = or_parts (ltb limit N) (ltb limit U) a.0 in
      let b = test_passed rest Lists Accepted (lit< tt) a.1 in
      let c = or_parts (ltb N P) (ltb Q P || (ltb U Q || hollow P Q U)) b.0 in
      let d = or_parts (ltb Q P) (ltb U Q || hollow P Q U) c.1 in
      let f = or_parts (ltb U Q) (hollow P Q U) d.1 in
      record {
        within = ltb-false limit N l.0;
        reach = ltb-false limit U l.1;
        pages = ltb-false N P c.0;
        counts = ltb-false Q P d.0;
        positions = ltb-false U Q f.0;
        none = hollow_none P Q U f.1;
      }

  -- the answers
  pub announce_version : up_to last_edition v ≡ false → announce_refusal v N P Q U ≡ Version
  unfolding announce_refusal
  announce_version e = rw e

  module _ (known : up_to last_edition v ≡ true) where
    pub announce_limit : limit < N → announce_refusal v N P Q U ≡ Limit
    unfolding announce_refusal
    announce_limit h = rw (known, lt-ltb limit N h)

    module _ (within : N ≤ limit) where
      pub announce_reach : limit < U → announce_refusal v N P Q U ≡ Limit
      unfolding announce_refusal
      announce_reach h = rw (known, le-ltb limit N within, lt-ltb limit U h)

      module _ (reach : U ≤ limit) where
        limits : announce_refusal v N P Q U ≡ cond rest Lists Accepted
        unfolding announce_refusal
        limits = rw (known, le-ltb limit N within, le-ltb limit U reach)

        pub announce_pages : N < P → announce_refusal v N P Q U ≡ Lists
        announce_pages h = limits ∙ rw (lt-ltb N P h)

        module _ (pages : P ≤ N) where
          pub announce_counts : Q < P → announce_refusal v N P Q U ≡ Lists
          announce_counts h = limits ∙ rw (le-ltb N P pages, lt-ltb Q P h)

          module _ (counts : P ≤ Q) where
            pub announce_positions : U < Q → announce_refusal v N P Q U ≡ Lists
            announce_positions h = limits ∙ rw (le-ltb N P pages, le-ltb Q P counts, lt-ltb U Q h)

            module _ (positions : Q ≤ U) where
              last : announce_refusal v N P Q U ≡ cond (hollow P Q U) Lists Accepted
              last = limits ∙ rw (le-ltb N P pages, le-ltb Q P counts, le-ltb U Q positions)

              pub announce_none : P ≡ 0 → 0 < U → announce_refusal v N P Q U ≡ Lists
              announce_none e h = last ∙ ap (λ (b : Bool). cond b Lists Accepted) (hollow_some P Q U e h)

              pub announce_accepted : (P ≡ 0 → U ≡ 0) → announce_refusal v N P Q U ≡ Accepted
              announce_accepted h =
                  last ∙ ap (λ (b : Bool). cond b Lists Accepted) (hollow_free P Q U counts positions h)
