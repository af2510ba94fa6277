-- Laws of a session's announcement: what a call leaves, when it is accepted, and what is then under way.
use mathlib.Core.Bool.{Bool, true, false, cond, not, ◌&&◌, ◌||◌}
use mathlib.Core.Path.{◌≡◌, refl, sym, ap, ◌∙◌}
use mathlib.Core.Logic.{◌⊎◌, inl, inr}
use mathlib.Core.List.{List, [], ◌∷◌}
use Prim.Native.Nat.{ℕ, ◌≤◌, ◌<◌}
use native.Mathlib.Decide.{dec_lt, dec_le, ℕ_discrete}
use native.Mathlib.Omega.{arith}
use borrow.Author.Tests.{le-ltb, lt-ltb, ltb-false, eq-eqb, eqb-false, ne_eqb, not-false}
use lib.Dec.{ltb, eqb, lit<}
use lib.ListN.{length, drop_of_length-le}
use Rattle.rules.specs.Verdict.{Verdict}
use Rattle.rules.specs.Verdict.{Accepted, Version, Limit, Room, Lists}
use Rattle.rules.specs.Refusal.{number, accepted}
use Rattle.rules.specs.Limits.{limit, last_edition, up_to}
use Rattle.rules.specs.List.{rising}
use Rattle.rules.specs.Write.{laid}
use Rattle.rules.specs.Term.{Word, total, next, placed, places, positive, in_order_by_page}
use Rattle.rules.specs.Stream.{announce_refusal, stream_size, announced, opened, over}
use Rattle.rules.specs.Stream.{Streaming, goes, begin_term, together}
use Rattle.laws.proofs.RefusalLaws.{true_accepted, accepted_true, test_passed, or_parts}
use Rattle.listlaws.proofs.RisingLaws.{rising_length}
use Rattle.termlaws.proofs.SumLaws.{positive_parts}
use Rattle.streamlaws.specs.Underway.{Within, Underway}
use Rattle.streamlaws.proofs.WordLaws.{places_rise, length_places, word_none}

-- ---- a call's result

-- it is accepted, and the runs ts are under way; or it is refused, and the session has ended
abbrev pub Outcome : ℕ → ℕ → ℕ → ℕ → ℕ → List Word → List ℕ → Streaming → Type 0
Outcome v N P Q U ts before r =
    ((r.refusal ≡ Accepted) × Underway v N P Q U ts before r.stream r.room)
    ⊎ ((0 < number r.refusal) × (r.stream ≡ over))

pub outcome_accepted : (v N P Q U : ℕ) (ts : List Word) (before : List ℕ) (r : Streaming)
    → Outcome v N P Q U ts before r → r.refusal ≡ Accepted → Underway v N P Q U ts before r.stream r.room
outcome_accepted v N P Q U ts before r (inl p) e = p.1
outcome_accepted v N P Q U ts before r (inr p) e = absurd (omega (arith, p.0, ap number e))

-- ---- the announcement

refused_number : (r : Verdict) → accepted r ≡ false → 0 < number r
unfolding accepted
refused_number r e =
    let n = eqb-false (number r) 0 e in
    elim (dec_lt 0 (number r)) [ yes h ↦ h | no h ↦ absurd (n (omega arith)) ]

length_total : (cs : List ℕ) → positive cs ≡ true → length cs ≤ total cs
unfolding total
length_total [] p = omega arith
length_total (c ∷ cs) p =
    let q = positive_parts c cs p in
    omega (arith, q.0, length_total cs q.1)

total_none : (cs : List ℕ) → length cs ≡ 0 → total cs ≡ 0
unfolding total
total_none [] e = refl
total_none (c ∷ cs) e = absurd (omega arith)

none_without : (p q : ℕ) → (p ≡ 0 → q ≡ 0) → eqb p 0 && ltb 0 q ≡ false
none_without p q h =
    elim (ℕ_discrete p 0) [
      | yes e ↦ rw (eq-eqb p 0 e, h e)
      | no e ↦ rw (ne_eqb p 0 e)
    ]

module _ (v N P Q U : ℕ) where
  -- what it leaves
  pub announced_limits : announce_refusal v N P Q U ≡ Accepted
      → (up_to last_edition v ≡ true) × (N ≤ limit) × (U ≤ limit)
  unfolding announce_refusal
  announced_limits e =
      let b : Bool = ltb N P || (ltb Q P || (ltb U Q || ((eqb P 0 && ltb 0 Q) || (eqb Q 0 && ltb 0 U)))) in
      let k = test_passed (not (up_to last_edition v)) Version
      (cond (ltb limit N || ltb limit U) Limit (cond b Lists Accepted)) (lit< tt) e in
      let p = test_passed (ltb limit N || ltb limit U) Limit (cond b Lists Accepted) (lit< tt) k.1 in
      let q = or_parts (ltb limit N) (ltb limit U) p.0 in
      (not-false (up_to last_edition v) k.0, ltb-false limit N q.0, ltb-false limit U q.1)

  -- and the word that is announced is enough for it
  pub word_announced : (t : Word) → Within N P Q U t → length t.pages ≡ P → length t.positions ≡ Q
      → next 0 (places t) ≡ U → up_to last_edition v ≡ true → N ≤ limit → U ≤ limit
      → announce_refusal v N P Q U ≡ Accepted
  unfolding announce_refusal next
  word_announced t i p q u known n l =
      let a = i.agreeing in
      let es : List ℕ = places t in
      let c : length t.pages ≤ N = omega (arith, rising_length 0 N t.pages a.rises (omega arith)) in
      let d : length es ≤ U = omega (arith, rising_length 0 U es (places_rise N P Q U t i) (omega arith)) in
      let e : length es ≡ Q = length_places N P Q U t i ∙ q in
      let f : P ≤ Q = omega (arith, length_total t.counts a.counted, a.lengths, a.summed) in
      let g : P ≡ 0 → Q ≡ 0 = λ z. omega (arith, total_none t.counts (omega (arith, a.lengths)), a.summed) in
      let h : Q ≡ 0 → U ≡ 0 = λ z. sym u ∙ ap (next 0) (drop_of_length-le es {i = 0} (omega arith)) in
      rw (
        known,
        le-ltb limit N n,
        le-ltb limit U l,
        le-ltb N P (omega arith),
        le-ltb Q P f,
        le-ltb U Q (omega arith),
        none_without P Q g,
        none_without Q U h,
      )

  within_none : Within N P Q U (together [])
  unfolding together places placed next total rising positive in_order_by_page
  within_none = record {
    agreeing = record { lengths = refl; rises = refl; counted = refl; summed = refl; ordered = refl };
    pages = omega arith;
    positions = omega arith;
    below = omega arith;
  }

  module _ (room : List ℕ) where
    begin_is : announce_refusal v N P Q U ≡ Accepted → stream_size v N P Q U ≤ length room
        → begin_term v N P Q U room ≡ goes Accepted (opened v N P Q U) (laid (announced v N P Q U) room)
    unfolding begin_term
    begin_is a f = rw (true_accepted (announce_refusal v N P Q U) a, le-ltb (length room) (stream_size v N P Q U) f)

    pub begin_accepted : announce_refusal v N P Q U ≡ Accepted → stream_size v N P Q U ≤ length room
        → (begin_term v N P Q U room).refusal ≡ Accepted
    begin_accepted a f = rw (begin_is a f)

    begin_small : announce_refusal v N P Q U ≡ Accepted → length room < stream_size v N P Q U
        → begin_term v N P Q U room ≡ goes Room over room
    unfolding begin_term
    begin_small a f = rw (true_accepted (announce_refusal v N P Q U) a, lt-ltb (length room) (stream_size v N P Q U) f)

    begin_refused : accepted (announce_refusal v N P Q U) ≡ false
        → begin_term v N P Q U room ≡ goes (announce_refusal v N P Q U) over room
    unfolding begin_term
    begin_refused e = rw e

    opened_underway : announce_refusal v N P Q U ≡ Accepted → stream_size v N P Q U ≤ length room
        → Underway v N P Q U [] room (opened v N P Q U) (laid (announced v N P Q U) room)
    unfolding opened together places placed next
    opened_underway a f = record {
      announced = a;
      fits = f;
      within = within_none;
      session = refl;
      room_is = ap (λ (b : List ℕ). laid b room) (sym (word_none v N P Q U));
    }

    pub begin_outcome : Outcome v N P Q U [] room (begin_term v N P Q U room)
    begin_outcome = go (accepted (announce_refusal v N P Q U)) refl
      where
        go : (b : Bool) → accepted (announce_refusal v N P Q U) ≡ b
            → Outcome v N P Q U [] room (begin_term v N P Q U room)
        go false e = rw (begin_refused e) (inr (refused_number (announce_refusal v N P Q U) e, refl))
        go true e =
            let a = accepted_true (announce_refusal v N P Q U) e in
            elim (dec_le (stream_size v N P Q U) (length room)) [
              | yes f ↦ rw (begin_is a f) (inl (refl, opened_underway a f))
              | no f ↦ rw (begin_small a (omega arith)) (inr (lit< tt, refl))
            ]
