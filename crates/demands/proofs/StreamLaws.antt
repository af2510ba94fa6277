-- What the calls of a session leave, by the definitions, and what a host is told of it: each of the four ways that a
-- later call can go, and when it goes so.
use mathlib.Core.Bool.{Bool, true, false, cond, not}
use mathlib.Core.Logic.{◌↔◌, ◌⊎◌, inl, inr}
use mathlib.Core.Path.{◌≡◌, refl, sym, ap, ◌∙◌}
use mathlib.Core.List.{List}
use Prim.Native.Nat.{ℕ, ◌≤◌, ◌<◌}
use native.Mathlib.Decide.{dec_lt}
use native.Mathlib.Omega.{arith}
use borrow.Author.Tests.{le-ltb, lt-ltb}
use lib.ListN.{length}
use Rattle.rules.specs.Verdict.{Verdict}
use Rattle.rules.specs.Verdict.{Accepted, Room, Lists}
use Rattle.rules.specs.declared.Stream.{Stream}
use Rattle.rules.specs.Refusal.{number}
use Rattle.rules.specs.Stream.{Streaming, over, live, goes, size_of, spoilt, going}
use Rattle.laws.proofs.RefusalLaws.{number_inj}
use Rattle.telling.specs.declared.HostStreamed.{HostStreamed}
use Rattle.telling.specs.Told.{ToldStream, told_stream, told_stream_of}
use Rattle.demands.specs.Sentences.{First}
use Rattle.demands.specs.Streams.{Leaves}
use Rattle.demands.specs.StreamFaults.{NotLive, ShortRoom, On, cleared, later, Answers}
use Rattle.demands.proofs.FirstLaws.{Tests}
use Rattle.demands.proofs.StreamFaultLaws.{tests_live}

-- ---- what a host is told

module _ (m : Streaming) (r : HostStreamed) (after : List ℕ) (p : told_stream_of r after ≡ told_stream m) where
  pub told_refusal : r.refusal ≡ number m.refusal
  told_refusal = ap (λ (t : ToldStream). t.refusal) p

  pub told_session : r.stream ≡ m.stream
  told_session = ap (λ (t : ToldStream). t.stream) p

  pub told_room : after ≡ m.room
  told_room = ap (λ (t : ToldStream). t.room) p

  pub told_passed : r.refusal ≡ 0 → m.refusal ≡ Accepted
  told_passed z = number_inj m.refusal Accepted (sym told_refusal ∙ z)

  pub passed_told : m.refusal ≡ Accepted → r.refusal ≡ 0
  passed_told a = told_refusal ∙ ap number a

  -- a result without a length
  pub told_goes : (R : Verdict) (s : Stream) (room : List ℕ) → m ≡ goes R s room
      → (r.refusal ≡ number R) × Leaves r after s room
  told_goes R s room e = (
    told_refusal ∙ ap (λ (x : Streaming). number x.refusal) e,
    (
      ap (λ (t : ToldStream). t.length) p ∙ ap (λ (x : Streaming). x.size) e,
      told_session ∙ ap (λ (x : Streaming). x.stream) e,
      told_room ∙ ap (λ (x : Streaming). x.room) e,
    ),
  )

-- ---- a later call

-- b tells whether what the call is given is good, and the result is then `good`
module _ (s : Stream) (room : List ℕ) (b : Bool) (good : Streaming) where
  abbrev whole : Streaming
  whole = going s room (cond (not b) (spoilt s room) good)

  when_ended : live s ≡ false → whole ≡ goes Lists over room
  unfolding going
  when_ended e = rw e

  when_short : live s ≡ true → length room < size_of s → whole ≡ goes Room s room
  unfolding going
  when_short e h = rw (e, lt-ltb (length room) (size_of s) h)

  when_bad : live s ≡ true → size_of s ≤ length room → b ≡ false → whole ≡ goes Lists over (cleared s room)
  unfolding going spoilt
  when_bad e h f = rw (e, le-ltb (length room) (size_of s) h, f)

  when_good : live s ≡ true → size_of s ≤ length room → b ≡ true → whole ≡ good
  unfolding going
  when_good e h f = rw (e, le-ltb (length room) (size_of s) h, f)

  module _ (bad : Type 0) (t : Tests (not b) bad) (passes : good.refusal ≡ Accepted) (r : HostStreamed)
      (after : List ℕ) (p : told_stream_of r after ≡ told_stream whole) where
    -- it goes on with something bad, or good
    abbrev Tried : Type 0
    Tried =
        (On s room × bad × (r.refusal ≡ 10) × Leaves r after over (cleared s room))
        ⊎ (On s room × (bad → ⊥) × (r.refusal ≡ 0) × (whole ≡ good))

    -- the four ways
    abbrev Ways : Type 0
    Ways =
        (NotLive s × (r.refusal ≡ 10) × Leaves r after over room)
        ⊎ (((NotLive s → ⊥) × ShortRoom s room × (r.refusal ≡ 9) × Leaves r after s room) ⊎ Tried)

    ways : Ways
    ways = go (live s) refl
      where
        fit : On s room → live s ≡ true → (c : Bool) → b ≡ c → Tried
        fit o e false f =
            let w = told_goes whole r after p Lists over (cleared s room) (when_bad e o.1 f) in
            inl (o, t.0 (ap not f), w.0, w.1)
        fit o e true f =
            let w = when_good e o.1 f in
            let z = passed_told whole r after p (ap (λ (x : Streaming). x.refusal) w ∙ passes) in
            inr (o, t.1 (ap not f), z, w)

        go : (l : Bool) → live s ≡ l → Ways
        go false e =
            let w = told_goes whole r after p Lists over room (when_ended e) in
            inl ((tests_live s).0 (ap not e), w.0, w.1)
        go true e =
            let n = (tests_live s).1 (ap not e) in
            elim (dec_lt (length room) (size_of s)) [
              | yes h ↦
                  let w = told_goes whole r after p Room s room (when_short e h) in
                  inr (inl (n, h, w.0, w.1))
              | no h ↦ inr (inr (fit (n, omega arith) e b refl))
            ]

    -- the number is that of the first sentence that holds
    is_first : First r.refusal (later bad s room)
    unfolding First
    is_first = elim ways [
      | inl w ↦ inl (w.0, w.1)
      | inr v ↦ elim v [
        | inl w ↦ inr (w.0, inl (w.1, w.2))
        | inr u ↦ elim u [
          | inl w ↦ inr (w.0.0, inr (λ h. omega (arith, h, w.0.1), inl (w.1, w.2)))
          | inr w ↦ inr (w.0.0, inr (λ h. omega (arith, h, w.0.1), inr (w.1, w.2)))
        ]
      ]
    ]

    -- each way by itself
    is_short : (r.refusal ≡ 9) ↔ ((NotLive s → ⊥) × ShortRoom s room)
    is_short = (
      λ e. elim ways [
        | inl w ↦ absurd (omega (arith, e, w.1))
        | inr v ↦ elim v [
          | inl w ↦ (w.0, w.1)
          | inr u ↦ elim u [ inl w ↦ absurd (omega (arith, e, w.2)) | inr w ↦ absurd (omega (arith, e, w.2)) ]
        ]
      ],
      λ n. elim ways [
        | inl w ↦ absurd (n.0 w.0)
        | inr v ↦ elim v [
          | inl w ↦ w.2
          | inr u ↦ elim u [
            | inl w ↦ absurd (omega (arith, n.1, w.0.1))
            | inr w ↦ absurd (omega (arith, n.1, w.0.1))
          ]
        ]
      ],
    )

    is_kept : r.refusal ≡ 9 → Leaves r after s room
    is_kept e = elim ways [
      | inl w ↦ absurd (omega (arith, e, w.1))
      | inr v ↦ elim v [
        | inl w ↦ w.3
        | inr u ↦ elim u [ inl w ↦ absurd (omega (arith, e, w.2)) | inr w ↦ absurd (omega (arith, e, w.2)) ]
      ]
    ]

    is_ended : NotLive s → (r.refusal ≡ 10) × Leaves r after over room
    is_ended n = elim ways [
      | inl w ↦ (w.1, w.2)
      | inr v ↦ elim v [
        | inl w ↦ absurd (w.0 n)
        | inr u ↦ elim u [ inl w ↦ absurd (w.0.0 n) | inr w ↦ absurd (w.0.0 n) ]
      ]
    ]

    tried : On s room → Tried
    tried o = elim ways [
      | inl w ↦ absurd (o.0 w.0)
      | inr v ↦ elim v [ inl w ↦ absurd (omega (arith, o.1, w.1)) | inr u ↦ u ]
    ]

    is_passed : r.refusal ≡ 0 → On s room × (bad → ⊥)
    is_passed e = elim ways [
      | inl w ↦ absurd (omega (arith, e, w.1))
      | inr v ↦ elim v [
        | inl w ↦ absurd (omega (arith, e, w.2))
        | inr u ↦ elim u [ inl w ↦ absurd (omega (arith, e, w.2)) | inr w ↦ (w.0, w.1) ]
      ]
    ]

    pub answers : Answers bad s room r after
    answers = record {
      first = is_first;
      ended = is_ended;
      short = is_short;
      keeps = is_kept;
      wrong = λ o. (
        λ e. elim (tried o) [ inl w ↦ w.1 | inr w ↦ absurd (omega (arith, e, w.2)) ],
        λ x. elim (tried o) [ inl w ↦ w.2 | inr w ↦ absurd (w.1 x) ],
      );
      spoils = λ o e. elim (tried o) [ inl w ↦ w.3 | inr w ↦ absurd (omega (arith, e, w.2)) ];
      passed = (is_passed, λ n. elim (tried n.0) [ inl w ↦ absurd (n.1 w.1) | inr w ↦ w.2 ]);
    }

    -- what is told where nothing is wrong
    pub told_good : r.refusal ≡ 0 → told_stream_of r after ≡ told_stream good
    told_good e =
        let n = is_passed e in
        elim (tried n.0) [ inl w ↦ absurd (n.1 w.1) | inr w ↦ p ∙ ap told_stream w.3 ]

-- ---- what the answers tell

module _ (bad : Type 0) (s : Stream) (room : List ℕ) (r : HostStreamed) (after : List ℕ)
    (a : Answers bad s room r after) where
  -- the four ways again
  pub by_way : (C : Type 0) → (NotLive s → C) → ((r.refusal ≡ 9) → C) → (On s room → r.refusal ≡ 10 → C)
      → (r.refusal ≡ 0 → C) → C
  unfolding First
  by_way C f g h k = elim a.first [
    | inl w ↦ f w.0
    | inr v ↦ elim v.1 [
      | inl w ↦ g w.1
      | inr w ↦ elim w.1 [ inl x ↦ h (v.0, omega (arith, w.0)) x.1 | inr x ↦ k x.1 ]
    ]
  ]

  -- a 10 ends the session
  pub ten_ends : r.refusal ≡ 10 → r.stream ≡ over
  ten_ends e =
      by_way (r.stream ≡ over)
      (λ n. (a.ended n).1.1)
      (λ f. absurd (omega (arith, e, f)))
      (λ o f. (a.spoils o f).1)
      (λ f. absurd (omega (arith, e, f)))
