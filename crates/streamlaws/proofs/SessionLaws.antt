-- Laws of a session's later calls: each that is accepted keeps the session under way, any other ends it, and the last
-- writes what the whole-list writer writes.
use mathlib.Core.Bool.{Bool, true, false, cond, not, ◌&&◌}
use mathlib.Core.Path.{◌≡◌, refl, sym, ap, ap₂, ◌∙◌}
use mathlib.Core.Logic.{inl, inr}
use mathlib.Core.List.{List, [], ◌∷◌, ◌++◌}
use Prim.Native.Nat.{ℕ, ◌≤◌}
use native.Mathlib.Omega.{arith}
use borrow.Author.Tests.{le-ltb, eq-eqb, eqb-true}
use lib.Dec.{eqb, lit<}
use lib.ListN.{length, drop}
use Rattle.rules.specs.Verdict.{Accepted}
use Rattle.rules.specs.declared.Stream.{Stream}
use Rattle.rules.specs.Refusal.{number}
use Rattle.rules.specs.Write.{laid}
use Rattle.rules.specs.Term.{Word, next, places, term_block, write_term}
use Rattle.rules.specs.Stream.{Streaming, stream_size, over, live, added_word, follows, advanced, complete, goes}
use Rattle.rules.specs.Stream.{size_of, spoilt, going, put_postings, pointed_word, end_term, together}
use Rattle.laws.proofs.RoomLaws.{length_laid}
use Rattle.listlaws.proofs.RisingLaws.{and_parts}
use Rattle.termlaws.specs.Words.{Writable}
use Rattle.termlaws.proofs.WordLaws.{agreeing_valid}
use Rattle.termlaws.proofs.Theorems.{writes}
use Rattle.streamlaws.specs.Joined.{joined}
use Rattle.streamlaws.specs.Underway.{partly_word, reached, Within, Underway, as_made}
use Rattle.streamlaws.proofs.FromLaws.{laid_at}
use Rattle.streamlaws.proofs.JoinedLaws.{together_snoc}
use Rattle.streamlaws.proofs.WordLaws.{length_word, added_word_lem, length_term, pointed_word_lem}
use Rattle.streamlaws.proofs.FollowLaws.{reached_live, reached_advanced, follows_within, within_follows}
use Rattle.streamlaws.proofs.BeginLaws.{Outcome, announced_limits}

-- ---- a run

module _ (v N P Q U : ℕ) (ts : List Word) (before : List ℕ) (s : Stream) (room : List ℕ)
    (o : Underway v N P Q U ts before s room) where
  abbrev t : Word
  t = together ts

  size_is : size_of s ≡ stream_size v N P Q U
  unfolding size_of
  size_is = rw o.session

  room_fits : size_of s ≤ length room
  room_fits =
      let e = length_laid (partly_word v N P Q U t) before (omega (arith, length_word v N P Q U t, o.fits)) in
      omega (arith, size_is, o.fits, e, ap length o.room_is)

  -- the tests that come first are passed
  going_is : (r : Streaming) → going s room r ≡ r
  unfolding going
  going_is r =
      let l : live s ≡ true = ap live o.session ∙ reached_live v N P Q U t o.within o.announced in
      rw (l, le-ltb (length room) (size_of s) room_fits)

  put_is : (u : Word) → put_postings s u room
      ≡ cond (not (follows s u)) (spoilt s room) (goes Accepted (advanced s u) (added_word s u room))
  unfolding put_postings
  put_is u = going_is (cond (not (follows s u)) (spoilt s room) (goes Accepted (advanced s u) (added_word s u room)))

  abbrev closed : Streaming
  closed = record { refusal = Accepted; size = size_of s; stream = over; room = pointed_word s room }

  end_is : end_term s room ≡ cond (not (complete s)) (spoilt s room) closed
  unfolding end_term
  end_is = going_is (cond (not (complete s)) (spoilt s room) closed)

  room_apart : room ≡ partly_word v N P Q U t ++ drop (stream_size v N P Q U) before
  room_apart = o.room_is ∙ laid_at (stream_size v N P Q U) (partly_word v N P Q U t) before (length_word v N P Q U t)

  advanced_underway : (u : Word) → follows s u ≡ true
      → Underway v N P Q U (ts ++ (u ∷ [])) before (advanced s u) (added_word s u room)
  advanced_underway u f =
      let w = follows_within v N P Q U t o.within u (ap (λ (r : Stream). follows r u) (sym o.session) ∙ f) in
      let e = together_snoc ts u in
      record {
        announced = o.announced;
        fits = o.fits;
        within = rw e w;
        session = ap (λ (r : Stream). advanced r u) o.session ∙ reached_advanced v N P Q U t o.within u
            ∙ ap (reached v N P Q U) (sym e);
        room_is = rw e (ap₂ (λ (r : Stream) (b : List ℕ). added_word r u b) o.session room_apart
            ∙ added_word_lem v N P Q U t u (drop (stream_size v N P Q U) before) o.within w
            ∙ sym (laid_at (stream_size v N P Q U) (partly_word v N P Q U (joined t u)) before
            (length_word v N P Q U (joined t u))));
      }

  -- a run is accepted and laid, or ends the session
  pub put_outcome : (u : Word) → Outcome v N P Q U (ts ++ (u ∷ [])) before (put_postings s u room)
  unfolding spoilt
  put_outcome u = go (follows s u) refl
    where
      go : (b : Bool) → follows s u ≡ b → Outcome v N P Q U (ts ++ (u ∷ [])) before (put_postings s u room)
      go true e = rw (put_is u, e) (inl (refl, advanced_underway u e))
      go false e = rw (put_is u, e) (inr (lit< tt, refl))

  -- it is accepted where the word with it is within what is announced
  pub put_accepted : (u : Word) → Within N P Q U (joined t u) → (put_postings s u room).refusal ≡ Accepted
  put_accepted u w =
      let f : follows s u ≡ true =
      ap (λ (r : Stream). follows r u) o.session ∙ within_follows v N P Q U t o.within u w in
      rw (put_is u, f)

  -- ---- the close

  complete_parts : complete s ≡ true
      → (length t.pages ≡ P) × (length t.positions ≡ Q) × (next 0 (places t) ≡ U)
  unfolding complete
  complete_parts c =
      let c' = ap complete (sym o.session) ∙ c in
      let p = and_parts (eqb (length t.pages) P) (eqb (length t.positions) Q && eqb (next 0 (places t)) U) c' in
      let q = and_parts (eqb (length t.positions) Q) (eqb (next 0 (places t)) U) p.1 in (
        eqb-true (length t.pages) P p.0,
        eqb-true (length t.positions) Q q.0,
        eqb-true (next 0 (places t)) U q.1,
      )

  parts_complete : length t.pages ≡ P → length t.positions ≡ Q → next 0 (places t) ≡ U → complete s ≡ true
  unfolding complete
  parts_complete p q u =
      ap complete o.session
      ∙ rw (
        eq-eqb (length t.pages) P p,
        eq-eqb (length t.positions) Q q,
        eq-eqb (next 0 (places t)) U u,
      )

  complete_written : complete s ≡ true → as_made (end_term s room) ≡ write_term v N t before
  complete_written c =
      let p = complete_parts c in
      let l = announced_limits v N P Q U o.announced in
      let S : ℕ = stream_size v N P Q U in
      let w : Writable v N t = record {
        known = l.0;
        valid = agreeing_valid N t o.within.agreeing;
        within = l.1;
        reach = omega (arith, p.2, l.2);
      } in
      let n = length_term v N P Q U t o.within p.0 p.1 p.2 in
      let r : pointed_word s room ≡ laid (term_block v N t) before =
      ap₂ pointed_word o.session room_apart
      ∙ pointed_word_lem v N P Q U t o.within p.0 p.1 p.2 (drop S before)
      ∙ sym (laid_at S (term_block v N t) before n) in
      let z : size_of s ≡ length (term_block v N t) = size_is ∙ sym n in
      rw (end_is, c, r, z) (sym (writes v N t before w (omega (arith, n, o.fits))))

  end_complete : (end_term s room).refusal ≡ Accepted → complete s ≡ true
  unfolding spoilt
  end_complete e = go (complete s) refl
    where
      go : (b : Bool) → complete s ≡ b → complete s ≡ true
      go true c = c
      go false c = absurd (omega (arith, ap number (rw (end_is, c) at e)))

  pub end_written : (end_term s room).refusal ≡ Accepted → as_made (end_term s room) ≡ write_term v N t before
  end_written e = complete_written (end_complete e)

  pub end_accepted : length t.pages ≡ P → length t.positions ≡ Q → next 0 (places t) ≡ U
      → (end_term s room).refusal ≡ Accepted
  end_accepted p q u = rw (end_is, parts_complete p q u)
