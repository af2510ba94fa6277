-- Laws of a session that a host's accepted calls have led to: it is under way, it accepts what is left of a word that
-- the whole-list writer accepts, and its tests are those of the word that its runs are together.
use mathlib.Core.Bool.{Bool, true, false, not, ◌&&◌}
use mathlib.Core.Logic.{◌⊎◌}
use mathlib.Core.Path.{◌≡◌, refl, sym, ap, ◌∙◌, subst}
use mathlib.Core.List.{List, [], ◌∷◌, ◌++◌, append_assoc, append-nil}
use Prim.Native.Nat.{ℕ, ◌≤◌}
use native.Mathlib.Omega.{arith}
use borrow.Author.Tests.{le-leb, leb-true}
use lib.Dec.{leb}
use lib.ListN.{length, length-append}
use Rattle.rules.specs.declared.Stream.{Stream}
use Rattle.rules.specs.Term.{Word, total, next, places, valid_word}
use Rattle.rules.specs.Stream.{Streaming, stream_size, live, follows, complete, size_of, begin_term, put_postings}
use Rattle.rules.specs.Stream.{end_term, together}
use Rattle.laws.proofs.RoomLaws.{length_laid}
use Rattle.listlaws.proofs.RisingLaws.{and_parts}
use Rattle.termlaws.proofs.WordLaws.{valid_agreeing, agreeing_valid}
use Rattle.streamlaws.specs.Joined.{joined}
use Rattle.streamlaws.specs.Underway.{partly_word, reached, Within, Underway, Cut}
use Rattle.streamlaws.proofs.AppendLaws.{total_append}
use Rattle.streamlaws.proofs.JoinedLaws.{joined_assoc, joined_none, together_snoc}
use Rattle.streamlaws.proofs.WordLaws.{length_word}
use Rattle.streamlaws.proofs.FollowLaws.{reached_live, follows_within, within_follows, within_first}
use Rattle.streamlaws.proofs.SessionLaws.{put_accepted, end_accepted}
use Rattle.streamlaws.proofs.Theorems.{underway_begin, underway_put}
use Rattle.telling.specs.declared.HostStreamed.{HostStreamed}
use Rattle.hostlaws.specs.Host.{HostTermBegun, HostPostingsPut}
use Rattle.demands.specs.Streams.{Handed, Led, Finishes}
use Rattle.demands.specs.StreamFaults.{BadWord, Past, OtherTotals, NotLive}
use Rattle.demands.proofs.FirstLaws.{Tests}
use Rattle.demands.proofs.StreamFaultLaws.{tests_fails, tests_above, tests_live, tests_word, tests_complete}
use Rattle.demands.proofs.StreamLaws.{told_session, told_room, told_passed, passed_told}

-- ---- under way

pub begun_underway : (v N P Q U : ℕ) (before : List ℕ) (r : HostStreamed) (after : List ℕ)
    → HostTermBegun v N P Q U before r after → r.refusal ≡ 0 → Underway v N P Q U [] before r.stream after
begun_underway v N P Q U before r after p z =
    let m : Streaming = begin_term v N P Q U before in
    rw (told_session m r after p, told_room m r after p)
    (underway_begin v N P Q U before (told_passed m r after p z))

pub put_underway : (v N P Q U : ℕ) (before : List ℕ) (us : List Word) (s : Stream) (room : List ℕ)
    → Underway v N P Q U us before s room → (t : Word) (r : HostStreamed) (after : List ℕ)
    → HostPostingsPut s t room r after → r.refusal ≡ 0
    → Underway v N P Q U (us ++ (t ∷ [])) before r.stream after
put_underway v N P Q U before us s room o t r after p z =
    let m : Streaming = put_postings s t room in
    rw (told_session m r after p, told_room m r after p)
    (underway_put v N P Q U us before s room o t (told_passed m r after p z))

handed_underway : (v N P Q U : ℕ) (before : List ℕ) (ts us : List Word) (s : Stream) (room : List ℕ) (s' : Stream)
    (room' : List ℕ) → Underway v N P Q U us before s room → Handed s room ts s' room'
    → Underway v N P Q U (us ++ ts) before s' room'
handed_underway v N P Q U before [] us s room s' room' o h = rw (h.0, h.1, append-nil us) o
handed_underway v N P Q U before (t ∷ ts) us s room s' room' o (r, after, p, z, h) =
    subst (λ (l : List Word). Underway v N P Q U l before s' room') (append_assoc us (t ∷ []) ts)
    (handed_underway v N P Q U before ts (us ++ (t ∷ [])) r.stream after s' room'
    (put_underway v N P Q U before us s room o t r after p z) h)

pub led_underway : (v N P Q U : ℕ) (before : List ℕ) (ts : List Word) (s : Stream) (room : List ℕ)
    → Led v N P Q U before ts s room → Underway v N P Q U ts before s room
led_underway v N P Q U before ts s room (r, after, p, z, h) =
    handed_underway v N P Q U before ts [] r.stream after s room (begun_underway v N P Q U before r after p z) h

-- ---- to the end of a word

module _ (v N P Q U : ℕ) (before : List ℕ) (w : Word) (i : Within N P Q U w) (p : length w.pages ≡ P)
    (q : length w.positions ≡ Q) (u : next 0 (places w) ≡ U) where
  -- the runs ts lead from the runs us to the word w
  pub finishes : (ts us : List Word) (s : Stream) (room : List ℕ) → Underway v N P Q U us before s room → Cut ts
      → w ≡ joined (together us) (together ts) → Finishes s room ts
  unfolding together Cut
  finishes [] us s room o c e = λ r after h.
      let f : w ≡ together us = e ∙ joined_none (together us) in
      passed_told (end_term s room) r after h
      (end_accepted v N P Q U us before s room o (rw f at p) (rw f at q) (rw f at u))
  finishes (t ∷ ts) us s room o c e = λ r after h.
      let a : Word = together us in
      let f : w ≡ joined (joined a t) (together ts) = e ∙ sym (joined_assoc a t (together ts)) in
      let b = o.within.agreeing in
      let l : length (a.pages ++ t.pages) ≡ length (a.counts ++ t.counts) =
      rw (length-append a.pages t.pages, length-append a.counts t.counts)
      (omega (arith, b.lengths, c.0)) in
      let k : total (a.counts ++ t.counts) ≡ length (a.positions ++ t.positions) =
      rw (total_append, length-append) (omega (arith, b.summed, c.1)) in
      let d = within_first N P Q U (joined a t) (together ts) (rw f at i) l k in
      let z = passed_told (put_postings s t room) r after h (put_accepted v N P Q U us before s room o t d) in (
        z,
        finishes ts (us ++ (t ∷ [])) r.stream after (put_underway v N P Q U before us s room o t r after h z) c.2
            (f ∙ ap (λ (x : Word). joined x (together ts)) (sym (together_snoc us t))),
      )

-- ---- its tests

both_ways : (a b : Bool) → (a ≡ true → b ≡ true) → (b ≡ true → a ≡ true) → a ≡ b
both_ways true b f g = sym (f refl)
both_ways false true f g = g refl
both_ways false false f g = refl

module _ (N P Q U : ℕ) (w : Word) where
  -- a word that is valid and not past the announcement
  abbrev is_within : Bool
  is_within =
      valid_word N w
      && (leb (length w.pages) P && (leb (length w.positions) Q && leb (next 0 (places w)) U))

  is_within_lem : Within N P Q U w → is_within ≡ true
  is_within_lem i = rw (
    agreeing_valid N w i.agreeing,
    le-leb (length w.pages) P i.pages,
    le-leb (length w.positions) Q i.positions,
    le-leb (next 0 (places w)) U i.below,
  )

  within_is : is_within ≡ true → Within N P Q U w
  within_is e =
      let a : Bool = leb (length w.pages) P in
      let b : Bool = leb (length w.positions) Q in
      let c : Bool = leb (next 0 (places w)) U in
      let p = and_parts (valid_word N w) (a && (b && c)) e in
      let q = and_parts a (b && c) p.1 in
      let r = and_parts b c q.1 in
      record {
        agreeing = valid_agreeing N w p.0;
        pages = leb-true (length w.pages) P q.0;
        positions = leb-true (length w.positions) Q r.0;
        below = leb-true (next 0 (places w)) U r.1;
      }

  tests_within : Tests (not is_within) (BadWord N w ⊎ Past P Q U w)
  tests_within =
      let a : Bool = leb (length w.pages) P in
      let b : Bool = leb (length w.positions) Q in
      let c : Bool = leb (next 0 (places w)) U in
      tests_fails (valid_word N w) (a && (b && c)) _ _ (tests_word N w)
      (tests_fails a (b && c) _ _ (tests_above (length w.pages) P)
      (tests_fails b c _ _ (tests_above (length w.positions) Q) (tests_above (next 0 (places w)) U)))

module _ (v N P Q U : ℕ) (ts : List Word) (before : List ℕ) (s : Stream) (room : List ℕ)
    (o : Underway v N P Q U ts before s room) where
  pub led_size : size_of s ≡ stream_size v N P Q U
  unfolding size_of
  led_size = rw o.session

  -- it goes on, and its block has room
  pub led_on : (NotLive s → ⊥) × (size_of s ≤ length room)
  led_on =
      let l : live s ≡ true = ap live o.session ∙ reached_live v N P Q U (together ts) o.within o.announced in
      let b : List ℕ = partly_word v N P Q U (together ts) in
      let n = length_word v N P Q U (together ts) in
      let e = length_laid b before (omega (arith, n, o.fits)) in
      ((tests_live s).1 (ap not l), omega (arith, led_size, o.fits, e, ap length o.room_is))

  pub tests_run : (t : Word)
      → Tests (not (follows s t)) (BadWord N (together (ts ++ (t ∷ []))) ⊎ Past P Q U (together (ts ++ (t ∷ []))))
  tests_run t =
      let w : Word = together ts in
      let e : follows s t ≡ is_within N P Q U (joined w t) =
      ap (λ (x : Stream). follows x t) o.session
      ∙ both_ways (follows (reached v N P Q U w) t) (is_within N P Q U (joined w t))
      (λ f. is_within_lem N P Q U (joined w t) (follows_within v N P Q U w o.within t f))
      (λ f. within_follows v N P Q U w o.within t (within_is N P Q U (joined w t) f)) in
      rw (e, together_snoc ts t) (tests_within N P Q U (joined w t))

  pub tests_close : Tests (not (complete s)) (OtherTotals P Q U (together ts))
  tests_close = rw o.session (tests_complete (reached v N P Q U (together ts)))
