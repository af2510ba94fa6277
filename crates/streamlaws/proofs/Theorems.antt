-- The theorems of a word handed over in runs, each in a sentence: whatever the cut, it is written as the whole-list
-- writer writes it.
use mathlib.Core.Path.{◌≡◌, refl, sym, ap, ◌∙◌, subst}
use mathlib.Core.Logic.{inl, inr}
use mathlib.Core.List.{List, [], ◌∷◌, ◌++◌, append_assoc, append-nil}
use Prim.Native.Nat.{ℕ}
use native.Mathlib.Omega.{arith}
use lib.ListN.{length, length-append}
use Rattle.rules.specs.Verdict.{Accepted}
use Rattle.rules.specs.declared.Stream.{Stream}
use Rattle.rules.specs.Refusal.{number}
use Rattle.rules.specs.Term.{Word, total, next, places, write_term}
use Rattle.rules.specs.Stream.{Streaming, over, live, begin_term, going, put_postings, end_term, put_all, together}
use Rattle.rules.specs.Stream.{stream_word}
use Rattle.termlaws.proofs.WordLaws.{valid_agreeing}
use Rattle.termlaws.proofs.Theorems.{written}
use Rattle.streamlaws.specs.Joined.{joined}
use Rattle.streamlaws.specs.Underway.{Within, Underway, as_made, Cut}
use Rattle.streamlaws.proofs.AppendLaws.{total_append}
use Rattle.streamlaws.proofs.JoinedLaws.{joined_assoc, joined_none, none_joined, together_snoc}
use Rattle.streamlaws.proofs.WordLaws.{length_term}
use Rattle.streamlaws.proofs.FollowLaws.{within_first}
use Rattle.streamlaws.proofs.BeginLaws.{outcome_accepted, begin_outcome, begin_accepted, word_announced}
use Rattle.streamlaws.proofs.SessionLaws.{put_outcome, put_accepted, end_written, end_accepted}

-- ---- calls made one at a time

-- An accepted announcement is under way with nothing laid.
pub underway_begin : (v N P Q U : ℕ) (room : List ℕ) → (begin_term v N P Q U room).refusal ≡ Accepted
    → Underway v N P Q U [] room (begin_term v N P Q U room).stream (begin_term v N P Q U room).room
underway_begin v N P Q U room e =
    outcome_accepted v N P Q U [] room (begin_term v N P Q U room) (begin_outcome v N P Q U room) e

module _ (v N P Q U : ℕ) (ts : List Word) (before : List ℕ) (s : Stream) (room : List ℕ)
    (o : Underway v N P Q U ts before s room) where
  -- An accepted run is under way behind those before it.
  pub underway_put : (t : Word) → (put_postings s t room).refusal ≡ Accepted
      → Underway v N P Q U (ts ++ (t ∷ [])) before (put_postings s t room).stream (put_postings s t room).room
  underway_put t e =
      outcome_accepted v N P Q U (ts ++ (t ∷ [])) before (put_postings s t room)
      (put_outcome v N P Q U ts before s room o t) e

  -- An accepted close has written what the whole-list writer writes.
  pub underway_end : (end_term s room).refusal ≡ Accepted → as_made (end_term s room) ≡ write_term v N (together ts) before
  underway_end e = end_written v N P Q U ts before s room o e

-- ---- a session that has ended

put_over : (t : Word) (room : List ℕ) → (put_postings over t room).stream ≡ over
unfolding put_postings going live over
put_over t room = refl

end_over : (room : List ℕ) → number (end_term over room).refusal ≡ 10
unfolding end_term going live over
end_over room = refl

puts_over : (ts : List Word) (r : Streaming) → r.stream ≡ over → (put_all ts r).stream ≡ over
unfolding put_all
puts_over [] r e = e
puts_over (t ∷ ts) r e = puts_over ts (put_postings r.stream t r.room)
    (ap (λ (s : Stream). (put_postings s t r.room).stream) e ∙ put_over t r.room)

-- it is never closed
ended : (ts : List Word) (r : Streaming) → r.stream ≡ over
    → (end_term (put_all ts r).stream (put_all ts r).room).refusal ≡ Accepted → ⊥
ended ts r e a =
    let q : Streaming = put_all ts r in
    let z = ap (λ (s : Stream). number (end_term s q.room).refusal) (puts_over ts r e) ∙ end_over q.room in
    omega (arith, z, ap number a)

-- ---- all runs

puts_underway : (v N P Q U : ℕ) (before : List ℕ) (ts us : List Word) (r : Streaming)
    → Underway v N P Q U us before r.stream r.room
    → (end_term (put_all ts r).stream (put_all ts r).room).refusal ≡ Accepted
    → Underway v N P Q U (us ++ ts) before (put_all ts r).stream (put_all ts r).room
unfolding put_all
puts_underway v N P Q U before [] us r o e = rw append-nil o
puts_underway v N P Q U before (t ∷ ts) us r o e =
    let q : Streaming = put_postings r.stream t r.room in
    elim (put_outcome v N P Q U us before r.stream r.room o t) [
      | inl p ↦ subst (λ (l : List Word). Underway v N P Q U l before (put_all ts q).stream (put_all ts q).room)
          (append_assoc us (t ∷ []) ts) (puts_underway v N P Q U before ts (us ++ (t ∷ [])) q p.1 e)
      | inr p ↦ absurd (ended ts q p.1 e)
    ]

-- A session whose close is accepted has written what the whole-list writer writes of the runs together.
pub stream_sound : (v N P Q U : ℕ) (ts : List Word) (room : List ℕ) → (stream_word v N P Q U ts room).refusal ≡ Accepted
    → as_made (stream_word v N P Q U ts room) ≡ write_term v N (together ts) room
unfolding stream_word
stream_sound v N P Q U ts room e =
    let b : Streaming = begin_term v N P Q U room in
    let q : Streaming = put_all ts b in
    elim (begin_outcome v N P Q U room) [
      | inl p ↦
          underway_end v N P Q U ts room q.stream q.room (puts_underway v N P Q U room ts [] b p.1 e) e
      | inr p ↦ absurd (ended ts b p.1 e)
    ]

-- ---- enough for all calls to be accepted

module _ (v N P Q U : ℕ) (before : List ℕ) (w : Word) (i : Within N P Q U w) (p : length w.pages ≡ P)
    (q : length w.positions ≡ Q) (u : next 0 (places w) ≡ U) where
  -- the runs ts lead from the runs us to the word w
  puts_accepted : (ts us : List Word) (r : Streaming) → Underway v N P Q U us before r.stream r.room → Cut ts
      → w ≡ joined (together us) (together ts) → (end_term (put_all ts r).stream (put_all ts r).room).refusal ≡ Accepted
  unfolding put_all together Cut
  puts_accepted [] us r o c e =
      let f : w ≡ together us = e ∙ joined_none (together us) in
      end_accepted v N P Q U us before r.stream r.room o (rw f at p) (rw f at q) (rw f at u)
  puts_accepted (t ∷ ts) us r o c e =
      let a : Word = together us in
      let f : w ≡ joined (joined a t) (together ts) = e ∙ sym (joined_assoc a t (together ts)) in
      let b = o.within.agreeing in
      let l : length (a.pages ++ t.pages) ≡ length (a.counts ++ t.counts) =
      rw (length-append, length-append a.counts t.counts) (omega (arith, b.lengths, c.0)) in
      let s : total (a.counts ++ t.counts) ≡ length (a.positions ++ t.positions) =
      rw (total_append, length-append) (omega (arith, b.summed, c.1)) in
      let d = within_first N P Q U (joined a t) (together ts) (rw f at i) l s in
      let g = put_accepted v N P Q U us before r.stream r.room o t d in
      puts_accepted ts (us ++ (t ∷ [])) (put_postings r.stream t r.room)
      (underway_put v N P Q U us before r.stream r.room o t g) c.2
      (f ∙ ap (λ (x : Word). joined x (together ts)) (sym (together_snoc us t)))

-- Runs that are cut at page boundaries, and together a word that the whole-list writer accepts, are accepted where
-- what was announced is that word's.
pub stream_complete : (v N P Q U : ℕ) (ts : List Word) (room : List ℕ) → Cut ts
    → (write_term v N (together ts) room).refusal ≡ Accepted → P ≡ length (together ts).pages
    → Q ≡ length (together ts).positions → U ≡ next 0 (places (together ts))
    → (stream_word v N P Q U ts room).refusal ≡ Accepted
unfolding stream_word
stream_complete v N P Q U ts room c e p q u =
    let w : Word = together ts in
    let m = written v N w room e in
    let i : Within N P Q U w = record {
      agreeing = valid_agreeing N w m.writable.valid;
      pages = omega arith;
      positions = omega arith;
      below = omega arith;
    } in
    let n = length_term v N P Q U w i (sym p) (sym q) (sym u) in
    let a = word_announced v N P Q U w i (sym p) (sym q) (sym u) m.writable.known m.writable.within
    (omega (arith, m.writable.reach)) in
    let b = begin_accepted v N P Q U room a (omega (arith, n, m.fits)) in
    puts_accepted v N P Q U room w i (sym p) (sym q) (sym u) ts [] (begin_term v N P Q U room)
    (underway_begin v N P Q U room b) c (sym (none_joined w))
