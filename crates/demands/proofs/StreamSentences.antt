-- What the customer asks of a word that is handed over in runs, sentence by sentence [02 c]; StreamRefusals.antt has
-- the refusals. Like those of Demands.antt, the theorems are of any result that the promise of an exported call allows,
-- and of nothing else of the program. StreamWitnesses.antt shows that the premises can be met.
use mathlib.Core.Path.{◌≡◌, sym, ap, ◌∙◌}
use mathlib.Core.Logic.{inl}
use mathlib.Core.List.{List, [], ◌∷◌, ◌++◌}
use Prim.Native.Nat.{ℕ}
use native.Mathlib.Decide.{ℕ_discrete}
use native.Mathlib.Omega.{arith}
use lib.ListN.{length, replicate, length-replicate}
use Rattle.rules.specs.declared.Stream.{Stream}
use Rattle.rules.specs.Write.{laid}
use Rattle.rules.specs.Term.{Word, lent_word, next, places, write_term}
use Rattle.rules.specs.Stream.{Streaming, stream_size, announced, over, size_of, begin_term, put_postings}
use Rattle.rules.specs.Stream.{end_term, together}
use Rattle.termlaws.proofs.WordLaws.{valid_agreeing}
use Rattle.termlaws.proofs.Theorems.{written}
use Rattle.streamlaws.specs.Underway.{partly_word, reached, Within, Cut}
use Rattle.streamlaws.proofs.JoinedLaws.{joined_none, none_joined, together_snoc}
use Rattle.streamlaws.proofs.WordLaws.{length_word, word_none, length_term}
use Rattle.streamlaws.proofs.BeginLaws.{begin_accepted, word_announced}
use Rattle.streamlaws.proofs.SessionLaws.{put_accepted}
use Rattle.streamlaws.proofs.Theorems.{underway_end}
use Rattle.telling.specs.declared.HostWritten.{HostWritten}
use Rattle.telling.specs.declared.HostStreamed.{HostStreamed}
use Rattle.telling.specs.Told.{Told, told}
use Rattle.hostlaws.specs.Host.{HostTermWritten, HostTermBegun, HostPostingsPut, HostTermEnded}
use Rattle.demands.specs.Streams.{Led, Finishes, Leaves, Kept, Stays}
use Rattle.demands.specs.StreamFaults.{On, Answers, BadRun, WrongTotals}
use Rattle.demands.proofs.WriteLaws.{told_accepts}
use Rattle.demands.proofs.StreamLaws.{told_refusal, told_passed, passed_told, by_way, ten_ends}
use Rattle.demands.proofs.KeptLaws.{kept_same, kept_laid, kept_word, kept_close}
use Rattle.demands.proofs.LedLaws.{begun_underway, put_underway, led_underway, finishes}
use Rattle.demands.proofs.StreamRefusals.{begin_refused, begin_writes, put_answers, put_lays, end_answers}
use Rattle.demands.proofs.StreamRefusals.{end_points}

-- ---- "The finished block must be the same bytes as the whole-list writer gives, for every way of cutting. .. The same
-- bytes are owed where each call gets the room as the last one left it."

module _ (v N P Q U : ℕ) (before : List ℕ) (ts : List Word) (s : Stream) (room : List ℕ)
    (l : Led v N P Q U before ts s room) where
  module _ (r : HostStreamed) (after : List ℕ) (p : HostTermEnded s room r after) (z : r.refusal ≡ 0) where
    -- Where all calls are accepted, what they leave is what jf_write_term may leave of the runs together.
    pub stream_same : HostTermWritten v N (together ts) before (record { refusal = 0; length = r.length }) after
    stream_same =
        let m : Streaming = end_term s room in
        let e = told_passed m r after p z in
        let w = underway_end v N P Q U ts before s room (led_underway v N P Q U before ts s room l) e in
        let f = sym z ∙ told_refusal m r after p in
        (λ i. record { refusal = f i; length = (p i).length; room = (p i).room }) ∙ ap told w

    -- So it is what it does leave: the length and every byte.
    pub stream_whole : (w : HostWritten) (whole : List ℕ) → HostTermWritten v N (together ts) before w whole
        → (w.refusal ≡ 0) × (w.length ≡ r.length) × (whole ≡ after)
    stream_whole w whole q =
        let e = q ∙ sym stream_same in (
          ap (λ (t : Told). t.refusal) e,
          ap (λ (t : Told). t.length) e,
          ap (λ (t : Told). t.room) e,
        )

  -- "Runs are written straight into the room behind what is already there; bits not reached stay 0, and pointers are
  -- written by the closing call."
  pub stream_room : room ≡ laid (partly_word v N P Q U (together ts)) before
  stream_room = (led_underway v N P Q U before ts s room l).room_is

  -- "a run with no postings allowed": it is accepted, and changes nothing.
  pub stream_empty : (r : HostStreamed) (after : List ℕ) → HostPostingsPut s (lent_word [] [] []) room r after
      → (r.refusal ≡ 0) × Leaves r after s room
  unfolding together
  stream_empty r after p =
      let none : Word = lent_word [] [] [] in
      let o = led_underway v N P Q U before ts s room l in
      let z = passed_told (put_postings s none room) r after p
      (put_accepted v N P Q U ts before s room o none (rw (joined_none (together ts)) o.within)) in
      let k = put_underway v N P Q U before ts s room o none r after p z in
      let e : together (ts ++ (none ∷ [])) ≡ together ts = together_snoc ts none ∙ joined_none (together ts) in (
        z,
        (
          (put_lays s none room r after p z).0,
          k.session ∙ ap (reached v N P Q U) e ∙ sym o.session,
          k.room_is ∙ ap (λ (t : Word). laid (partly_word v N P Q U t) before) e ∙ sym o.room_is,
        ),
      )

  -- "A later room shorter than the block is 9 .., and the session goes on": what is handed back has come as far.
  pub goes_on_put : (t : Word) (short : List ℕ) (r : HostStreamed) (after : List ℕ)
      → HostPostingsPut s t short r after → r.refusal ≡ 9 → Led v N P Q U before ts r.stream room
  goes_on_put t short r after p e = rw ((put_answers s t short r after p).keeps e).1 l

  pub goes_on_end : (short : List ℕ) (r : HostStreamed) (after : List ℕ)
      → HostTermEnded s short r after → r.refusal ≡ 9 → Led v N P Q U before ts r.stream room
  goes_on_end short r after p e = rw ((end_answers s short r after p).keeps e).1 l

-- Where jf_write_term accepts the word, runs that are cut at page boundaries are all accepted, and so is the close, if
-- what is announced is the word's.
pub stream_accepted : (v N P Q U : ℕ) (ts : List Word) (room : List ℕ) (w : HostWritten) (whole : List ℕ)
    → HostTermWritten v N (together ts) room w whole → w.refusal ≡ 0 → Cut ts → P ≡ length (together ts).pages
    → Q ≡ length (together ts).positions → U ≡ next 0 (places (together ts))
    → (r : HostStreamed) (after : List ℕ) → HostTermBegun v N P Q U room r after
    → (r.refusal ≡ 0) × Finishes r.stream after ts
stream_accepted v N P Q U ts room w whole h z c p q u r after b =
    let t : Word = together ts in
    let m = written v N t room (told_accepts (write_term v N t room) w whole h z) in
    let i : Within N P Q U t = record {
      agreeing = valid_agreeing N t m.writable.valid;
      pages = omega arith;
      positions = omega arith;
      below = omega arith;
    } in
    let n = length_term v N P Q U t i (sym p) (sym q) (sym u) in
    let a = word_announced v N P Q U t i (sym p) (sym q) (sym u) m.writable.known
    m.writable.within (omega (arith, m.writable.reach)) in
    let d = passed_told (begin_term v N P Q U room) r after b
    (begin_accepted v N P Q U room a (omega (arith, n, m.fits))) in (
      d,
      finishes v N P Q U room t i (sym p) (sym q) (sym u) ts [] r.stream after
          (begun_underway v N P Q U room r after b d) c (sym (none_joined t)),
    )

-- ---- "After a refused announcement, a 10 or a finished close every call is 10, room unchanged."

-- The session that these hand back stays ended, with any room, a short one too.
pub over_stays : Stays over
unfolding over
over_stays = (
  λ t room r after p. (put_answers over t room r after p).ended (inl (λ e. omega arith)),
  λ room r after p. (end_answers over room r after p).ended (inl (λ e. omega arith)),
)

pub over_stays_begin : (v N P Q U : ℕ) (room : List ℕ) (r : HostStreamed) (after : List ℕ)
    → HostTermBegun v N P Q U room r after → (r.refusal ≡ 0 → ⊥) → Stays r.stream
over_stays_begin v N P Q U room r after p n = rw (begin_refused v N P Q U room r after p n).1 over_stays

pub over_stays_put : (s : Stream) (t : Word) (room : List ℕ) (r : HostStreamed) (after : List ℕ)
    → HostPostingsPut s t room r after → r.refusal ≡ 10 → Stays r.stream
over_stays_put s t room r after p e =
    rw (ten_ends (BadRun s t) s room r after (put_answers s t room r after p) e) over_stays

-- A close that is not 9 has finished or is 10.
pub over_stays_end : (s : Stream) (room : List ℕ) (r : HostStreamed) (after : List ℕ)
    → HostTermEnded s room r after → (r.refusal ≡ 9 → ⊥) → Stays r.stream
over_stays_end s room r after p n =
    let a = end_answers s room r after p in
    let e : r.stream ≡ over =
    by_way (WrongTotals s) s room r after a (r.stream ≡ over)
    (λ d. (a.ended d).1.1)
    (λ f. absurd (n f))
    (λ o f. (a.spoils o f).1)
    (λ f. (end_points s room r after p f).1) in
    rw e over_stays

-- ---- Bytes past the block that was announced are as they were after every call, accepted or refused, and the room is
-- as long as it was.

pub room_kept_begin : (v N P Q U : ℕ) (room : List ℕ) (r : HostStreamed) (after : List ℕ)
    → HostTermBegun v N P Q U room r after → Kept (stream_size v N P Q U) room after
room_kept_begin v N P Q U room r after p = elim (ℕ_discrete r.refusal 0) [
  | yes z ↦
      let o = begun_underway v N P Q U room r after p z in
      let n = ap length (sym (word_none v N P Q U)) ∙ length_word v N P Q U (together []) in
      rw (begin_writes v N P Q U room r after p z).2
      (kept_laid (stream_size v N P Q U) (announced v N P Q U) room n o.fits)
  | no n ↦ rw (begin_refused v N P Q U room r after p n).2 (kept_same (stream_size v N P Q U) room)
]

-- a later call, of which what it leaves where it is accepted is known
later_kept : (bad : Type 0) (s : Stream) (room : List ℕ) (r : HostStreamed) (after : List ℕ)
    → Answers bad s room r after → (On s room → r.refusal ≡ 0 → Kept (size_of s) room after)
    → Kept (size_of s) room after
later_kept bad s room r after a k =
    let n : ℕ = size_of s in
    by_way bad s room r after a (Kept n room after)
    (λ d. rw (a.ended d).1.2 (kept_same n room))
    (λ f. rw (a.keeps f).2 (kept_same n room))
    (λ o f. rw (a.spoils o f).2 (kept_laid n (replicate n 0) room (length-replicate n 0) o.1))
    (λ f. k (a.passed.0 f).0 f)

pub room_kept_put : (s : Stream) (t : Word) (room : List ℕ) (r : HostStreamed) (after : List ℕ)
    → HostPostingsPut s t room r after → Kept (size_of s) room after
room_kept_put s t room r after p =
    later_kept (BadRun s t) s room r after (put_answers s t room r after p)
    (λ o f. rw (put_lays s t room r after p f).2 (kept_word s t room o.1))

pub room_kept_end : (s : Stream) (room : List ℕ) (r : HostStreamed) (after : List ℕ)
    → HostTermEnded s room r after → Kept (size_of s) room after
room_kept_end s room r after p =
    later_kept (WrongTotals s) s room r after (end_answers s room r after p)
    (λ o f. rw (end_points s room r after p f).2 (kept_close s room o.1))
