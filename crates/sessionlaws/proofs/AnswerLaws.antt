-- Laws of what announcing and closing a word answer, one for each answer; of a session that goes on LiveLaws has them.
use mathlib.Core.Bool.{true, false}
use mathlib.Core.Path.{◌≡◌, ◌∙◌}
use mathlib.Core.List.{List}
use Prim.Native.Nat.{ℕ, ◌≤◌, ◌<◌}
use borrow.Author.Tests.{lt-ltb, le-ltb, eq-eqb, ne_eqb}
use lib.Dec.{eqb}
use lib.ListN.{length, replicate}
use Rattle.std.specs.Prelude.{Result}
use Rattle.rules.specs.declared.Refusal.{Refusal}
use Rattle.rules.specs.Verdict.{Accepted, Room, Lists}
use Rattle.rules.specs.declared.Stream.{Stream}
use Rattle.rules.specs.declared.Streamed.{Streamed}
use Rattle.rules.specs.Refusal.{accepted}
use Rattle.rules.specs.Write.{laid}
use Rattle.rules.specs.List.{form_of}
use Rattle.rules.specs.InPlace.{from, pointed, form_pointed}
use Rattle.rules.specs.Stream.{announce_refusal, stream_size, announced, opened, over, live, stream_form, second_at}
use Rattle.rules.specs.Stream.{third_at, complete}
use Rattle.rules.specs.Stream.{streaming, goes, size_of, spoilt, begin_term, pointed_word, end_term}
use Rattle.laws.proofs.RefusalLaws.{true_accepted}
use Rattle.sessionlaws.specs.declared.Layout.{Layout}
use Rattle.sessionlaws.specs.Session.{Announced}
use Rattle.sessionlaws.specs.Layout.{layout_of}
use Rattle.sessionlaws.proofs.LiveLaws.{going_dead, going_short, going_on}
use Rattle.sessionlaws.proofs.LayoutLaws.{counts_tell, layout_tells, second_is, third_is}

-- a result by its fields, and the room after it
pub streamed_is : (r : Streamed) (after : List ℕ) (t : Result ℕ Refusal) (s : Stream) (room : List ℕ)
    → (r.size ≡ t) × (r.stream ≡ s) → after ≡ room → streaming r after ≡ streaming (record { size = t; stream = s }) room
streamed_is r after t s room (a, b) e = rw (a, b, e)

module _ (v N P Q U : ℕ) (room : List ℕ) where
  pub begin_refused : accepted (announce_refusal v N P Q U) ≡ false
      → begin_term v N P Q U room ≡ goes (announce_refusal v N P Q U) over room
  unfolding begin_term
  begin_refused e = rw e

  module _ (told : announce_refusal v N P Q U ≡ Accepted) where
    passes : accepted (announce_refusal v N P Q U) ≡ true
    passes = true_accepted (announce_refusal v N P Q U) told

    pub begin_short : length room < stream_size v N P Q U → begin_term v N P Q U room ≡ goes Room over room
    unfolding begin_term
    begin_short h = rw (passes, lt-ltb (length room) (stream_size v N P Q U) h)

    pub begin_opened : stream_size v N P Q U ≤ length room
        → begin_term v N P Q U room ≡ goes Accepted (opened v N P Q U) (laid (announced v N P Q U) room)
    unfolding begin_term
    begin_opened h = rw (passes, le-ltb (length room) (stream_size v N P Q U) h)

-- ---- whether all is laid

module _ (s : Stream) where
  pub complete_laid : (s.laid ≡ s.pages → ⊥) → complete s ≡ false
  unfolding complete
  complete_laid h = rw (ne_eqb s.laid s.pages h)

  pub complete_filled : s.laid ≡ s.pages → (s.filled ≡ s.positions → ⊥) → complete s ≡ false
  unfolding complete
  complete_filled e h = rw (eq-eqb s.laid s.pages e, ne_eqb s.filled s.positions h)

  pub complete_last : s.laid ≡ s.pages → s.filled ≡ s.positions → complete s ≡ eqb s.base s.u
  unfolding complete
  complete_last e f = rw (eq-eqb s.laid s.pages e, eq-eqb s.filled s.positions f)

-- ---- the close

module _ (s : Stream) (room : List ℕ) where
  pub end_dead : live s ≡ false → end_term s room ≡ goes Lists over room
  unfolding end_term
  end_dead e = going_dead s room _ e

  module _ (goes_on : live s ≡ true) where
    pub end_short : length room < size_of s → end_term s room ≡ goes Room s room
    unfolding end_term
    end_short h = going_short s room _ goes_on h

    module _ (long : size_of s ≤ length room) where
      pub end_spoilt : complete s ≡ false → end_term s room ≡ goes Lists over (laid (replicate (size_of s) 0) room)
      unfolding end_term spoilt
      end_spoilt e = going_on s room _ goes_on long ∙ rw e

      pub end_whole : complete s ≡ true → end_term s room ≡ record {
        refusal = Accepted;
        size = size_of s;
        stream = over;
        room = pointed_word s room;
      }
      unfolding end_term
      end_whole e = going_on s room _ goes_on long ∙ rw e

  -- the pointers, by the layout of what was announced
  pub pointed_told : Announced s.n s.pages s.positions s.u → (g : Layout)
      → g ≡ layout_of s.version s.n s.pages s.positions s.u
      → from g.third (pointed g.positions.u g.positions.n)
      (from g.second (pointed g.counts.u g.counts.n)
      (from 5 (form_pointed (form_of s.version g.pages.u g.pages.n) g.pages.u g.pages.n) room))
      ≡ pointed_word s room
  unfolding pointed_word stream_form second_at third_at
  pointed_told a g e =
      let (n, p, q, u) = layout_tells s.version s.n s.pages s.positions s.u a g e in
      let c = counts_tell s.version s.n s.pages s.positions s.u a g e in
      rw (
        n,
        p,
        q,
        u,
        c.0,
        c.1,
        second_is s.version s.n s.pages s.positions s.u a g e,
        third_is s.version s.n s.pages s.positions s.u a g e,
      )
