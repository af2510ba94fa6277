-- A session that is under way: what it has laid, where it stands and what is in its room.
--
--   partly_word v N P Q U t  the block that N, P, Q and U announce for an index of version v, of which the word t is
--                         laid, no pointers yet
--   reached v N P Q U t   the session that has laid t
--   Within N P Q U t      t is valid, and not past what is announced
--   Underway v N P Q U ts before s room  after the announcement on the room `before` and the accepted runs ts the
--                         session is s and the room is `room`
--   as_made r              a call's result as that of a writer of whole lists: all of it but the session
--   Cut ts                each run is cut at a page boundary: a count for each page, and a position for each counted
use Rattle.std.specs.Prelude.{◌≡◌, List, [], ◌∷◌, ◌++◌, ℕ, ◌≤◌, length}
use Rattle.rules.specs.Verdict.{Accepted}
use Rattle.rules.specs.declared.Stream.{Stream}
use Rattle.rules.specs.Limits.{version}
use Rattle.rules.specs.Bytes.{sized}
use Rattle.rules.specs.List.{form_of}
use Rattle.rules.specs.Write.{Made, laid}
use Rattle.rules.specs.Term.{Word, total, sums, next, places}
use Rattle.rules.specs.Stream.{Streaming, announce_refusal, stream_size, together}
use Rattle.termlaws.specs.Words.{Agreeing}
use Rattle.streamlaws.specs.Partly.{partly, form_partly}

unfoldable pub partly_word : ℕ → ℕ → ℕ → ℕ → ℕ → Word → List ℕ
partly_word v N P Q U t =
    sized (version ∷
    (form_partly (form_of v N P) N P t.pages ++ (partly Q P (sums 0 t.counts) ++ partly U Q (places t))))

abbrev pub reached : ℕ → ℕ → ℕ → ℕ → ℕ → Word → Stream
reached v N P Q U t = record {
  mark = 1;
  version = v;
  n = N;
  pages = P;
  positions = Q;
  u = U;
  laid = length t.pages;
  filled = length t.positions;
  page = next 0 t.pages;
  base = next 0 (places t);
}

pub record Within (N P Q U : ℕ) (t : Word) : Type 0 where
  pub agreeing : Agreeing N t
  pub pages : length t.pages ≤ P
  pub positions : length t.positions ≤ Q
  pub below : next 0 (places t) ≤ U

pub record Underway (v N P Q U : ℕ) (ts : List Word) (before : List ℕ) (s : Stream) (room : List ℕ) : Type 0 where
  pub announced : announce_refusal v N P Q U ≡ Accepted
  pub fits : stream_size v N P Q U ≤ length before
  pub within : Within N P Q U (together ts)
  pub session : s ≡ reached v N P Q U (together ts)
  pub room_is : room ≡ laid (partly_word v N P Q U (together ts)) before

abbrev pub as_made : Streaming → Made
as_made r = record { refusal = r.refusal; size = r.size; room = r.room }

unfoldable pub Cut : List Word → Type 0
Cut [] = Unit {0}
Cut (t ∷ ts) = (length t.pages ≡ length t.counts) × (total t.counts ≡ length t.positions) × Cut ts
