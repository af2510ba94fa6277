-- A word written as the manual streams by: announced, handed over in runs, and closed [02 c].
--
--   announce_refusal v N P Q U   the refusal of an announcement, for an index of version v, of P pages and Q positions
--                             whose elements end at U
--   counts_at, positions_at     the bytes at which the counts and the positions start
--   stream_size v N P Q U      the length of the block that is announced; `size_of` that of a session
--   announced v N P Q U       that block with its headers, and zeros for the rest
--   opened v N P Q U          the session that an announcement opens; `over` is one that has ended
--   stream_form s              the form of the pages of session s [02 f]
--   live s                    whether session s goes on: its announcement is accepted, and no more is laid than that
--   added_word s t room        the room with the postings t laid behind those of session s
--   follows s t               whether they may follow: a word by themselves, above what is laid, not past what was
--                             announced
--   advanced s t              the session behind them
--   complete s                whether all that was announced is laid
--   pointed_word s room        the room with the pointers of the three lists, or a bitmap's numbers
--   Streaming                 a call's result; `spoilt` is that of bad postings or totals
--   going s room r            r, where the session goes on and the room is long enough
--   begin_term, put_postings, end_term  the calls
--   together ts               the word that runs are together
--   stream_word v N P Q U ts room  a whole session with the runs ts: each call gets the room as the last one left it
use Rattle.std.specs.Prelude.{Bool, cond, not, ◌&&◌, ◌||◌, List, [], ◌∷◌, ◌++◌, ℕ, ◌+◌, ltb, leb, eqb, length, replicate}
use Rattle.std.specs.Result.{result_unwrap_or}
use Rattle.rules.specs.Verdict.{Verdict, verdict}
use Rattle.rules.specs.Verdict.{Accepted, Version, Limit, Room, Lists}
use Rattle.rules.specs.declared.Stream.{Stream}
use Rattle.rules.specs.declared.Streamed.{Streamed}
use Rattle.rules.specs.Refusal.{accepted}
use Rattle.rules.specs.Limits.{limit, version, last_edition, up_to}
use Rattle.rules.specs.Bytes.{sized}
use Rattle.rules.specs.List.{rising, size, Form, form_of, form_size}
use Rattle.rules.specs.Write.{laid}
use Rattle.rules.specs.InPlace.{emptied, from, added, pointed, form_emptied, form_added, form_pointed}
use Rattle.rules.specs.Term.{Word, lent_word, sums, next, placed, valid_word}

unfoldable pub announce_refusal : ℕ → ℕ → ℕ → ℕ → ℕ → Verdict
announce_refusal v N P Q U =
    cond (not (up_to last_edition v)) Version
    (cond (ltb limit N || ltb limit U) Limit
    (cond (ltb N P || (ltb Q P || (ltb U Q || ((eqb P 0 && ltb 0 Q) || (eqb Q 0 && ltb 0 U))))) Lists
    Accepted))

unfoldable pub counts_at : ℕ → ℕ → ℕ → ℕ
counts_at v N P = 5 + form_size (form_of v N P) N P

unfoldable pub positions_at : ℕ → ℕ → ℕ → ℕ → ℕ
positions_at v N P Q = counts_at v N P + size Q P

unfoldable pub stream_size : ℕ → ℕ → ℕ → ℕ → ℕ → ℕ
stream_size v N P Q U = positions_at v N P Q + size U Q

unfoldable pub announced : ℕ → ℕ → ℕ → ℕ → ℕ → List ℕ
announced v N P Q U = sized (version ∷ (form_emptied (form_of v N P) N P ++ (emptied Q P ++ emptied U Q)))

unfoldable pub opened : ℕ → ℕ → ℕ → ℕ → ℕ → Stream
opened v N P Q U = record {
  mark = 1;
  version = v;
  n = N;
  pages = P;
  positions = Q;
  u = U;
  laid = 0;
  filled = 0;
  page = 0;
  base = 0;
}

unfoldable pub over : Stream
over = record { mark = 0; version = 0; n = 0; pages = 0; positions = 0; u = 0; laid = 0; filled = 0; page = 0; base = 0 }

unfoldable pub live : Stream → Bool
live s =
    eqb s.mark 1
    && (accepted (announce_refusal s.version s.n s.pages s.positions s.u)
    && (leb s.laid s.pages && leb s.filled s.positions))

unfoldable pub stream_form : Stream → Form
stream_form s = form_of s.version s.n s.pages

-- the bytes at which the counts and the positions of a session's block start
unfoldable pub second_at : Stream → ℕ
second_at s = counts_at s.version s.n s.pages

unfoldable pub third_at : Stream → ℕ
third_at s = positions_at s.version s.n s.pages s.positions

unfoldable pub added_word : Stream → Word → List ℕ → List ℕ
added_word s t room =
    from (third_at s)
    (added s.u s.positions s.filled (placed s.base t.counts t.positions))
    (from (second_at s) (added s.positions s.pages s.laid (sums s.filled t.counts))
    (from 5 (form_added (stream_form s) s.n s.pages s.laid t.pages) room))

unfoldable pub follows : Stream → Word → Bool
follows s t =
    valid_word s.n t
    && (rising s.page s.n t.pages
    && (leb (s.laid + length t.pages) s.pages
    && (leb (s.filled + length t.positions) s.positions
    && leb (next s.base (placed s.base t.counts t.positions)) s.u)))

unfoldable pub advanced : Stream → Word → Stream
advanced s t = record {
  mark = 1;
  version = s.version;
  n = s.n;
  pages = s.pages;
  positions = s.positions;
  u = s.u;
  laid = s.laid + length t.pages;
  filled = s.filled + length t.positions;
  page = next s.page t.pages;
  base = next s.base (placed s.base t.counts t.positions);
}

unfoldable pub complete : Stream → Bool
complete s = eqb s.laid s.pages && (eqb s.filled s.positions && eqb s.base s.u)

-- a call's result: refusal, length of a finished block, the session and the room after it
pub record Streaming : Type 0 where
  pub refusal : Verdict
  pub size : ℕ
  pub stream : Stream
  pub room : List ℕ

abbrev pub streaming : Streamed → List ℕ → Streaming
streaming r room = record { refusal = verdict r.size; size = result_unwrap_or r.size 0; stream = r.stream; room = room }

abbrev pub goes : Verdict → Stream → List ℕ → Streaming
goes r s room = record { refusal = r; size = 0; stream = s; room = room }

unfoldable pub size_of : Stream → ℕ
size_of s = stream_size s.version s.n s.pages s.positions s.u

-- bad postings or totals: the session ends, and its block is all zero
unfoldable pub spoilt : Stream → List ℕ → Streaming
spoilt s room = goes Lists over (laid (replicate (size_of s) 0) room)

unfoldable pub begin_term : ℕ → ℕ → ℕ → ℕ → ℕ → List ℕ → Streaming
begin_term v N P Q U room =
    cond (not (accepted (announce_refusal v N P Q U))) (goes (announce_refusal v N P Q U) over room)
    (cond (ltb (length room) (stream_size v N P Q U)) (goes Room over room)
    (goes Accepted (opened v N P Q U) (laid (announced v N P Q U) room)))

-- what each later call tests first, and then is r
unfoldable pub going : Stream → List ℕ → Streaming → Streaming
going s room r =
    cond (not (live s)) (goes Lists over room)
    (cond (ltb (length room) (size_of s)) (goes Room s room) r)

unfoldable pub put_postings : Stream → Word → List ℕ → Streaming
put_postings s t room =
    going s room (cond (not (follows s t)) (spoilt s room) (goes Accepted (advanced s t) (added_word s t room)))

unfoldable pub pointed_word : Stream → List ℕ → List ℕ
pointed_word s room =
    from (third_at s) (pointed s.u s.positions)
    (from (second_at s) (pointed s.positions s.pages)
    (from 5 (form_pointed (stream_form s) s.n s.pages) room))

unfoldable pub end_term : Stream → List ℕ → Streaming
end_term s room =
    going s room
    (cond (not (complete s)) (spoilt s room)
    (record { refusal = Accepted; size = size_of s; stream = over; room = pointed_word s room }))

-- runs one after the other
unfoldable pub put_all : List Word → Streaming → Streaming
put_all [] r = r
put_all (t ∷ ts) r = put_all ts (put_postings r.stream t r.room)

unfoldable pub together : List Word → Word
together [] = lent_word [] [] []
together (t ∷ ts) =
    lent_word
    (t.pages ++ (together ts).pages)
    (t.counts ++ (together ts).counts)
    (t.positions ++ (together ts).positions)

unfoldable pub stream_word : ℕ → ℕ → ℕ → ℕ → ℕ → List Word → List ℕ → Streaming
stream_word v N P Q U ts room =
    let r : Streaming = put_all ts (begin_term v N P Q U room) in
    end_term r.stream r.room
