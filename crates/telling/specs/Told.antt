-- The library's answers as a host sees them: refusals by document 01's numbers.
--
--   told m                  a writer's result, its refusal as a number
--   told_of r room          the same, of what an exported call answers and the room after it
--   told_stream m           the result of a session's call, its refusal as a number
--   told_stream_of r room   the same, of what an exported call answers and the room after it
--   heard a                 the result of a run of questions, its refusal as a number
--   heard_of r room         the same, of what the exported call answers and the room after it
--   seen m                  the result of a screen, its refusal as a number
--   seen_of r pages counts  the same, of what the exported call answers and the rooms after it
use Rattle.std.specs.Prelude.{List, ℕ}
use Rattle.rules.specs.declared.Stream.{Stream}
use Rattle.rules.specs.Refusal.{number}
use Rattle.rules.specs.Write.{Made}
use Rattle.rules.specs.Stream.{Streaming}
use Rattle.rules.specs.Ask.{Asked}
use Rattle.rules.specs.Screen.{Screening}
use Rattle.telling.specs.declared.HostWritten.{HostWritten}
use Rattle.telling.specs.declared.HostStreamed.{HostStreamed}
use Rattle.telling.specs.declared.HostAsked.{HostAsked}
use Rattle.telling.specs.declared.HostScreened.{HostScreened}

pub record Told : Type 0 where
  pub refusal : ℕ
  pub length : ℕ
  pub room : List ℕ

abbrev pub told : Made → Told
told m = record { refusal = number m.refusal; length = m.size; room = m.room }

abbrev pub told_of : HostWritten → List ℕ → Told
told_of r room = record { refusal = r.refusal; length = r.length; room = room }

pub record ToldStream : Type 0 where
  pub refusal : ℕ
  pub length : ℕ
  pub stream : Stream
  pub room : List ℕ

abbrev pub told_stream : Streaming → ToldStream
told_stream m = record { refusal = number m.refusal; length = m.size; stream = m.stream; room = m.room }

abbrev pub told_stream_of : HostStreamed → List ℕ → ToldStream
told_stream_of r room = record { refusal = r.refusal; length = r.length; stream = r.stream; room = room }

pub record Heard : Type 0 where
  pub refusal : ℕ
  pub answered : ℕ
  pub used : ℕ
  pub room : List ℕ

abbrev pub heard : Asked → Heard
heard a = record { refusal = number a.refusal; answered = a.answered; used = a.used; room = a.room }

abbrev pub heard_of : HostAsked → List ℕ → Heard
heard_of r room = record { refusal = r.refusal; answered = r.answered; used = r.used; room = room }

pub record Seen : Type 0 where
  pub refusal : ℕ
  pub found : ℕ
  pub full : ℕ
  pub next : ℕ
  pub pages : List ℕ
  pub counts : List ℕ

abbrev pub seen : Screening → Seen
seen m = record {
  refusal = number m.refusal;
  found = m.found;
  full = m.full;
  next = m.next;
  pages = m.pages;
  counts = m.counts;
}

abbrev pub seen_of : HostScreened → List ℕ → List ℕ → Seen
seen_of r pages counts = record {
  refusal = r.refusal;
  found = r.found;
  full = r.full;
  next = r.next;
  pages = pages;
  counts = counts;
}
