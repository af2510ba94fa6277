-- What the promises of the exported calls leave open: nothing. Each theorem is of the predicate that the call's
-- contract cites; a result is the answer and, where room is lent, the room after the call.
use mathlib.Core.Path.{◌≡◌, refl}
use mathlib.Core.List.{List}
use Prim.Native.Nat.{ℕ}
use Rattle.rules.specs.declared.Stream.{Stream}
use Rattle.rules.specs.Term.{Word}
use Rattle.rules.specs.Promises.{Determined}
use Rattle.rules.proofs.Unique.{by_equation}
use Rattle.telling.specs.declared.HostWritten.{HostWritten}
use Rattle.telling.specs.declared.HostStreamed.{HostStreamed}
use Rattle.telling.specs.declared.HostAsked.{HostAsked}
use Rattle.telling.specs.declared.HostScreened.{HostScreened}
use Rattle.telling.specs.Told.{Told, told_of, ToldStream, told_stream_of, heard_of, seen_of}
use Rattle.hostlaws.specs.Host.{HostListChecked, HostListWritten, HostTermChecked, HostTermWritten, HostTermBegun}
use Rattle.hostlaws.specs.Host.{HostPostingsPut, HostTermEnded, HostIndexChecked, HostIndexClosed, HostAnswered}
use Rattle.hostlaws.specs.Host.{HostScreenShown}

pub check_list_unique : (s : List ℕ) → Determined {A = ℕ} (λ r. HostListChecked s r)
check_list_unique s = by_equation (λ r. r) (λ r. r) (λ r. refl) _

pub check_term_unique : (v : ℕ) (s : List ℕ) → Determined {A = ℕ} (λ r. HostTermChecked v s r)
check_term_unique v s = by_equation (λ r. r) (λ r. r) (λ r. refl) _

pub check_index_unique : (s : List ℕ) → Determined {A = ℕ} (λ r. HostIndexChecked s r)
check_index_unique s = by_equation (λ r. r) (λ r. r) (λ r. refl) _

-- what the writers and closing promise, of an answer and its room
told_unique : (t : Told) → Determined {A = HostWritten × List ℕ} (λ p. told_of p.0 p.1 ≡ t)
told_unique =
    by_equation
    (λ p. told_of p.0 p.1)
    (λ t. (record { refusal = t.refusal; length = t.length }, t.room))
    (λ p. refl)

pub write_list_unique : (U : ℕ) (xs room : List ℕ)
    → Determined {A = HostWritten × List ℕ} (λ p. HostListWritten U xs room p.0 p.1)
write_list_unique U xs room = told_unique _

pub write_term_unique : (v N : ℕ) (t : Word) (room : List ℕ)
    → Determined {A = HostWritten × List ℕ} (λ p. HostTermWritten v N t room p.0 p.1)
write_term_unique v N t room = told_unique _

-- what the calls of a session promise
told_stream_unique : (t : ToldStream)
    → Determined {A = HostStreamed × List ℕ} (λ p. told_stream_of p.0 p.1 ≡ t)
told_stream_unique =
    by_equation
    (λ p. told_stream_of p.0 p.1)
    (λ t. (record { refusal = t.refusal; length = t.length; stream = t.stream }, t.room))
    (λ p. refl)

pub begin_term_unique : (v N P Q U : ℕ) (room : List ℕ)
    → Determined {A = HostStreamed × List ℕ} (λ p. HostTermBegun v N P Q U room p.0 p.1)
begin_term_unique v N P Q U room = told_stream_unique _

pub put_postings_unique : (s : Stream) (t : Word) (room : List ℕ)
    → Determined {A = HostStreamed × List ℕ} (λ p. HostPostingsPut s t room p.0 p.1)
put_postings_unique s t room = told_stream_unique _

pub end_term_unique : (s : Stream) (room : List ℕ)
    → Determined {A = HostStreamed × List ℕ} (λ p. HostTermEnded s room p.0 p.1)
end_term_unique s room = told_stream_unique _

pub close_index_unique : (buffer : List ℕ) (used v N T : ℕ)
    → Determined {A = HostWritten × List ℕ} (λ p. HostIndexClosed buffer used v N T p.0 p.1)
close_index_unique buffer used v N T = told_unique _

pub ask_unique : (s qs room : List ℕ)
    → Determined {A = HostAsked × List ℕ} (λ p. HostAnswered s qs room p.0 p.1)
ask_unique s qs room =
    by_equation
    (λ p. heard_of p.0 p.1)
    (λ h. (record { refusal = h.refusal; answered = h.answered; used = h.used }, h.room))
    (λ p. refl)
    _

pub screen_unique : (s : List ℕ) (b n : ℕ) (ts pages counts : List ℕ)
    → Determined {A = HostScreened × List ℕ × List ℕ}
    (λ p. HostScreenShown s b n ts pages counts p.0 p.1 p.2)
screen_unique s b n ts pages counts =
    by_equation
    (λ p. seen_of p.0 p.1 p.2)
    (λ h. (record { refusal = h.refusal; found = h.found; full = h.full; next = h.next }, h.pages, h.counts))
    (λ p. refl)
    _
