-- A word handed over in runs, as a host goes through it: call by call, each with the session and the room that the last
-- one left [02 c].
--
--   Handed s room ts s' room'  session s with `room` accepts the runs ts one after the other, and comes to s' and room'
--   Led v N P Q U before ts s room  P pages and Q positions whose elements end at U, announced on the room `before` for
--                      an index of version v, and then the runs ts are accepted, and come to session s and `room`
--   Finishes s room ts  whatever session s with `room` answers, the runs ts and then the close are accepted
--   Leaves r after s room  the result r hands back session s, tells no length, and leaves `room`
--   Kept n room after  only bytes before byte n may differ: the room is as long, and from there on the same
--   Stays s            every call on session s is 10, hands s back and leaves the room as it was
use Rattle.std.specs.Prelude.{◌≡◌, List, [], ◌∷◌, ℕ, length, drop}
use Rattle.rules.specs.declared.Stream.{Stream}
use Rattle.rules.specs.Term.{Word}
use Rattle.telling.specs.declared.HostStreamed.{HostStreamed}
use Rattle.hostlaws.specs.Host.{HostTermBegun, HostPostingsPut, HostTermEnded}

abbrev pub Handed : Stream → List ℕ → List Word → Stream → List ℕ → Type 0
Handed s room [] s' room' = (s' ≡ s) × (room' ≡ room)
Handed s room (t ∷ ts) s' room' =
    (r : HostStreamed)
    × (after : List ℕ)
    × HostPostingsPut s t room r after
    × (r.refusal ≡ 0)
    × Handed r.stream after ts s' room'

abbrev pub Led : ℕ → ℕ → ℕ → ℕ → ℕ → List ℕ → List Word → Stream → List ℕ → Type 0
Led v N P Q U before ts s room =
    (r : HostStreamed)
    × (after : List ℕ)
    × HostTermBegun v N P Q U before r after
    × (r.refusal ≡ 0)
    × Handed r.stream after ts s room

abbrev pub Finishes : Stream → List ℕ → List Word → Type 0
Finishes s room [] = (r : HostStreamed) (after : List ℕ) → HostTermEnded s room r after → r.refusal ≡ 0
Finishes s room (t ∷ ts) =
    (r : HostStreamed) (after : List ℕ) → HostPostingsPut s t room r after
    → (r.refusal ≡ 0) × Finishes r.stream after ts

abbrev pub Leaves : HostStreamed → List ℕ → Stream → List ℕ → Type 0
Leaves r after s room = (r.length ≡ 0) × (r.stream ≡ s) × (after ≡ room)

abbrev pub Kept : ℕ → List ℕ → List ℕ → Type 0
Kept n room after = (length after ≡ length room) × (drop n after ≡ drop n room)

abbrev pub Stays : Stream → Type 0
Stays s =
    ((t : Word) (room : List ℕ) (r : HostStreamed) (after : List ℕ) → HostPostingsPut s t room r after
    → (r.refusal ≡ 10) × Leaves r after s room)
    × ((room : List ℕ) (r : HostStreamed) (after : List ℕ) → HostTermEnded s room r after
    → (r.refusal ≡ 10) × Leaves r after s room)
