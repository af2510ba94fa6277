-- `put_reply` lays the lines of the answers that asking leaves in the room, and the refusal's behind them.
use mathlib.Core.Path.{refl}
use mathlib.Core.List.{List}
use Prim.Native.Nat.{ℕ, ◌-◌, ◌*◌, ◌≤◌}
use native.Mathlib.Omega.{arith}
use lib.ListN.{length, take, replicate}
use Rattle.rules.specs.declared.Outcome.{Outcome}
use Rattle.rules.specs.Ask.{reply}
use Rattle.rules.specs.Program.{answer_room}
use Rattle.rules.specs.Promises.{Answered}
use Rattle.files.specs.Laid.{Put, words_of}
use Rattle.files.proofs.PutLaws.{put_length}
use Rattle.text.proofs.RefusedLaws.{refused_most}
use Rattle.lookup.proofs.ToldLaws.{Told, read_within, read_words, told, told_counted, told_lines, put_told}
use Rattle.lookup.proofs.put_reply.Goals as goal

-- the two local rooms at first
abbrev zeros : List ℕ
zeros = replicate answer_room 0

-- the outcome of asking the card s the numbers read from qs
told_of : (s qs : List ℕ) {count : ℕ} {ns : List ℕ} {o : Outcome} {room : List ℕ} → length qs ≤ 4 * answer_room
    → Put (words_of qs) 0 count zeros ns → Answered s (take (count - 0) ns) zeros o room
    → Told (reply s (words_of qs) answer_room) o room
told_of s qs {count} {ns} {o} {room} h p e =
    told s (words_of qs) (take (count - 0) ns) o zeros room (read_words qs zeros p h) refl e

pub slice_bounds-ask-end : goal.slice_bounds-ask-end
slice_bounds-ask-end c =
    read_within c.args.questions.now zeros c.read_numbers-count.ensures (omega (arith, c.requires.0))

pub slice_bounds-put_lines-end : goal.slice_bounds-put_lines-end
slice_bounds-put_lines-end c =
    (told_of c.args.card.now c.args.questions.now (omega (arith, c.requires.0)) c.read_numbers-count.ensures
    c.ask-outcome.ensures).within

pub put_lines-next-requires : goal.put_lines-next-requires
put_lines-next-requires c =
    let s = c.args.card.now in
    let qs = c.args.questions.now in
    let p = reply s (words_of qs) answer_room in
    let o = c.ask-outcome.result in
    let room = c.ask-outcome.new.room in
    let t = told_of s qs (omega (arith, c.requires.0)) c.read_numbers-count.ensures c.ask-outcome.ensures in
    (told_counted p o room t, omega (arith, c.requires.1, told_lines p o room t))

pub put_refused-requires : goal.put_refused-requires
put_refused-requires c =
    let s = c.args.card.now in
    let qs = c.args.questions.now in
    let p = reply s (words_of qs) answer_room in
    let o = c.ask-outcome.result in
    let room = c.ask-outcome.new.room in
    let t = told_of s qs (omega (arith, c.requires.0)) c.read_numbers-count.ensures c.ask-outcome.ensures in
    let l = c.put_lines-next.ensures in
    omega (arith, c.requires.1, told_lines p o room t, refused_most o.verdict, l.next, put_length l)

pub returns : goal.returns
returns c =
    let s = c.args.card.now in
    let qs = c.args.questions.now in
    let t = told_of s qs (omega (arith, c.requires.0)) c.read_numbers-count.ensures c.ask-outcome.ensures in
    put_told (reply s (words_of qs) answer_room) c.ask-outcome.result c.ask-outcome.new.room t
    c.put_lines-next.ensures c.put_refused.ensures
