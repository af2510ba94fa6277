-- Laws of the numbers read from the question file, and of what asking them leaves in the room.
use mathlib.Core.Path.{◌≡◌, ap, ◌∙◌}
use mathlib.Core.List.{List}
use Prim.Native.Nat.{ℕ, ◌-◌, ◌*◌, ◌≤◌}
use native.Mathlib.Omega.{arith}
use lib.ListN.{length, take, length-append}
use Rattle.rules.specs.declared.Outcome.{Outcome}
use Rattle.rules.specs.Write.{laid}
use Rattle.rules.specs.Ask.{Replied, reply, joined, Asked, asked, put, ask}
use Rattle.rules.specs.Program.{answer_room, lines, refused_line, printed_reply}
use Rattle.laws.proofs.RoomLaws.{take_laid, length_laid}
use Rattle.files.specs.Laid.{Put, words_of}
use Rattle.files.proofs.PutLaws.{put_same, put_cat, put_laid}
use Rattle.files.proofs.WordLaws.{words_length}
use Rattle.text.specs.Answers.{answers_in, Counted}
use Rattle.text.proofs.LineLaws.{lines_most, answers_joined}
use Rattle.text.proofs.RefusedLaws.{refused_most}
use Rattle.lookup.proofs.ReplyLaws.{Fitting, reply_fits}

-- ---- the numbers read

-- a file of at most 4 * length d bytes, read over d
module _ (qs : List ℕ) {r : ℕ} (d : List ℕ) {e : List ℕ} (p : Put (words_of qs) 0 r d e)
    (h : length qs ≤ 4 * length d) where
  words_fit : length (words_of qs) ≤ length d
  words_fit = omega (arith, words_length qs)

  pub read_within : r ≤ length e
  read_within =
      let q = put_laid (words_of qs) d p words_fit in
      rw q.0 (omega (arith, q.1, words_fit, length_laid (words_of qs) d words_fit))

  pub read_words : take (r - 0) e ≡ words_of qs
  read_words =
      let q = put_laid (words_of qs) d p words_fit in
      let k : r - 0 ≡ length (words_of qs) = omega (arith, q.1) in
      rw (k, q.0) (take_laid (words_of qs) d)

-- ---- the answers told

-- the outcome o and the room are those of the reply p
pub record Told (p : Replied) (o : Outcome) (room : List ℕ) : Type 0 where
  pub fits : Fitting answer_room p.answers
  pub refusal : o.verdict ≡ p.refusal
  pub within : o.used ≤ length room
  pub numbers : answers_in (take (o.used - 0) room) ≡ p.answers

pub told : (s qs ns : List ℕ) (o : Outcome) (before after : List ℕ) → ns ≡ qs → length before ≡ answer_room
    → asked o after ≡ ask s ns before → Told (reply s qs answer_room) o after
unfolding ask put
told s qs ns o before after g l e =
    let p : Replied = reply s qs answer_room in
    let f = reply_fits s qs answer_room in
    let j : List ℕ = joined p.answers in
    let a : asked o after ≡ put p before = e ∙ rw (g, l) in
    let u : o.used - 0 ≡ length j = omega (arith, ap {A = Asked} (λ m. m.used) a) in
    let r : after ≡ laid j before = ap {A = Asked} (λ m. m.room) a in
    record {
      fits = f;
      refusal = ap {A = Asked} (λ m. m.refusal) a;
      within = rw r (omega (arith, length_laid j before (omega (arith, f.within)), f.within));
      numbers = rw (u, r, take_laid j before) (answers_joined p.answers f.counted);
    }

-- ---- their text

module _ (p : Replied) where
  lines_fit : Fitting answer_room p.answers → length (lines p.answers) ≤ 90112
  lines_fit f = omega (arith, lines_most p.answers f.counted, f.within)

  pub reply_most : Fitting answer_room p.answers → length (printed_reply p) ≤ 90200
  unfolding printed_reply
  reply_most f = rw length-append (omega (arith, lines_fit f, refused_most p.refusal))

module _ (p : Replied) (o : Outcome) (room : List ℕ) (t : Told p o room) where
  pub told_counted : Counted (answers_in (take (o.used - 0) room))
  told_counted = rw t.numbers t.fits.counted

  pub told_lines : length (lines (answers_in (take (o.used - 0) room))) ≤ 90112
  told_lines = rw t.numbers (lines_fit p t.fits)

  pub put_told : {m n : ℕ} {d e f : List ℕ} → Put (lines (answers_in (take (o.used - 0) room))) 0 m d e
      → Put (refused_line o.verdict) m n e f → Put (printed_reply p) 0 n d f
  unfolding printed_reply
  put_told x y = put_cat (put_same (ap lines t.numbers) x) (put_same (ap refused_line t.refusal) y)
