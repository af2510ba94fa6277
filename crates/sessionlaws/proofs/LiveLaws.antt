-- Laws of a session's tests: what one that goes on tells, and the answer of each test. AnswerLaws has those of a whole
-- call.
use mathlib.Core.Bool.{Bool, true, false, ◌&&◌}
use mathlib.Core.Path.{◌≡◌, refl, ◌∙◌}
use mathlib.Core.List.{List}
use Prim.Native.Nat.{ℕ, ◌≤◌, ◌<◌}
use borrow.Author.Tests.{lt-ltb, le-ltb, le-leb, lt-leb, leb-true, eqb-true, eq-eqb, ne_eqb}
use lib.Dec.{leb, eqb}
use lib.ListN.{length}
use Rattle.std.specs.Prelude.{Ok, Err}
use Rattle.std.specs.Result.{is_ok}
use Rattle.rules.specs.Verdict.{Verdict}
use Rattle.rules.specs.Verdict.{Room, Lists}
use Rattle.rules.specs.declared.Stream.{Stream}
use Rattle.rules.specs.Refusal.{accepted}
use Rattle.rules.specs.Stream.{announce_refusal, over, live, Streaming, goes, size_of, going}
use Rattle.laws.proofs.RefusalLaws.{accepted_true, refusal_told}
use Rattle.listlaws.proofs.RisingLaws.{and_parts}
use Rattle.sessionlaws.specs.Session.{Live}
use Rattle.sessionlaws.proofs.AnnounceLaws.{announced_parts}

pub and_false : (b : Bool) → b && false ≡ false
and_false true = refl
and_false false = refl

pub and_true : (b : Bool) → b && true ≡ b
and_true true = refl
and_true false = refl

accepted_ok : (r : Verdict) → accepted r ≡ is_ok r
unfolding accepted
accepted_ok (Ok _) = refl
accepted_ok (Err e) = refusal_told e

module _ (s : Stream) where
  -- the refusal of what was announced
  abbrev refusal : Verdict
  refusal = announce_refusal s.version s.n s.pages s.positions s.u

  pub live_parts : live s ≡ true → Live s
  unfolding live
  live_parts e =
      let tail : Bool = leb s.laid s.pages && leb s.filled s.positions in
      let a = and_parts (eqb s.mark 1) (accepted refusal && tail) e in
      let b = and_parts (accepted refusal) tail a.1 in
      let c = and_parts (leb s.laid s.pages) (leb s.filled s.positions) b.1 in
      let r = accepted_true refusal b.0 in
      record {
        marked = eqb-true s.mark 1 a.0;
        accepts = r;
        announced = announced_parts s.version s.n s.pages s.positions s.u r;
        laid_le = leb-true s.laid s.pages c.0;
        filled_le = leb-true s.filled s.positions c.1;
      }

  -- ---- whether it goes on

  pub live_unmarked : (s.mark ≡ 1 → ⊥) → live s ≡ false
  unfolding live
  live_unmarked h = rw (ne_eqb s.mark 1 h)

  pub live_laid : s.pages < s.laid → live s ≡ false
  unfolding live
  live_laid h = rw (lt-leb s.laid s.pages h, and_false (accepted refusal), and_false (eqb s.mark 1))

  pub live_filled : s.positions < s.filled → live s ≡ false
  unfolding live
  live_filled h = rw (
    lt-leb s.filled s.positions h,
    and_false (leb s.laid s.pages),
    and_false (accepted refusal),
    and_false (eqb s.mark 1),
  )

  pub live_last : s.mark ≡ 1 → s.laid ≤ s.pages → s.filled ≤ s.positions → live s ≡ is_ok refusal
  unfolding live
  live_last m l f =
      rw (eq-eqb s.mark 1 m, le-leb s.laid s.pages l, le-leb s.filled s.positions f)
      (and_true (accepted refusal) ∙ accepted_ok refusal)

-- ---- what a later call answers

module _ (s : Stream) where
  module _ (room : List ℕ) (r : Streaming) where
    pub going_dead : live s ≡ false → going s room r ≡ goes Lists over room
    unfolding going
    going_dead e = rw e

    pub going_short : live s ≡ true → length room < size_of s → going s room r ≡ goes Room s room
    unfolding going
    going_short e h = rw (e, lt-ltb (length room) (size_of s) h)

    pub going_on : live s ≡ true → size_of s ≤ length room → going s room r ≡ r
    unfolding going
    going_on e h = rw (e, le-ltb (length room) (size_of s) h)
