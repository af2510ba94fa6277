-- Laws of what the program prints: its three cases, and its length.
use mathlib.Core.Bool.{Bool, true, false, cond, ◌&&◌, ◌||◌, true≢false}
use mathlib.Core.Path.{◌≡◌, refl, sym, ap, ◌∙◌}
use mathlib.Core.List.{List}
use Prim.Native.Nat.{ℕ, ◌%◌, ◌≤◌}
use native.Mathlib.Omega.{arith}
use borrow.Author.Tests.{ltb-false}
use lib.Dec.{ltb}
use lib.ListN.{length}
use Rattle.rules.specs.Verdict.{Question, Room}
use Rattle.rules.specs.Refusal.{accepted, and_then}
use Rattle.rules.specs.Index.{index_refusal}
use Rattle.rules.specs.Write.{laid}
use Rattle.rules.specs.Ask.{reply}
use Rattle.rules.specs.Program.{file_limit, answer_room, lines, refused_line, printed_reply, printed}
use Rattle.laws.proofs.RefusalLaws.{accepted_true, and_then_next, and_then_stop}
use Rattle.files.specs.Laid.{Put, words_of}
use Rattle.files.proofs.PutLaws.{put_same, put_laid}

-- ---- three cases

or_false : (a b : Bool) → a || b ≡ false → b ≡ false
or_false true b e = absurd (true≢false e)
or_false false b e = e

and_false : (a : Bool) → a && false ≡ false
and_false true = refl
and_false false = refl

-- a file is too long
abbrev over : List ℕ → List ℕ → Bool
over s qs = ltb file_limit (length s) || ltb file_limit (length qs)

module _ (s qs : List ℕ) where
  pub printed_large : over s qs ≡ true → printed s qs ≡ refused_line Room
  unfolding printed
  printed_large e = rw e

  pub questions_within : over s qs ≡ false → length qs ≤ file_limit
  questions_within e =
      ltb-false file_limit (length qs) (or_false (ltb file_limit (length s)) (ltb file_limit (length qs)) e)

module _ (s qs : List ℕ) (h : over s qs ≡ false) where
  abbrev whole : List ℕ
  whole = printed_reply (reply s (words_of qs) answer_room)

  printed_small : printed s qs ≡ cond (accepted (index_refusal s) && ltb 0 (length qs % 4)) (refused_line Question) whole
  unfolding printed
  printed_small = rw h

  pub printed_whole : ltb 0 (length qs % 4) ≡ false → printed s qs ≡ whole
  printed_whole e = printed_small ∙ rw (e, and_false (accepted (index_refusal s)))

  -- the card's own refusal goes first
  stopped : accepted (index_refusal s) ≡ false → whole ≡ refused_line (index_refusal s)
  unfolding reply printed_reply lines
  stopped e = rw e

  pub printed_rest : ltb 0 (length qs % 4) ≡ true → printed s qs ≡ refused_line (and_then (index_refusal s) Question)
  printed_rest e = printed_small ∙ rw e (go (accepted (index_refusal s)) refl)
    where
      go : (b : Bool) → accepted (index_refusal s) ≡ b → cond (b && true) (refused_line Question) whole
          ≡ refused_line (and_then (index_refusal s) Question)
      go true e = ap refused_line (sym (and_then_next (index_refusal s) Question (accepted_true (index_refusal s) e)))
      go false e = stopped e ∙ ap refused_line (sym (and_then_stop (index_refusal s) Question e))

-- a text that is laid at the front of room enough
pub printed_laid : (s qs : List ℕ) {b : List ℕ} {r : ℕ} (d : List ℕ) {e : List ℕ} → printed s qs ≡ b
    → length b ≤ length d → Put b 0 r d e → (e ≡ laid (printed s qs) d) × (r ≡ length (printed s qs))
printed_laid s qs d g h p = put_laid (printed s qs) d (put_same (sym g) p) (omega (arith, ap length g))
