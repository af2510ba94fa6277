-- Laws of the line of a refusal.
use mathlib.Core.Path.{◌≡◌, refl, sym, ap, ◌∙◌}
use mathlib.Core.List.{List, [], ◌∷◌, ◌++◌}
use Prim.Native.Nat.{ℕ, ◌+◌, ◌≤◌, ◌<◌}
use native.Mathlib.Decide.{dec_lt}
use native.Mathlib.Omega.{arith}
use borrow.Author.Tests.{eq-eqb, ne_eqb}
use lib.ListN.{length, length-append}
use lib.Seq.{sets}
use Rattle.rules.specs.Verdict.{Verdict}
use Rattle.rules.specs.Refusal.{number, accepted}
use Rattle.rules.specs.Bytes.{be}
use Rattle.rules.specs.Program.{line, refused_word, refused_line}
use Rattle.files.specs.Laid.{Put}
use Rattle.files.proofs.PutLaws.{put_same, put_cat}
use Rattle.text.proofs.LineLaws.{line_most}

-- its first eight bytes, as one number
refused_word_lem : be 8 0x7265667573656420 ≡ refused_word
unfolding be refused_word
refused_word_lem = refl

word_length : length refused_word ≡ 8
unfolding refused_word
word_length = refl

module _ (r : Verdict) where
  pub refused_none : number r ≡ 0 → refused_line r ≡ []
  unfolding refused_line accepted
  refused_none e = rw (eq-eqb (number r) 0 e)

  refused_some : (n : ℕ) → n ≡ number r → 0 < n → refused_line r ≡ refused_word ++ line (n ∷ [])
  unfolding refused_line accepted
  refused_some n g h = rw (ne_eqb (number r) 0 (λ e. omega arith), g)

  pub refused_length : (n : ℕ) → n ≡ number r → 0 < n → length (refused_line r) ≡ 8 + length (line (n ∷ []))
  refused_length n g h = ap length (refused_some n g h) ∙ rw (length-append, word_length)

  pub put_refused : {n at m : ℕ} {d e f : List ℕ} → n ≡ number r → 0 < n → e ≡ sets d at (be 8 0x7265667573656420)
      → Put (line (n ∷ [])) (at + 8) m e f → Put (refused_line r) at m d f
  put_refused {n} {at} {m} {d} {e} {f} g h s p =
      let q : Put refused_word at (at + 8) d e = record {
        stored = s ∙ ap (sets d at) refused_word_lem;
        next = rw word_length;
      } in
      put_same (sym (refused_some n g h)) (put_cat q p)

  pub refused_most : length (refused_line r) ≤ 19
  refused_most = elim (dec_lt 0 (number r)) [
    | yes h ↦ omega (arith, refused_length (number r) refl h, line_most (number r ∷ []) (omega arith))
    | no h ↦ omega (arith, ap length (refused_none (omega arith)))
  ]
