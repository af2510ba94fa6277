-- Laws of the four-byte numbers of a file.
use mathlib.Core.Path.{◌≡◌, refl, sym, ap, ◌∙◌}
use mathlib.Core.List.{List, [], ◌∷◌, ◌++◌}
use Prim.Native.Nat.{ℕ, zero, suc, ◌*◌, ◌≤◌, ◌<◌}
use native.Mathlib.Decide.{dec_lt}
use native.Mathlib.Omega.{arith}
use borrow.Author.Tests.{lt-ltb, le-ltb}
use lib.ListN.{length, drop, length-drop, length-append}
use lib.Seq.{drop-append_seam}
use Rattle.rules.specs.Bytes.{be_at}
use Rattle.rules.specs.Program.{numbers_of}
use Rattle.laws.proofs.ByteLaws.{be_at_front}
use Rattle.files.specs.Laid.{words_of}

numbers_stop : (qs : List ℕ) → numbers_of zero qs ≡ []
unfolding numbers_of
numbers_stop qs = refl

numbers_few : (f : ℕ) (qs : List ℕ) → length qs < 4 → numbers_of f qs ≡ []
unfolding numbers_of
numbers_few zero qs h = refl
numbers_few (suc f) qs h = rw (lt-ltb (length qs) 4 h, numbers_of)

numbers_cons : (f : ℕ) (qs : List ℕ) → 4 ≤ length qs → numbers_of (suc f) qs ≡ be_at 4 qs 0 ∷ numbers_of f (drop 4 qs)
unfolding numbers_of
numbers_cons f qs h = rw (le-ltb (length qs) 4 h, numbers_of)

-- more turns than bytes change nothing
numbers_more : (f g : ℕ) (qs : List ℕ) → length qs ≤ f → length qs ≤ g → numbers_of f qs ≡ numbers_of g qs
numbers_more zero g qs h l = numbers_few zero qs (omega arith) ∙ sym (numbers_few g qs (omega arith))
numbers_more (suc f) zero qs h l = numbers_few (suc f) qs (omega arith) ∙ sym (numbers_few zero qs (omega arith))
numbers_more (suc f) (suc g) qs h l = elim (dec_lt (length qs) 4) [
  | yes y ↦ numbers_few (suc f) qs y ∙ sym (numbers_few (suc g) qs y)
  | no y ↦
      let e = numbers_more f g (drop 4 qs) (rw length-drop (omega arith)) (rw length-drop (omega arith)) in
      numbers_cons f qs (omega arith) ∙ rw e (sym (numbers_cons g qs (omega arith)))
]

numbers_length : (f : ℕ) (qs : List ℕ) → 4 * length (numbers_of f qs) ≤ length qs
numbers_length zero qs = rw (numbers_stop qs) (omega arith)
numbers_length (suc f) qs = elim (dec_lt (length qs) 4) [
  | yes y ↦ rw (numbers_few (suc f) qs y) (omega arith)
  | no y ↦ rw (numbers_cons f qs (omega arith)) (omega (arith, numbers_length f (drop 4 qs), length-drop 4 qs))
]

words_cons : (qs : List ℕ) → 4 ≤ length qs → words_of qs ≡ be_at 4 qs 0 ∷ words_of (drop 4 qs)
words_cons qs h =
    numbers_more (length qs) (suc (length qs)) qs (omega arith) (omega arith)
    ∙ numbers_cons (length qs) qs h
    ∙ ap (λ l. be_at 4 qs 0 ∷ l)
    (numbers_more (length qs) (length (drop 4 qs)) (drop 4 qs) (rw length-drop (omega arith)) (omega arith))

pub words_front : (qs four left : List ℕ) → qs ≡ four ++ left → length four ≡ 4
    → words_of qs ≡ be_at 4 four 0 ∷ words_of left
words_front qs four left e h =
    let l : 4 ≤ length (four ++ left) = rw length-append (omega arith) in
    let d : drop 4 (four ++ left) ≡ left = rw h at (drop-append_seam four left) in
    ap words_of e ∙ words_cons (four ++ left) l ∙ rw (be_at_front 4 four left 0 (omega arith), d)

pub words_none : (qs : List ℕ) → length qs < 4 → words_of qs ≡ []
words_none qs h = numbers_few (length qs) qs h

pub words_length : (qs : List ℕ) → 4 * length (words_of qs) ≤ length qs
words_length qs = numbers_length (length qs) qs
