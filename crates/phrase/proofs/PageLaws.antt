-- Laws of one page's positions as a walk finds them: how many there are, and whether one is there.
use mathlib.Core.Bool.{true, false}
use mathlib.Core.Path.{◌≡◌, refl, ap, ◌∙◌}
use mathlib.Core.List.{List, [], ◌∷◌}
use Prim.Native.Nat.{ℕ, zero, suc, ◌+◌, ◌-◌, ◌≤◌, ◌<◌}
use native.Mathlib.Decide.{dec_lt}
use native.Mathlib.Omega.{arith}
use lib.ListN.{length, get_or, take}
use lib.Seq.{slice, length-slice, get_or-take, get_or-drop}
use Rattle.rules.specs.List.{rising}
use Rattle.rules.specs.ReadList.{list_u, decode}
use Rattle.rules.specs.ReadTerm.{less}
use Rattle.rules.specs.Plain.{member}
use Rattle.shape.specs.declared.Shape.{Shape}
use Rattle.seeklaws.specs.Cursors.{first_at}
use Rattle.seeklaws.proofs.FirstLaws.{rising_lt, first_at_before, first_at_at}
use Rattle.commonlaws.proofs.SharedLaws.{member_at, member_none}
use Rattle.termlaws.proofs.PlaceLaws.{length_less}
use Rattle.walklaws.proofs.OpenLaws.{open_length, open_rising}
use Rattle.span.specs.declared.Walk.{Walk}
use Rattle.span.specs.Walks.{past}
use Rattle.span.proofs.WalkLaws.{past_none, past_some, past_mono}
use Rattle.upto.specs.Bounds.{Passing}
use Rattle.phrase.specs.Pages.{on_page}

get_d_less : (b : ℕ) (xs : List ℕ) (j : ℕ) → get_or (less b xs) j 0 ≡ get_or xs j 0 - b
unfolding less
get_d_less b [] j = omega arith
get_d_less b (x ∷ xs) zero = refl
get_d_less b (x ∷ xs) (suc j) = get_d_less b xs j

-- ---- the positions of a page

module _ (U : ℕ) (es : List ℕ) (rises : rising 0 U es ≡ true) (base to : ℕ) (within : to ≤ length es) where
  abbrev f : ℕ
  f = first_at base es

  pub page_length : length (on_page es base to) ≡ to - f
  unfolding on_page
  page_length = length_less base (slice f to es) ∙ length-slice f to es within

  pub page_at_lem : (j : ℕ) → f + j < to → get_or (on_page es base to) j 0 ≡ get_or es (f + j) 0 - base
  unfolding on_page
  page_at_lem j h =
      get_d_less base (slice f to es) j
      ∙ ap (λ (e : ℕ). e - base) (get_or-drop f (take to es) j 0 ∙ get_or-take to es (f + j) 0 h)

  -- its elements lie behind the base
  pub page_from : (j : ℕ) → f ≤ j → j < to → base ≤ get_or es j 0
  page_from j l h =
      elim (dec_lt f j) [
        | yes g ↦ omega (arith, first_at_at base es (omega arith), rising_lt 0 U es rises f j g (omega arith))
        | no g ↦
            let e : f ≡ j = omega arith in
            rw e at (first_at_at base es (omega arith))
      ]

  pub page_lacks : (x : ℕ) → ((j : ℕ) → j < to → get_or es j 0 ≡ base + x → ⊥) → member x (on_page es base to) ≡ false
  page_lacks x g =
      member_none x (on_page es base to) (λ j l e.
      let h : f + j < to = omega (arith, page_length) in
      g (f + j) h (omega (arith, page_from (f + j) (omega arith) h, page_at_lem j h)))

  pub page_has : (x j : ℕ) → j < to → get_or es j 0 ≡ base + x → member x (on_page es base to) ≡ true
  page_has x j h e =
      let l : f ≤ j =
      elim (dec_lt j f) [ yes g ↦ absurd (omega (arith, first_at_before base es j g)) | no g ↦ omega arith ] in
      let n : f + (j - f) ≡ j = omega (arith, l) in
      let p : get_or (on_page es base to) (j - f) 0 ≡ x = page_at_lem (j - f) (omega arith) ∙ rw (n, e) (omega arith) in
      rw p at (member_at (on_page es base to) (j - f) (omega (arith, page_length, l)))

-- ---- what a walk has passed

module _ (s : List ℕ) (g : Shape) (to b : ℕ) (w : Walk) (p : Passing s g to b w) (within : to ≤ g.n) where
  abbrev es : List ℕ
  es = decode s

  size : length es ≡ g.n
  size = open_length s g p.on.opened

  rises : rising 0 (list_u s) es ≡ true
  rises = open_rising s g p.on.opened

  -- an element lies below what is past it
  below_past : (i j : ℕ) → j < i → i ≤ to → get_or es j 0 < past es i
  below_past i j l h =
      let e : j + 1 - 1 ≡ j = omega arith in
      let q = rw e at (past_some es (j + 1) (omega arith) (omega (arith, size))) in
      omega (arith, q, past_mono (list_u s) es rises (j + 1) i (omega arith) (omega (arith, size)))

  -- all of the page is passed: nothing from b on is there
  pub none_left : w.past ≤ b → w.next ≡ to → (d : ℕ) → b ≤ d → (j : ℕ) → j < to → get_or es j 0 ≡ d → ⊥
  none_left h e d l j k q = omega (arith, below_past w.next j (omega arith) (omega arith), p.on.past_is)

  module _ (found : b < w.past) where
    -- the last that is passed
    some : 0 < w.next
    some = elim (dec_lt 0 w.next) [
      | yes h ↦ h
      | no h ↦
          let e : w.next ≡ 0 = omega arith in
          absurd (omega (arith, p.on.past_is, ap (past es) e, past_none es))
    ]

    last_is : get_or es (w.next - 1) 0 + 1 ≡ w.past
    last_is = omega (arith, p.on.past_is, past_some es w.next some (omega (arith, size, p.on.within)))

    pub stands_last : (w.next - 1 < to) × (get_or es (w.next - 1) 0 + 1 ≡ w.past)
    stands_last = (omega (arith, some, p.inside), last_is)

    -- no element lies between b and that
    pub stands_between : (d : ℕ) → b ≤ d → d + 1 < w.past → (j : ℕ) → j < to → get_or es j 0 ≡ d → ⊥
    stands_between d l m j h e =
        elim (dec_lt j (w.next - 1)) [
          | yes g ↦ omega (arith, below_past (w.next - 1) j g (omega (arith, p.inside)), p.below)
          | no g ↦ elim (dec_lt (w.next - 1) j) [
            | yes n ↦ omega (arith, last_is, rising_lt 0 (list_u s) es rises (w.next - 1) j n (omega (arith, size)))
            | no n ↦
                let q : w.next - 1 ≡ j = omega arith in
                omega (arith, rw q at last_is)
          ]
        ]
