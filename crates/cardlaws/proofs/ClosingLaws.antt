-- Laws of closing: each answer before anything is written, and the header as the stores that write it.
use mathlib.Core.Bool.{Bool, true, false, not}
use mathlib.Core.Path.{◌≡◌, refl, sym, ap, ◌∙◌}
use mathlib.Core.List.{List, [], ◌∷◌, ◌++◌, append_assoc}
use Prim.Native.Nat.{ℕ, ◌+◌, ◌-◌, ◌≤◌, ◌<◌}
use native.Mathlib.Omega.{arith}
use borrow.Author.Tests.{not-true, lt-ltb, le-ltb, le-leb, lt-leb}
use lib.ListN.{length, take, drop, set, length-append}
use lib.Seq.{sets}
use Rattle.std.specs.Prelude.{Result, Ok, Err}
use Rattle.std.specs.Result.{IsErr, IsErrAnd}
use Rattle.rules.specs.declared.Refusal.{Refusal}
use Rattle.rules.specs.Verdict.{Verdict}
use Rattle.rules.specs.Verdict.{Accepted, Short, Version, Limit, Room}
use Rattle.rules.specs.Refusal.{accepted}
use Rattle.rules.specs.Limits.{last_edition, up_to, index_header, four_bytes}
use Rattle.rules.specs.Bytes.{be}
use Rattle.rules.specs.Index.{index_front, close_refusal, close_index}
use Rattle.rules.specs.Write.{made, laid}
use Rattle.laws.proofs.ByteLaws.{length_be, sets_then}
use Rattle.laws.proofs.RefusalLaws.{went_on, refusal_told, accepted_true}
use Rattle.laws.proofs.RoomLaws.{sets_laid}
use Rattle.cardlaws.specs.Cards.{Closable}
use Rattle.cardlaws.proofs.PassedLaws.{accepted_closable}
use Rattle.cardlaws.proofs.FrontLaws.{length_front}
use Rattle.cardlaws.proofs.CloseLaws.{drop_take}
use Rattle.cardlaws.specs.Terms.{body_refusal}

module _ (buffer : List ℕ) (used ver N T : ℕ) where
  pub close_room : length buffer < used → close_refusal buffer used ver N T ≡ Room
  unfolding close_refusal
  close_room h = rw (lt-ltb (length buffer) used h)

  module _ (fits : used ≤ length buffer) where
    pub close_short : used < index_header → close_refusal buffer used ver N T ≡ Short
    unfolding close_refusal
    close_short h = rw (le-ltb (length buffer) used fits, lt-ltb used index_header h)

    module _ (header : index_header ≤ used) where
      pub close_version : up_to last_edition ver ≡ false → close_refusal buffer used ver N T ≡ Version
      unfolding close_refusal
      close_version h = rw (le-ltb (length buffer) used fits, le-ltb used index_header header, h)

      pub close_long : up_to last_edition ver ≡ true → four_bytes ≤ used → close_refusal buffer used ver N T ≡ Limit
      unfolding close_refusal
      close_long k h = rw (le-ltb (length buffer) used fits, le-ltb used index_header header, k, le-leb four_bytes used h)

      pub close_next : up_to last_edition ver ≡ true → used < four_bytes
          → close_refusal buffer used ver N T ≡ body_refusal ver T N (drop index_header (take used buffer))
      unfolding close_refusal
      close_next k h = rw (le-ltb (length buffer) used fits, le-ltb used index_header header, k, lt-leb four_bytes used h)

-- what is used behind the header, as a part
pub part_used : (used : ℕ) (s : List ℕ) → index_header ≤ used → used ≤ length s
    → take (used - index_header) (drop index_header s) ≡ drop index_header (take used s)
part_used used s h l =
    let e : index_header + (used - index_header) ≡ used = omega arith in
    rw e at (drop_take index_header (used - index_header) s (omega arith))

-- ---- the header

-- the four stores of the header, one after the other
pub front_stored : (d a b c e : List ℕ) (used ver N T : ℕ) → 11 ≤ length d → a ≡ sets d 0 (be 4 used) → b ≡ set a 4 ver
    → c ≡ sets b 5 (be 4 N) → e ≡ sets c 9 (be 2 T) → e ≡ laid (index_front used ver N T) d
unfolding index_front
front_stored d a b c e used ver N T h p q r s =
    let u : List ℕ = be 4 used in
    let v : List ℕ = u ++ (ver ∷ []) in
    let w : List ℕ = v ++ be 4 N in
    let lu : length u ≡ 4 = length_be 4 used in
    let lv : length v ≡ 5 = length-append u (ver ∷ []) ∙ omega arith in
    let lw : length w ≡ 9 = length-append v (be 4 N) ∙ omega (arith, length_be 4 N) in
    let x : b ≡ sets d 0 v = sets_then d a b 0 4 u (ver ∷ []) p (omega arith) q in
    let y : c ≡ sets d 0 w = sets_then d b c 0 5 v (be 4 N) x (omega arith) r in
    let z : e ≡ sets d 0 (w ++ be 2 T) = sets_then d c e 0 9 w (be 2 T) y (omega arith) s in
    let g : w ++ be 2 T ≡ index_front used ver N T = simp append_assoc in
    z ∙ rw g (sets_laid (index_front used ver N T) d (omega (arith, length_front used ver N T)))

-- ---- the answer

module _ (buffer : List ℕ) (used ver N T : ℕ) (r : Verdict) (is : r ≡ close_refusal buffer used ver N T) where
  -- what a `?` makes of the refusal
  pub close_refused : (out : Result ℕ Refusal) (e : Refusal) → r ≡ Err e → IsErr out × IsErrAnd out (λ d. d ≡ e)
      → made out buffer ≡ close_index buffer used ver N T
  unfolding close_index
  close_refused (Ok _) e was h = absurd h.1
  close_refused (Err d) e was h =
      let t = sym is ∙ was in
      let f : accepted (close_refusal buffer used ver N T) ≡ false = ap accepted t ∙ refusal_told e in
      rw (f, t, h.1)

  pub close_passed : (u : Unit {0}) → r ≡ Ok u → Closable buffer used ver N T
  close_passed u was = accepted_closable buffer used ver N T (went_on r (close_refusal buffer used ver N T) is u was)

-- ---- what the answer tells

module _ (buffer : List ℕ) (used ver N T : ℕ) where
  pub close_told : (close_index buffer used ver N T).refusal ≡ Accepted → close_refusal buffer used ver N T ≡ Accepted
  unfolding close_index
  close_told e = go (accepted (close_refusal buffer used ver N T)) refl
    where
      go : (b : Bool) → accepted (close_refusal buffer used ver N T) ≡ b → close_refusal buffer used ver N T ≡ Accepted
      go true t = accepted_true (close_refusal buffer used ver N T) t
      go false t = rw t at e

  pub close_kept : ((close_index buffer used ver N T).refusal ≡ Accepted → ⊥) → (close_index buffer used ver N T).room ≡ buffer
  unfolding close_index
  close_kept n = go (accepted (close_refusal buffer used ver N T)) refl
    where
      go : (b : Bool) → accepted (close_refusal buffer used ver N T) ≡ b → (close_index buffer used ver N T).room ≡ buffer
      go true t = absurd (n (rw t))
      go false t = rw t
