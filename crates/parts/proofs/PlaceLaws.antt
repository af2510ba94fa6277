-- Laws of a block's place: what is left from a block on has it at its front and can be walked further, the part that
-- lies there is the block, its length is tested first, and it depends on where the blocks before it end and not on what
-- they hold.
use mathlib.Core.Bool.{Bool, true, false, not}
use mathlib.Core.Path.{◌≡◌, refl, sym, ap, ◌∙◌}
use mathlib.Core.List.{List}
use Prim.Native.Nat.{ℕ, zero, suc, ◌+◌, ◌-◌, ◌≤◌}
use native.Mathlib.Nat.{add-zero, zero-add}
use native.Mathlib.Omega.{arith}
use lib.ListN.{length, take, drop, length-take, length-drop}
use lib.Seq.{take-length, get_or-take, get_or-drop, drop-drop, ext_get_or}
use Rattle.std.specs.Prelude.{Ok, Err}
use Rattle.std.specs.Result.{IsErr, IsErrAnd}
use Rattle.rules.specs.declared.Refusal.{Refusal}
use Rattle.rules.specs.Verdict.{Verdict}
use Rattle.rules.specs.Verdict.{Accepted}
use Rattle.rules.specs.Refusal.{accepted, and_then}
use Rattle.rules.specs.Bytes.{be_at}
use Rattle.rules.specs.ReadList.{stated}
use Rattle.rules.specs.Parts.{after, part, inside}
use Rattle.laws.specs.Blocks.{block_at}
use Rattle.laws.proofs.ByteLaws.{Alike, be_at_same, be_at_drop}
use Rattle.laws.proofs.RefusalLaws.{handed_on, went_on, and_then_next}
use Rattle.laws.proofs.PartLaws.{part_at, after_at, stated_drop, inside_parts, inside_then}
use Rattle.parts.specs.Places.{front_refusal, Held, Walkable}

-- ---- the bytes from a place on

-- all that is behind the first n bytes, as a part
pub part_behind : (n : ℕ) (s : List ℕ) → take (length s - n) (drop n s) ≡ drop n s
part_behind n s = rw (← length-drop n s) (take-length (drop n s))

-- the blocks of what is left from block number t on are those from there on
pub after_on : (t n : ℕ) (s : List ℕ) → after n (after t s) ≡ after (t + n) s
unfolding after
after_on zero n s = ap (λ (m : ℕ). after m s) (sym (zero-add n))
after_on (suc t) n s =
    let e : suc (t + n) ≡ suc t + n = omega arith in
    after_on t n (drop (stated s) s) ∙ ap (λ (m : ℕ). after m s) e

rest_at : (h t n : ℕ) (s : List ℕ) → block_at h t s + block_at 0 n (drop (block_at h t s) s) ≡ block_at h (t + n) s
unfolding block_at
rest_at h t zero s = add-zero (block_at h t s) ∙ ap (λ (m : ℕ). block_at h m s) (sym (add-zero t))
rest_at h t (suc n) s =
    let p : ℕ = block_at h t s in
    let q : ℕ = block_at 0 n (drop p s) in
    let e : suc (t + n) ≡ t + suc n = omega arith in
    let assoc : p + (q + be_at 4 s (p + q)) ≡ p + q + be_at 4 s (p + q) = omega arith in
    rw (be_at_drop 4 p s q) (assoc ∙ rw (rest_at h t n s) (ap (λ (m : ℕ). block_at h m s) e))

pub walk_rest : (h t n : ℕ) (s : List ℕ) → Walkable h (t + n) s → Walkable 0 n (after t (drop h s))
walk_rest h t n s w =
    rw (after_at h s t) (λ i l.
    let p : ℕ = block_at h t s in
    let q : ℕ = block_at 0 i (drop p s) in
    let b = be_at_drop 4 p s q in
    let held : Held (p + q) s = rw (rest_at h t i s) (w (t + i) (omega arith)) in
    (omega (arith, held), omega (arith, held, length-drop p s)))

-- ---- a block at its place

pub walk_held : (from k : ℕ) (s : List ℕ) (at : ℕ) → Walkable from k s → at ≡ block_at from k s → Held at s
walk_held from k s at w e = rw e (w k (omega arith))

-- the bytes from a block on have it at their front
module _ (from k : ℕ) (s : List ℕ) (w : Walkable from k s) where
  pub after_length : block_at from k s + length (after k (drop from s)) ≡ length s
  after_length = rw (after_at from s k, length-drop) (omega (arith, w k (omega arith)))

  pub after_held : Held 0 (after k (drop from s))
  unfolding stated
  after_held =
      let e : be_at 4 (after k (drop from s)) 0 ≡ be_at 4 s (block_at from k s) =
      rw (after_at from s k) (stated_drop (block_at from k s) s) in
      (omega (arith, w k (omega arith)), omega (arith, w k (omega arith), after_length))

pub part_front : (k : ℕ) (s : List ℕ) → take (be_at 4 (after k s) 0) (drop 0 (after k s)) ≡ part k s
unfolding part stated
part_front k s = refl

-- ---- a block at a byte of the bytes that hold it

module _ (h : ℕ) (f : List ℕ → Verdict) (at : ℕ) (s : List ℕ) where
  -- the test of its length, and then that of the part that it states
  front_then : inside h f (drop at s) ≡ and_then (front_refusal h (drop at s)) (f (take (be_at 4 s at) (drop at s)))
  front_then =
      inside_then h f (drop at s)
      ∙ ap (λ (n : ℕ). and_then (front_refusal h (drop at s)) (f (take n (drop at s)))) (stated_drop at s)

  pub inside_held : 4 ≤ h → at ≤ length s → inside h f (drop at s) ≡ Accepted → Held at s
  inside_held k l e =
      let i = inside_parts h f (drop at s) e in
      let d = stated_drop at s in
      let n = length-drop at s in
      (omega (arith, i.holds), omega (arith, i.within))

-- what a `?` makes of the answer r of `check_front`
module _ (h at : ℕ) (s : List ℕ) (r : Verdict) (is : r ≡ front_refusal h (drop at s)) where
  pub front_held : 4 ≤ h → at ≤ length s → (u : Unit {0}) → r ≡ Ok u → Held at s
  front_held k l u was = inside_held h (λ _. Accepted) at s k l (went_on r (front_refusal h (drop at s)) is u was)

  module _ (f : List ℕ → Verdict) where
    pub front_refused : (out : Verdict) (e : Refusal) → r ≡ Err e → IsErr out × IsErrAnd out (λ d. d ≡ e)
        → out ≡ inside h f (drop at s)
    front_refused out e was gives =
        handed_on r (front_refusal h (drop at s)) is out (f (take (be_at 4 s at) (drop at s))) e was gives
        ∙ sym (front_then h f at s)

    -- x is the refusal of the part p
    pub front_answers : (p : List ℕ) (x : Verdict) (u : Unit {0}) → r ≡ Ok u → p ≡ take (be_at 4 s at) (drop at s)
        → x ≡ f p → x ≡ inside h f (drop at s)
    front_answers p x u was part_is answer =
        let q = front_refusal h (drop at s) in
        answer ∙ ap f part_is
        ∙ sym (front_then h f at s
        ∙ and_then_next q (f (take (be_at 4 s at) (drop at s))) (went_on r q is u was))

-- what remains behind it
pub drop_next : (at : ℕ) (s : List ℕ) → drop (stated (drop at s)) (drop at s) ≡ drop (at + be_at 4 s at) s
drop_next at s = rw (stated_drop at s) (drop-drop (be_at 4 s at) at s)

-- ---- what a block depends on

-- bytes that agree from place p on, as far as the block there reaches, have the same block there
module _ (s t : List ℕ) (p : ℕ) (holds : 4 ≤ be_at 4 s p) (within : p + be_at 4 s p ≤ length s)
    (room : p + be_at 4 s p ≤ length t) (alike : Alike s t p (p + be_at 4 s p)) where
  same_length : be_at 4 s p ≡ be_at 4 t p
  same_length = be_at_same 4 s t p (λ i l u. alike i l (omega arith))

  same_bytes : take (be_at 4 s p) (drop p s) ≡ take (be_at 4 t p) (drop p t)
  same_bytes =
      let n : ℕ = be_at 4 s p in
      let a : length (take n (drop p s)) ≡ n = simp (length-take, length-drop) (omega arith) in
      let b : length (take n (drop p t)) ≡ n = simp (length-take, length-drop) (omega arith) in
      rw (← same_length) (ext_get_or 0 (take n (drop p s)) (take n (drop p t)) (a ∙ sym b)
      (λ i h. rw (
        get_or-take n (drop p s) i 0 (omega arith),
        get_or-take n (drop p t) i 0 (omega arith),
        get_or-drop p s i 0,
        get_or-drop p t i 0,
      )
      (alike (p + i) (omega arith) (omega arith))))

-- Two stretches of bytes whose blocks before number k end at one place, and that agree from
-- there as far as block number k of the first reaches, have the same block number k.
pub part_depends : (from k : ℕ) (s t : List ℕ) → block_at from k s ≡ block_at from k t
    → 4 ≤ be_at 4 s (block_at from k s) → block_at from k s + be_at 4 s (block_at from k s) ≤ length s
    → block_at from k s + be_at 4 s (block_at from k s) ≤ length t
    → Alike s t (block_at from k s) (block_at from k s + be_at 4 s (block_at from k s))
    → part k (drop from s) ≡ part k (drop from t)
part_depends from k s t e holds within room alike =
    let p : ℕ = block_at from k s in
    part_at from s k ∙ same_bytes s t p holds within room alike
    ∙ ap (λ (q : ℕ). take (be_at 4 t q) (drop q t)) e ∙ sym (part_at from t k)
