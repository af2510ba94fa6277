-- Laws of the three writes of a step, into the lower run, among the pointers and into the upper run:
-- each leaves the other parts as they were.
use mathlib.Core.Path.{sym, ◌∙◌, subst}
use mathlib.Core.Logic.{◌⊎◌, inl, inr}
use mathlib.Core.List.{List}
use Prim.Native.Nat.{ℕ, ◌+◌, ◌-◌, ◌*◌, ◌/◌, ◌%◌, ◌^◌, ◌≤◌, ◌<◌}
use native.Mathlib.Omega.{arith}
use lib.ListN.{length}
use Rattle.rules.specs.Bytes.{be_at}
use Rattle.rules.specs.List.{upper, Form}
use Rattle.laws.proofs.ByteLaws.{Alike, be_at_same}
use Rattle.shape.specs.declared.Shape.{Shape}
use Rattle.listlaws.specs.Sound.{ones_to, After}
use Rattle.filllaws.specs.declared.Filling.{Filling}
use Rattle.filllaws.specs.Filling.{Stored, Flushed, Held, Raised, FramedAs, Framed, high, Partly}
use Rattle.filllaws.proofs.StoreLaws.{stored_apart, held_alike, held_flushed}
use Rattle.filllaws.proofs.FillLaws.{raised_alike, pointed_more}

-- ---- what a write leaves as it was

stored_alike : (k at : ℕ) (v : ℕ → ℕ) (a b : ℕ) (d e : List ℕ) → Stored k at v a b d e → (p q : ℕ)
    → (q ≤ at + k * a) ⊎ (at + k * b ≤ p) → Alike e d p q
stored_alike k at v a b d e s p q (inl h) i l u = s.others i (inl (omega arith))
stored_alike k at v a b d e s p q (inr h) i l u = s.others i (inr (omega arith))

pub framed_stored : {o : Form} (g : Shape) (before s t : List ℕ) (k at : ℕ) (v : ℕ → ℕ) (a b : ℕ)
    → FramedAs o g before s → Stored k at v a b s t → 13 ≤ at + k * a → at + k * b ≤ g.end → FramedAs o g before t
framed_stored g before s t k at v a b f st l u = record {
  fitting = f.fitting;
  long = st.long ∙ f.long;
  size_is = stored_apart k at v a b s t st 4 0 (inl (omega arith)) ∙ f.size_is;
  version_is = st.others 4 (inl (omega arith)) ∙ f.version_is;
  u_is = stored_apart k at v a b s t st 4 5 (inl (omega arith)) ∙ f.u_is;
  n_is = stored_apart k at v a b s t st 4 9 (inl (omega arith)) ∙ f.n_is;
  behind = λ i h. st.others i (inr (omega arith)) ∙ f.behind i h;
}

-- ---- the three writes

-- of a block in which xs are laid the lower run has low words, the upper run up words and the rest
-- r, and the pointers reach high part z; the lower run's words stand already in the room t
pub record Passed (g : Shape) (xs : List ℕ) (f : Filling) (before t room : List ℕ) (z low up r : ℕ) : Type 0 where
  pub framed : Framed g before room
  pub lower_kept : Alike room t g.lower (g.lower + 8 * low)
  pub words : Held room g.upper (upper g.w 0 xs) up r
  pub pointers : (q : ℕ) → 0 < q → q < z / 256 + 1
      → After (ones_to (upper g.w 0 xs)) (256 * q) (be_at 4 room (9 + 4 * q))

module _ (g : Shape) (xs : List ℕ) (f : Filling) (before s : List ℕ) (p : Partly g xs f before s) (z : ℕ)
    (hz : high g.w xs ≤ z)
    (m k v r word : ℕ) (s1 s2 s3 : List ℕ)
    (low : Flushed g.lower f.lows.words m v r s s1)
    (mid : Stored 4 9 (λ q. 256 * q + f.count) f.ups.next (z / 256 + 1) s1 s2)
    (up : Flushed g.upper f.ups.words k f.ups.acc word s2 s3)
    (low_end : g.lower + 8 * (f.lows.words + m) ≤ g.upper)
    (mid-end : 13 + 4 * (z / 256) ≤ g.lower)
    (up_end : g.upper + 8 * (f.ups.words + k) ≤ g.end) where
  abbrev uv : ℕ
  uv = upper g.w 0 xs

  abbrev low_at : ℕ → ℕ
  low_at j = v / 2 ^ (64 * (j - f.lows.words)) % 2 ^ 64

  abbrev up_at : ℕ → ℕ
  up_at j = f.ups.acc / 2 ^ (64 * (j - f.ups.words)) % 2 ^ 64

  next_some : 0 < f.ups.next
  next_some = omega (arith, p.ups.next)

  low_kept : (a b : ℕ) → (b ≤ g.lower) ⊎ (g.upper ≤ a) → Alike s1 s a b
  low_kept a b (inl h) =
      stored_alike 8 g.lower low_at f.lows.words (f.lows.words + m) s s1 low.stored a b (inl (omega arith))
  low_kept a b (inr h) =
      stored_alike 8 g.lower low_at f.lows.words (f.lows.words + m) s s1 low.stored a b (inr (omega arith))

  mid_kept : (a b : ℕ) → g.lower ≤ a → Alike s2 s1 a b
  mid_kept a b h =
      stored_alike 4 9 (λ q. 256 * q + f.count) f.ups.next (z / 256 + 1) s1 s2 mid a b (inr (omega arith))

  up_kept : (a b : ℕ) → b ≤ g.upper → Alike s3 s2 a b
  up_kept a b h =
      stored_alike 8 g.upper up_at f.ups.words (f.ups.words + k) s2 s3 up.stored a b (inl (omega arith))

  framed_on : Framed g before s3
  framed_on =
      let f1 = framed_stored g before s s1 8 g.lower low_at f.lows.words (f.lows.words + m) p.framed
      low.stored (omega arith) (omega arith) in
      let f2 = framed_stored g before s1 s2 4 9 (λ q. 256 * q + f.count) f.ups.next (z / 256 + 1) f1 mid
      (omega (arith, next_some)) (omega arith) in
      framed_stored g before s2 s3 8 g.upper up_at f.ups.words (f.ups.words + k) f2 up.stored
      (omega arith) (omega arith)

  raised_on : Raised s1 g.upper (high g.w xs) (length xs) uv f.ups
  raised_on =
      raised_alike s g.upper (high g.w xs) (length xs) uv f.ups p.ups s1
      (low_kept g.upper (g.upper + 8 * f.ups.words) (inr (omega arith)))
      (low_kept 13 (9 + 4 * f.ups.next) (inl (omega (arith, p.ups.next))))

  pub passed : Passed g xs f before s1 s3 z (f.lows.words + m) (f.ups.words + k) word
  passed = record {
    framed = framed_on;
    lower_kept = λ i l u. up_kept g.lower (g.lower + 8 * (f.lows.words + m)) low_end i l u
        ∙ mid_kept g.lower (g.lower + 8 * (f.lows.words + m)) (omega arith) i l u;
    words =
        let w = f.ups.words in
        let h = held_alike s1 g.upper uv w f.ups.acc raised_on.held s2
        (mid_kept g.upper (g.upper + 8 * w) (omega arith)) in
        held_flushed s2 g.upper uv w f.ups.acc h k word s3 up;
    pointers = λ q l u.
        let a = pointed_more s1 g.upper (high g.w xs) (length xs) uv f.ups raised_on z s2 hz
        (rw p.count at mid) q l u in
        let e = be_at_same 4 s3 s2 (9 + 4 * q) (λ i b d. up_kept (9 + 4 * q) (9 + 4 * q + 4) (omega arith) i b d) in
        subst (λ n. After (ones_to uv) (256 * q) n) (sym e) a;
  }
