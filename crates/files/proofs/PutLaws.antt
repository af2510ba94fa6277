-- Laws of what is laid into lent room piece by piece.
use mathlib.Core.Path.{◌≡◌, refl, sym, ap, ◌∙◌}
use mathlib.Core.List.{List, [], ◌∷◌, ◌++◌, append_assoc, append-nil}
use Prim.Native.Nat.{ℕ, ◌+◌, ◌≤◌}
use native.Mathlib.Nat.{zero-add}
use native.Mathlib.Omega.{arith}
use lib.ListN.{length, set, length-append}
use lib.Seq.{length-sets, sets-eq}
use Rattle.rules.specs.Write.{laid}
use Rattle.laws.proofs.ByteLaws.{sets_cat}
use Rattle.files.specs.Laid.{Put, Partly}

-- ---- laid

pub put_none : (at : ℕ) (d : List ℕ) → Put [] at at d d
put_none at d = record { stored = refl; next = omega arith }

pub put_one : (x at : ℕ) (d : List ℕ) → Put (x ∷ []) at (at + 1) d (set d at x)
put_one x at d = record { stored = refl; next = refl }

pub put_cat : {a b : List ℕ} {at m n : ℕ} {d e f : List ℕ} → Put a at m d e → Put b m n e f → Put (a ++ b) at n d f
put_cat {a} {b} {at} {m} {n} {d} {e} {f} p q =
    record {
      stored = q.stored ∙ rw (p.stored, p.next) (sets_cat d at a b);
      next = q.next ∙ rw (p.next, length-append) (omega arith);
    }

pub put_same : {a b : List ℕ} {at n : ℕ} {d e : List ℕ} → a ≡ b → Put a at n d e → Put b at n d e
put_same {at = at} {n} {d} {e} g p = rw g at p

pub put_length : {b : List ℕ} {at n : ℕ} {d e : List ℕ} → Put b at n d e → length e ≡ length d
put_length {b} {at} {n} {d} {e} p = ap length p.stored ∙ length-sets d at b

-- laid at the front
pub put_laid : (b : List ℕ) {r : ℕ} (d : List ℕ) {e : List ℕ} → Put b 0 r d e → length b ≤ length d → (e ≡ laid b d)
    × (r ≡ length b)
unfolding laid
put_laid b d p h = (p.stored ∙ rw zero-add at (sets-eq b d 0 (omega arith)), p.next ∙ zero-add (length b))

-- ---- laid in part

pub partly_none : (w : List ℕ) (at : ℕ) (d : List ℕ) → Partly w w at at d d
partly_none w at d = record { done = []; put = put_none at d; whole = refl }

pub partly_same : {w a b : List ℕ} {at n : ℕ} {d e : List ℕ} → a ≡ b → Partly w a at n d e → Partly w b at n d e
partly_same g p = record { done = p.done; put = p.put; whole = p.whole ∙ ap (λ l. p.done ++ l) g }

pub partly_more : {w a b : List ℕ} {at m n : ℕ} {d e f : List ℕ} → Partly w (a ++ b) at m d e → Put a m n e f
    → Partly w b at n d f
partly_more {w} {a} {b} p q = record {
  done = p.done ++ a;
  put = put_cat p.put q;
  whole = p.whole ∙ sym (append_assoc p.done a b);
}

pub partly_all : {w : List ℕ} {at n : ℕ} {d e : List ℕ} → Partly w [] at n d e → Put w at n d e
partly_all p = put_same (sym (p.whole ∙ append-nil p.done)) p.put

-- the end laid as well
pub partly_end : {w b : List ℕ} {at m n : ℕ} {d e f : List ℕ} → Partly w b at m d e → Put b m n e f → Put w at n d f
partly_end {b = b} p q = partly_all (partly_more (partly_same (sym (append-nil b)) p) q)
