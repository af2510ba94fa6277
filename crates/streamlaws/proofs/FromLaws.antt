-- Laws of bytes behind others, and of bytes laid over others.
use mathlib.Core.Path.{◌≡◌, sym, ap, ◌∙◌}
use mathlib.Core.List.{List, ◌++◌}
use Prim.Native.Nat.{ℕ, ◌+◌}
use lib.ListN.{length, drop}
use lib.Seq.{drop_at, drop-append-add}
use Rattle.rules.specs.Write.{laid}

pub drop_past : (p q : ℕ) (a s : List ℕ) → length a + q ≡ p → drop p (a ++ s) ≡ drop q s
drop_past p q a s e = ap (λ (k : ℕ). drop k (a ++ s)) (sym e) ∙ drop-append-add a s q

-- bytes laid over others
pub laid_over : (b a s : List ℕ) → length a ≡ length b → laid b (a ++ s) ≡ b ++ s
unfolding laid
laid_over b a s e = ap (λ (l : List ℕ). b ++ l) (drop_at a s (length b) e)

-- bytes of a known length laid into a room
pub laid_at : (n : ℕ) (b room : List ℕ) → length b ≡ n → laid b room ≡ b ++ drop n room
unfolding laid
laid_at n b room e = ap (λ (k : ℕ). b ++ drop k room) e
