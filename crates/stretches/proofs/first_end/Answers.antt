-- `first_end` reads the first count.
use mathlib.Core.Path.{◌≡◌, refl, ap}
use mathlib.Core.List.{List, [], ◌∷◌}
use Prim.Native.Nat.{ℕ, ◌<◌}
use native.Mathlib.Omega.{arith}
use lib.ListN.{length, get_or}
use Rattle.wordlaws.specs.Stretch.{headed}
use Rattle.wordlaws.proofs.LayLaws.{positive_at}
use Rattle.stretches.proofs.first_end.Goals as goal

headed_first : (e : ℕ) (cs : List ℕ) → (0 < length cs → e ≡ get_or cs 0 0) → headed e cs ≡ cs
unfolding headed
headed_first e [] f = refl
headed_first e (c ∷ cs) f = ap (λ k. k ∷ cs) (f (omega arith))

pub returns-then-counts-eq0 : goal.returns-then-counts-eq0
returns-then-counts-eq0 c =
    let cs = c.args.counts.now in
    (headed_first 1 cs (λ h. absurd (omega (arith, c.if-counts-eq0.true))), omega arith, λ p. omega arith)

pub overflow_cast-result : goal.overflow_cast-result
overflow_cast-result c = omega (arith, c.shared_slice_known-1.given 0)

pub returns : goal.returns
returns c =
    let cs = c.args.counts.now in (
      headed_first (get_or cs 0 0) cs (λ h. refl),
      omega (arith, c.shared_slice_known-1.given 0),
      λ p. positive_at cs p 0 (omega (arith, c.if-counts-eq0.false)),
    )
