-- `first_spot` is on the first page.
use mathlib.Core.Path.{◌≡◌, refl, ap, ◌∙◌}
use mathlib.Core.List.{List}
use Prim.Native.Nat.{ℕ, ◌+◌}
use native.Mathlib.Omega.{arith}
use Rattle.wordlaws.specs.Stretch.{last_at, base_at}
use Rattle.stretches.proofs.first_spot.Goals as goal

pub returns : goal.returns
unfolding base_at
returns c =
    let e = c.first_end.ensures in (
      refl,
      λ U ps q. record {
        placing = q;
        within = omega arith;
        some = e.2 q.counted;
        small = e.1;
        page = λ h j.
            let n : j ≡ 0 + j = omega arith in
            ap (λ (l : List ℕ). last_at l j) e.0 ∙ ap (last_at c.args.counts.now) n;
        base = refl;
      },
    )
