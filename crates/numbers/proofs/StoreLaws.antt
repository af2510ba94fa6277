-- What the bytes of a number leave where they are written over as many bytes of a list.
use mathlib.Core.Path.{◌≡◌, ap}
use mathlib.Core.List.{List, ◌++◌, append_assoc}
use Prim.Native.Nat.{ℕ, ◌+◌, ◌-◌, ◌≤◌}
use native.Mathlib.Omega.{arith}
use borrow.Rule.Slice.PartMut.{put_mid}
use lib.ListN.{length, take}
use lib.Seq.{drop-drop}
use Rattle.std.proofs.lemmas.List.Edits.{sets, sets-eq}
use Rattle.rules.specs.Bytes.{be}
use Rattle.laws.proofs.ByteLaws.{length_be}

pub stored : (k v : ℕ) (d b : List ℕ) (at : ℕ) → at + k ≤ length d → b ≡ be k v → put_mid at (at + k - at) d b ≡ sets d at (be k v)
stored k v d b at h e =
    let n : at + k - at ≡ k = omega arith in
    let l = length_be k v in
    rw (n, e, sets-eq (be k v) d at (omega (arith, l)), l, append_assoc) (ap (λ (t : List ℕ). take at d ++ (be k v ++ t)) (drop-drop k at d))
