-- The same lists in an index of any version: the same common pages, found with as many seeks.
use mathlib.Core.Path.{◌≡◌, refl}
use mathlib.Core.List.{List, [], ◌∷◌}
use Prim.Native.Nat.{ℕ, ◌+◌, ◌<◌}
use lib.ListN.{length}
use Rattle.rules.specs.Common.{reader, readers_of, lead_pages, other_pages, common_from, common}
use Rattle.commonlaws.specs.Readers.{Rise}
use Rattle.commonlaws.specs.Next.{fresh_lead, fresh_others}
use Rattle.commonlaws.proofs.CommonLaws.{common_from_lem, lead_ready, others_ready}
use Rattle.formlaws.specs.Alike.{Alike, AllAlike}
use Rattle.formlaws.proofs.AlikeLaws.{rounds_alike}

reader_alike : (v z U : ℕ) (l : List ℕ) → Alike (reader v U l) (reader z U l)
unfolding reader
reader_alike v z U l = record { pages = refl; cursor = refl }

readers_alike : (v z U : ℕ) (ls : List (List ℕ)) → AllAlike (readers_of v U ls) (readers_of z U ls)
unfolding readers_of
readers_alike v z U [] = tt
readers_alike v z U (l ∷ ls) = (reader_alike v z U l, readers_alike v z U ls)

module _ (v z U : ℕ) (ls : List (List ℕ)) (some : 0 < length ls) (r : Rise U ls) where
  pub forms_from : (b n : ℕ) → ((common_from z U ls b n).seeks ≡ (common_from v U ls b n).seeks)
      × ((common_from z U ls b n).listed ≡ (common_from v U ls b n).listed)
  unfolding fresh_lead fresh_others
  forms_from b n =
      rw (common_from_lem v U ls b n, common_from_lem z U ls b n)
      (rounds_alike U (fresh_lead v U ls) (fresh_others v U ls) b (lead_ready v U ls some r b)
      (others_ready v U ls some r b) (fresh_lead z U ls) (fresh_others z U ls)
      (reader_alike v z U (lead_pages ls)) (readers_alike v z U (other_pages ls)) n)

  pub forms_common : ((common z U ls).seeks ≡ (common v U ls).seeks) × ((common z U ls).listed ≡ (common v U ls).listed)
  unfolding common
  forms_common = forms_from 0 (length (lead_pages ls) + 1)
