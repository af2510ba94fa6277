-- Laws of a bitmap that elements are laid into in place: none, one more, and what is in hand at the end.
use mathlib.Core.Path.{◌≡◌, refl, sym, ap, ap₂, ◌∙◌, subst}
use mathlib.Core.List.{List, [], ◌∷◌, ◌++◌}
use Prim.Native.Nat.{ℕ, zero, suc, ◌+◌, ◌-◌, ◌*◌, ◌^◌, ◌≤◌, ◌<◌}
use native.Mathlib.Numerals.{add-one}
use native.Mathlib.Omega.{arith}
use borrow.Rule.Slice.PartMut.{mid_of, put_mid}
use lib.ListN.{length, get_or, take, drop, length-append, length-drop, take-append-drop}
use lib.Seq.{take-suc, take-length, length-take-le}
use Rattle.rules.specs.Bytes.{Bytes}
use Rattle.rules.specs.Runs.{words_for}
use Rattle.rules.specs.List.{map_of, map_size}
use Rattle.rules.specs.InPlace.{from, with_ones, map_added}
use Rattle.laws.proofs.ByteLaws.{bytes_drop}
use Rattle.listlaws.proofs.RisingLaws.{rising_at, rising_gap}
use Rattle.maplaws.proofs.NumberLaws.{map_nil, map_cons, map_append}
use Rattle.addlaws.specs.declared.Highs.{Highs}
use Rattle.addlaws.specs.Adding.{used, HighOne, HighsLaid, behind, MapAsked, MapLaid}
use Rattle.addlaws.proofs.SetLaws.{set_long}
use Rattle.addlaws.proofs.AddLaws.{set_last, highs_none, highs_in}
use Rattle.addlaws.proofs.FromLaws.{seam_part, seam_back}

-- ---- the elements

map_first : (xs : List ℕ) → map_of (take 0 xs) ≡ 0
map_first xs = map_nil

map_next : (xs : List ℕ) (j : ℕ) → j < length xs → map_of (take (j + 1) xs) ≡ map_of (take j xs) + 2 ^ get_or xs j 0
map_next xs j h =
    ap map_of (ap (λ (k : ℕ). take k xs) (add-one j) ∙ take-suc xs j 0 h)
    ∙ map_append (take j xs) (get_or xs j 0 ∷ [])
    ∙ ap (λ (k : ℕ). map_of (take j xs) + k) (map_cons (get_or xs j 0) [] ∙ omega (arith, map_nil))

behind_none : (xs : List ℕ) → behind xs 0 ≡ 0
unfolding behind
behind_none xs = refl

behind_more : (xs : List ℕ) (j : ℕ) → behind xs (j + 1) ≡ get_or xs j 0 + 1
unfolding behind
behind_more xs j = ap (behind xs) (add-one j)

module _ {U at : ℕ} {xs d : List ℕ} (a : MapAsked U at xs d) where
  -- each is above those before it
  behind_le : (j : ℕ) → j < length xs → behind xs j ≤ get_or xs j 0
  unfolding behind
  behind_le zero h = omega arith
  behind_le (suc j) h = omega (arith, rw (add-one j) at (rising_gap 0 U xs a.rises j 1 (omega arith)))

  behind_in : (j : ℕ) → j ≤ length xs → behind xs j ≤ U
  unfolding behind
  behind_in zero h = omega arith
  behind_in (suc j) h = omega (arith, (rising_at 0 U xs a.rises j (omega arith)).1)

  pub map_small : (j : ℕ) → j < length xs → get_or xs j 0 < U
  map_small j h = (rising_at 0 U xs a.rises j h).1

  -- the bitmap lies in the block
  pub map_in : at + 8 * words_for U ≤ length d
  unfolding map_size
  map_in = omega (arith, a.at_is, a.room)

  front_long : length (take at d) ≡ at
  front_long = length-take-le at d (omega (arith, map_in))

  words_long : 8 * words_for U ≤ length (drop at d)
  words_long = rw length-drop (omega (arith, map_in))

  -- ---- the bitmap

  pub map_none : Bytes d → MapLaid at xs 0 (record { acc = 0; word = 0 }) d d
  map_none b = record {
    high = drop at d;
    is = sym (take-append-drop at d);
    highs = rw (behind_none xs, map_first xs) (highs_none (drop at d));
    bytes = b;
  }

  module _ {j : ℕ} {h : Highs} {e : List ℕ} (l : MapLaid at xs j h d e) where
    high_long : length l.high ≡ length (drop at d)
    high_long = set_long (map_of (take j xs)) h.word h.acc (drop at d) l.high l.highs.set

    pub map_long : length e ≡ length d
    map_long =
        ap length l.is ∙ length-append (take at d) l.high
        ∙ omega (arith, front_long, high_long, length-drop at d, map_in)

    part : mid_of at (length e - at) e ≡ l.high
    part = seam_part (take at d) l.high e l.is at front_long

    pub map_room : 8 * (h.word + used h.acc) ≤ length (mid_of at (length e - at) e)
    map_room = omega (arith, ap length part, high_long, l.highs.room)

    -- an element more
    pub map_more : j < length xs → {r : Highs} {ys : List ℕ}
        → HighOne h (get_or xs j 0) r (mid_of at (length e - at) e) ys
        → MapLaid at xs (j + 1) r d (put_mid at (length e - at) e ys)
    unfolding words_for
    map_more m {r} {ys} o = record {
      high = ys;
      is = seam_back (take at d) l.high e l.is at front_long ys;
      highs =
          rw (behind_more xs j, map_next xs j m)
          (o (behind xs j) (map_of (take j xs)) (drop at d) (bytes_drop at d l.bytes)
          (subst (λ (t : List ℕ). HighsLaid (behind xs j) (map_of (take j xs)) h (drop at d) t) (sym part) l.highs)
          (behind_le j m) (omega (arith, map_small j m, words_long)));
      bytes = l.bytes;
    }

  -- all elements are laid or in hand, and the last word is set
  module _ {h : Highs} {e : List ℕ} (l : MapLaid at xs (length xs) h d e) {ys : List ℕ}
      (o : ys ≡ from (8 * h.word) (with_ones (used h.acc) h.acc) (mid_of at (length e - at) e)) where
    done : HighsLaid (behind xs (length xs)) (map_of xs) h (drop at d) l.high
    done =
        subst (λ (zs : List ℕ). HighsLaid (behind xs (length xs)) (map_of zs) h (drop at d) l.high) (take-length xs)
        l.highs

    words_set : ys ≡ with_ones (words_for U) (map_of xs) (drop at d)
    unfolding words_for
    words_set =
        set_last (map_of xs) h.word h.acc (drop at d) l.high done.set done.one (words_for U) ys
        (bytes_drop at d l.bytes)
        (highs_in (behind xs (length xs)) (map_of xs) h (drop at d) l.high done (words_for U)
        (omega (arith, behind_in (length xs) (omega arith))))
        words_long
        (o ∙ ap (from (8 * h.word) (with_ones (used h.acc) h.acc)) (part l))

    pub map_added_lem : put_mid at (length e - at) e ys ≡ map_added U xs d
    unfolding map_added from
    map_added_lem =
        seam_back (take at d) l.high e l.is at front_long ys
        ∙ ap₂ (λ (p : ℕ) (t : List ℕ). take p d ++ t) a.at_is
        (words_set ∙ ap (λ (p : ℕ). with_ones (words_for U) (map_of xs) (drop p d)) a.at_is)
