-- What is read of an accepted list with elements: counts and pointers of its upper run, and each element by its rank.
use mathlib.Core.Bool.{true}
use mathlib.Core.Path.{◌≡◌, sym, ap, ◌∙◌}
use mathlib.Core.List.{List}
use Prim.Native.Nat.{ℕ, suc, ◌+◌, ◌-◌, ◌*◌, ◌/◌, ◌^◌, ◌≤◌, ◌<◌}
use native.Mathlib.Nat.{zero-add}
use native.Mathlib.Decide.{dec_lt}
use native.Mathlib.Omega.{arith}
use lib.ListN.{length, get_or}
use lib.Pow.{shr_mono}
use Rattle.rules.specs.Verdict.{Accepted}
use Rattle.rules.specs.Bytes.{be_at}
use Rattle.rules.specs.Runs.{bit, run_bit, field}
use Rattle.rules.specs.Counts.{ones_below}
use Rattle.rules.specs.List.{rising, zeros, upper, two_runs}
use Rattle.rules.specs.ReadList.{list_u, list_n, elements, decode, list_refusal}
use Rattle.laws.proofs.CountLaws.{below_none, run_steps}
use Rattle.laws.proofs.RunLaws.{ones_whole, ones_mono}
use Rattle.listlaws.specs.Sound.{width_of, upper_of, lower_of, bits_of, After, Sound}
use Rattle.listlaws.proofs.AfterLaws.{count_agree, after_le}
use Rattle.listlaws.proofs.RisingLaws.{rising_at}
use Rattle.listlaws.proofs.ElementLaws.{element_at, upper_agrees}
use Rattle.listlaws.proofs.UpperLaws.{upper_set, upper_rank}
use Rattle.listlaws.proofs.RefusalLaws.{framed_form, decode_runs, alone_framed}
use Rattle.listlaws.proofs.ValidLaws.{valid_parts, valid_n, read_is}
use Rattle.listlaws.proofs.SoundLaws.{sound_iff}
use Rattle.listlaws.proofs.Theorems.{accepted_block, accepted_bytes}

module _ (s : List ℕ) (a : list_refusal s ≡ Accepted) where
  pub accepted_rising : rising 0 (list_u s) (decode s) ≡ true
  accepted_rising = (valid_parts (list_u s) (decode s) (accepted_block s a).0).1

  pub accepted_length : length (decode s) ≡ list_n s
  accepted_length =
      let b = accepted_block s a in
      sym (ap list_n b.1 ∙ valid_n (list_u s) (decode s) b.0)

  module _ (some : 0 < list_n s) where
    abbrev U : ℕ
    U = list_u s

    abbrev n : ℕ
    n = list_n s

    pub accepted_sound : Sound s (list_u s) (list_n s) (width_of s)
    accepted_sound =
        let f = alone_framed s a in
        (sound_iff s (accepted_bytes s a) f.0 some).0 f.1

    -- the elements that are read
    reads : decode s ≡ elements s (upper_of s) (lower_of s) (width_of s) (bits_of s) 0 0
    reads = decode_runs s (framed_form two_runs s (alone_framed s a).0) ∙ read_is s U n some

    -- ---- counts

    pub ones_total : ones_below s (upper_of s) (bits_of s) ≡ n
    ones_total = sym (ones_whole s (upper_of s) (bits_of s) accepted_sound.upper_spare) ∙ accepted_sound.ones_are

    -- a place with fewer than n ones below it lies in the run
    pub ones_within : (p : ℕ) → ones_below s (upper_of s) p < n → p < bits_of s
    ones_within p h =
        elim (dec_lt p (bits_of s)) [
          | yes l ↦ l
          | no g ↦
              let e : bits_of s + (p - bits_of s) ≡ p = omega arith in
              absurd (omega (arith, rw e at (ones_mono s (upper_of s) (bits_of s) (p - bits_of s)), ones_total))
        ]

    -- ---- pointers

    pub pointer_after : (q : ℕ) → 0 < q → q ≤ zeros U (width_of s) / 256
        → After (ones_below s (upper_of s)) (256 * q) (be_at 4 s (9 + 4 * q))
    pointer_after = accepted_sound.pointers_are

    pub pointer_le : (q : ℕ) → 0 < q → q ≤ zeros U (width_of s) / 256 → be_at 4 s (9 + 4 * q) ≤ bits_of s
    pointer_le q g h = after_le (ones_below s (upper_of s)) (run_steps s (upper_of s)) (256 * q) (be_at 4 s (9 + 4 * q))
        (pointer_after q g h) (bits_of s) (omega (arith, ones_total))

    -- ---- elements by rank

    -- the one with h zeros and i ones below it is that of element number i
    pub element_of_rank : (h i : ℕ) → i < n → ones_below s (upper_of s) (h + i) ≡ i → run_bit s (upper_of s) (h + i) ≡ 1
        → get_or (decode s) i 0 ≡ h * 2 ^ width_of s + field s (lower_of s) (i * width_of s) (width_of s)
    element_of_rank h i l c e =
        let z : 0 + 0 + (h + i) ≡ h + i = omega arith in
        let m : h + i < bits_of s = ones_within (h + i) (omega arith) in
        let t : h + i + suc (bits_of s - suc (h + i)) ≡ bits_of s = omega arith in
        let c' : ones_below s (upper_of s) (0 + 0 + (h + i)) ≡ ones_below s (upper_of s) (0 + 0) + i =
        rw z (c ∙ sym (ap (λ (k : ℕ). k + i) (below_none s (upper_of s)) ∙ zero-add i)) in
        ap (λ (l : List ℕ). get_or l i 0) reads
        ∙ rw (zero-add h, zero-add i, t) at (element_at s (upper_of s) (lower_of s) (width_of s) h i
        (bits_of s - suc (h + i)) 0 0 c' (rw (zero-add h, zero-add i) e))

    abbrev place : ℕ → ℕ
    place i = get_or (decode s) i 0 / 2 ^ width_of s + i

    place_within : (i : ℕ) → i < n → place i < bits_of s
    unfolding zeros
    place_within i l =
        let t = rising_at 0 U (decode s) accepted_rising i (omega (arith, accepted_length)) in
        omega (arith, shr_mono {a = get_or (decode s) i 0} {b = U} (width_of s) (omega (arith, t.1)))

    run_agrees : (p : ℕ) → p < bits_of s → run_bit s (upper_of s) p ≡ bit (upper (width_of s) 0 (decode s)) p
    run_agrees p h = upper_agrees s (upper_of s) (lower_of s) (width_of s) (bits_of s) p h
        ∙ ap (λ (l : List ℕ). bit (upper (width_of s) 0 l) p) (sym reads)

    -- every element has its one, below which are its high part in zeros and its number in ones
    pub rank_of_element : (i : ℕ) → i < n → (run_bit s (upper_of s) (get_or (decode s) i 0 / 2 ^ width_of s + i) ≡ 1)
        × (ones_below s (upper_of s) (get_or (decode s) i 0 / 2 ^ width_of s + i) ≡ i)
    rank_of_element i l =
        let r = accepted_rising in
        let h : i < length (decode s) = omega (arith, accepted_length) in
        let m : place i < bits_of s = place_within i l in (
          run_agrees (place i) m ∙ upper_set (width_of s) U (decode s) r i h,
          count_agree s (upper_of s) (upper (width_of s) 0 (decode s)) (bits_of s) run_agrees (place i) (omega arith)
              ∙ upper_rank (width_of s) U (decode s) r i h,
        )
