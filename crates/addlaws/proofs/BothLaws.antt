-- Laws of a block whose two runs are laid in step: no element, one more in each run, and what is in hand at the end.
use mathlib.Core.Path.{◌≡◌, refl, sym, ap, ◌∙◌, subst}
use mathlib.Core.List.{List, ◌++◌, append_assoc}
use Prim.Native.Nat.{ℕ, ◌+◌, ◌-◌, ◌*◌, ◌/◌, ◌%◌, ◌^◌, ◌≤◌, ◌<◌}
use native.Mathlib.Nat.{add-zero}
use native.Mathlib.Omega.{arith}
use borrow.Rule.Slice.PartMut.{mid_of, put_mid}
use lib.ListN.{length, get_or, take, drop, length-append, length-drop, take-append-drop}
use lib.Seq.{length-take-le, take-length, drop-drop}
use Rattle.rules.specs.Bytes.{Bytes}
use Rattle.rules.specs.Runs.{words_for}
use Rattle.rules.specs.List.{lower, upper}
use Rattle.rules.specs.Term.{raised}
use Rattle.rules.specs.InPlace.{from, with_ones, added}
use Rattle.laws.proofs.ByteLaws.{bytes_take, bytes_drop}
use Rattle.shape.specs.declared.Shape.{Shape}
use Rattle.filllaws.specs.declared.Lows.{Lows}
use Rattle.filllaws.proofs.SideLaws.{sides}
use Rattle.addlaws.specs.declared.Highs.{Highs}
use Rattle.addlaws.specs.Adding.{used, reach, LowOne, LowsLaid, HighOne, HighsLaid, Asked, BothLaid}
use Rattle.addlaws.proofs.SetLaws.{from_front, set_long}
use Rattle.addlaws.proofs.AddLaws.{set_last, lows_none, lows_small, lows_more, lows_words, lows_in}
use Rattle.addlaws.proofs.AddLaws.{highs_none, highs_in}
use Rattle.addlaws.proofs.ElementLaws.{lower_more, upper_more, lower_first, upper_first, reach_none}
use Rattle.addlaws.proofs.ElementLaws.{reach_le, reach_more, lower_in, reach_in, upper_long, upper_room}
use Rattle.addlaws.proofs.FromLaws.{seam_part, seam_back}
use Rattle.addlaws.proofs.AddedLaws.{runs_in, added_by}
use Rattle.addlaws.proofs.MoreLaws.{from_apart}

module _ {g : Shape} {i b : ℕ} {xs d : List ℕ} (pre : Asked g i b xs d) where
  -- what is before the runs, the lower run and its words, and what starts at the upper run
  abbrev front : List ℕ
  front = take g.lower d

  abbrev words : ℕ
  words = words_for (g.n * g.w)

  abbrev run : List ℕ
  run = take (g.upper - g.lower) (drop g.lower d)

  abbrev rest : List ℕ
  rest = drop g.upper d

  front_long : length front ≡ g.lower
  front_long = length-take-le g.lower d (omega (arith, runs_in g d pre.fitting))

  run_at : g.lower + 8 * words ≡ g.upper
  run_at = omega (arith, (sides g d pre.fitting).upper)

  run_long : length run ≡ 8 * words
  run_long =
      let r = runs_in g d pre.fitting in
      length-take-le (g.upper - g.lower) (drop g.lower d) (rw length-drop (omega (arith, r)))
      ∙ omega (arith, run_at)

  whole : d ≡ front ++ (run ++ rest)
  whole =
      let e : g.upper ≡ g.lower + (g.upper - g.lower) = omega (arith, runs_in g d pre.fitting) in
      let r : rest ≡ drop (g.upper - g.lower) (drop g.lower d) =
      ap (λ (k : ℕ). drop k d) e ∙ sym (drop-drop (g.upper - g.lower) g.lower d) in
      sym (ap (λ (t : List ℕ). front ++ t) (ap (λ (t : List ℕ). run ++ t) r
      ∙ take-append-drop (g.upper - g.lower) (drop g.lower d)) ∙ take-append-drop g.lower d)

  pub both_none : Bytes d → {a : Lows} → a ≡ record { acc = 0; have = i * g.w % 64; words = i * g.w / 64 }
      → BothLaid g i b xs 0 0 a (record { acc = 0; word = 0 }) d d
  both_none c {a} e = record {
    low = run;
    high = rest;
    is = whole;
    lows =
        rw (e, add-zero i, lower_first g.w i b xs)
        (lows_none g.w i run (bytes_take (g.upper - g.lower) (drop g.lower d) (bytes_drop g.lower d c))
        (omega (arith, rw (add-zero i) at (lower_in pre 0 (omega (arith, pre.few))), run_long)));
    highs = rw (reach_none g.w i b xs, upper_first g.w i b xs) (highs_none rest);
    bytes = c;
  }

  module _ {j k : ℕ} {a : Lows} {h : Highs} {e : List ℕ} (l : BothLaid g i b xs j k a h d e) where
    abbrev lv : ℕ
    lv = lower g.w i (raised b (take j xs))

    abbrev hv : ℕ
    hv = upper g.w i (raised b (take k xs))

    low_long : length l.low ≡ 8 * words
    low_long = set_long lv a.words a.acc run l.low l.lows.set ∙ run_long

    high_long : length l.high ≡ length rest
    high_long = set_long hv h.word h.acc rest l.high l.highs.set

    -- the block up to its upper run
    high_at : length (front ++ l.low) ≡ g.upper
    high_at = length-append front l.low ∙ omega (arith, front_long, low_long, run_at)

    high_cut : e ≡ (front ++ l.low) ++ l.high
    high_cut = l.is ∙ sym (append_assoc front l.low l.high)

    pub both_long : length e ≡ length d
    both_long =
        ap length high_cut ∙ length-append (front ++ l.low) l.high
        ∙ omega (arith, high_at, high_long, length-drop g.upper d, runs_in g d pre.fitting)

    high_part : mid_of g.upper (length e - g.upper) e ≡ l.high
    high_part = seam_part (front ++ l.low) l.high e high_cut g.upper high_at

    high_back : (ys : List ℕ) → put_mid g.upper (length e - g.upper) e ys ≡ front ++ (l.low ++ ys)
    high_back ys =
        seam_back (front ++ l.low) l.high e high_cut g.upper high_at ys ∙ append_assoc front l.low ys

    pub high_room : 8 * (h.word + used h.acc) ≤ length (mid_of g.upper (length e - g.upper) e)
    high_room = omega (arith, ap length high_part, high_long, l.highs.room)

    -- the one of an element more
    pub both_high : k < length xs → {r : Highs} {ys : List ℕ}
        → HighOne h ((b + get_or xs k 0) / 2 ^ g.w + (i + k)) r (mid_of g.upper (length e - g.upper) e) ys
        → BothLaid g i b xs j (k + 1) a r d (put_mid g.upper (length e - g.upper) e ys)
    both_high m {r} {ys} o = record {
      low = l.low;
      high = ys;
      is = high_back ys;
      lows = l.lows;
      highs =
          rw (← reach_more pre k, upper_more b g.w i xs k m)
          (o (reach g.w i b xs k) hv rest (bytes_drop g.upper d l.bytes)
          (subst (λ (t : List ℕ). HighsLaid (reach g.w i b xs k) hv h rest t) (sym high_part) l.highs)
          (reach_le pre k m) (upper_room pre k m));
      bytes = l.bytes;
    }

    low_part : mid_of g.lower (length e - g.lower) e ≡ l.low ++ l.high
    low_part = seam_part front (l.low ++ l.high) e l.is g.lower front_long

    more_within : j < length xs → 8 * (a.words + (a.have + g.w) / 64) ≤ 8 * words
    more_within m =
        let n : i + (j + 1) ≡ i + j + 1 = omega arith in
        let t = rw n at (lower_in pre (j + 1) (omega (arith, pre.few))) in
        omega (arith, t, lows_words g.w (i + j) lv a run l.low l.lows)

    pub low_room : j < length xs
        → 8 * (a.words + (a.have + g.w) / 64) ≤ length (mid_of g.lower (length e - g.lower) e)
    low_room m = omega (arith, ap length low_part ∙ length-append l.low l.high, low_long, more_within m)

    -- the low part of an element more
    pub both_low : j < length xs → {r : Lows} {ys : List ℕ}
        → LowOne g.w a (b + get_or xs j 0) r (mid_of g.lower (length e - g.lower) e) ys
        → BothLaid g i b xs (j + 1) k r h d (put_mid g.lower (length e - g.lower) e ys)
    both_low m {r} {ys} o =
        let n : i + (j + 1) ≡ i + j + 1 = omega arith in
        let x : ℕ = b + get_or xs j 0 in
        let q : ℕ = (a.have + g.w) / 64 in
        let v : ℕ = a.acc + x % 2 ^ g.w * 2 ^ a.have in
        let t : List ℕ = from (8 * a.words) (with_ones q v) l.low in
        record {
          low = t;
          high = l.high;
          is = seam_back front (l.low ++ l.high) e l.is g.lower front_long ys
              ∙ ap (λ (s : List ℕ). front ++ s) (o.is ∙ ap (from (8 * a.words) (with_ones q v)) low_part
              ∙ from_front (8 * a.words) q v l.low l.high (omega (arith, more_within m, low_long)));
          lows =
              rw (n, lower_more b g.w i xs j m)
              (lows_more g.w (i + j) lv a run l.low l.lows x r t (omega (arith, more_within m, run_long))
              (record { is = refl; rest = o.rest; have = o.have; words = o.words }));
          highs = l.highs;
          bytes = l.bytes;
        }

  -- all elements are laid or in hand, and the upper run's last word is set
  module _ {a : Lows} {h : Highs} {e : List ℕ} (l : BothLaid g i b xs (length xs) (length xs) a h d e) {ys : List ℕ}
      (o : ys ≡ from (8 * h.word) (with_ones (used h.acc) h.acc) (mid_of g.upper (length e - g.upper) e)) where
    abbrev low_all : ℕ
    low_all = lower g.w i (raised b xs)

    abbrev high_all : ℕ
    high_all = upper g.w i (raised b xs)

    abbrev top : List ℕ
    top = with_ones (words_for g.bits) high_all rest

    abbrev half : List ℕ
    half = put_mid g.upper (length e - g.upper) e ys

    lows_done : LowsLaid g.w (i + length xs) low_all a run l.low
    lows_done =
        subst (λ (zs : List ℕ). LowsLaid g.w (i + length xs) (lower g.w i (raised b zs)) a run l.low)
        (take-length xs) l.lows

    highs_done : HighsLaid (reach g.w i b xs (length xs)) high_all h rest l.high
    highs_done =
        let q : ℕ = reach g.w i b xs (length xs) in
        subst (λ (zs : List ℕ). HighsLaid q (upper g.w i (raised b zs)) h rest l.high) (take-length xs) l.highs

    highs_set : ys ≡ top
    highs_set =
        let q : ℕ = reach g.w i b xs (length xs) in
        set_last high_all h.word h.acc rest l.high highs_done.set highs_done.one (words_for g.bits) ys
        (bytes_drop g.upper d l.bytes)
        (highs_in q high_all h rest l.high highs_done (words_for g.bits)
        (reach_in pre (length xs) (omega arith)))
        (upper_long pre)
        (o ∙ ap (from (8 * h.word) (with_ones (used h.acc) h.acc)) (high_part l))

    half_is : half ≡ front ++ (l.low ++ top)
    half_is =
        high_back l ys ∙ ap (λ (t : List ℕ). front ++ (l.low ++ t)) highs_set

    half_part : mid_of g.lower (length half - g.lower) half ≡ l.low ++ top
    half_part = seam_part front (l.low ++ top) half half_is g.lower front_long

    in_run : a.words + used a.acc ≤ words
    in_run =
        lows_in g.w (i + length xs) low_all a run l.low lows_done words (lower_in pre (length xs) pre.few)

    in_low : 8 * (a.words + used a.acc) ≤ length l.low
    in_low = omega (arith, in_run, low_long l)

    pub last_room : 8 * (a.words + used a.acc) ≤ length (mid_of g.lower (length half - g.lower) half)
    last_room = omega (arith, ap length half_part ∙ length-append l.low top, in_low)

    abbrev flush : List ℕ → List ℕ
    flush = from (8 * a.words) (with_ones (used a.acc) a.acc)

    -- and the lower run's
    module _ {zs : List ℕ} (p : zs ≡ flush (mid_of g.lower (length half - g.lower) half)) where
      lows_set : zs ≡ with_ones words low_all run ++ top
      lows_set =
          p ∙ ap flush half_part
          ∙ from_front (8 * a.words) (used a.acc) a.acc l.low top (omega (arith, in_low))
          ∙ ap (λ (t : List ℕ). t ++ top)
          (set_last low_all a.words a.acc run l.low lows_done.set
          (lows_small g.w (i + length xs) low_all a run l.low lows_done) words (flush l.low)
          (bytes_take (g.upper - g.lower) (drop g.lower d) (bytes_drop g.lower d l.bytes))
          in_run (omega (arith, run_long)) refl)

      pub both_added : put_mid g.lower (length half - g.lower) half zs ≡ added g.u g.n i (raised b xs) d
      both_added =
          let hi : List ℕ → List ℕ = with_ones (words_for g.bits) high_all in
          let lo : List ℕ → List ℕ = with_ones words low_all in
          seam_back front (l.low ++ top) half half_is g.lower front_long zs
          ∙ ap (λ (t : List ℕ). front ++ t) lows_set
          ∙ sym (from_apart hi g.lower g.upper words low_all front run rest front_long run_long run_at)
          ∙ ap (λ (t : List ℕ). from g.lower lo (from g.upper hi t)) (sym whole)
          ∙ added_by g i (raised b xs) d pre.fitting
