-- The walk of a search on a bitmap: from the bound's bit on, before which every element is below the bound.
use mathlib.Core.Path.{◌≡◌, refl, sym, ap, ◌∙◌}
use mathlib.Core.List.{List}
use Prim.Native.Nat.{ℕ, suc, ◌+◌, ◌*◌, ◌/◌, ◌%◌, ◌^◌, ◌≤◌, ◌<◌}
use native.Mathlib.Nat.{zero-mul, mul-pos}
use native.Mathlib.Omega.{arith}
use lib.Count.{count_trailing_zeros}
use lib.ListN.{get_or}
use lib.Pow.{pow_pos}
use Rattle.rules.specs.Runs.{run_word, words_for}
use Rattle.rules.specs.Counts.{ones_below}
use Rattle.rules.specs.List.{bitmap}
use Rattle.rules.specs.ReadList.{decode}
use Rattle.rules.specs.Seek.{place_of}
use Rattle.laws.proofs.CountLaws.{below_suc}
use Rattle.shape.specs.declared.Shape.{Shape}
use Rattle.readlaws.proofs.OneLaws.{count_lt}
use Rattle.walklaws.specs.declared.Ones.{Ones}
use Rattle.walklaws.specs.declared.Landing.{Landing}
use Rattle.walklaws.specs.Cursors.{spent_mark}
use Rattle.walklaws.specs.Walks.{Before, Walking, Landed, landing_word}
use Rattle.walklaws.proofs.OpenLaws.{Stored, words_few, placed_at, before_place}
use Rattle.walklaws.proofs.WalkLaws.{walking_from, walking_next, walking_end, one_lt, one_there}
use Rattle.walklaws.proofs.LandLaws.{landed_on, landed_none}
use Rattle.mapseek.proofs.ShiftLaws.{tz_odd, tz_from}

-- what is left of word k, with as many ones before it as are below b
abbrev pub map_walk : List ℕ → Shape → ℕ → ℕ → ℕ → Ones
map_walk s g b left k = record { left = left; k = k; rank = ones_below s g.upper b }

module _ (s : List ℕ) (g : Shape) (t : Stored bitmap s g) (b : ℕ) (inside : b < g.bits) where
  pub word_inside : b / 64 < words_for g.bits
  unfolding words_for
  word_inside = omega arith

  -- at the word of bit b
  pub map_starts : (left : ℕ) → left ≡ run_word s g.upper (b / 64) / 2 ^ (b % 64) * 2 ^ (b % 64)
      → Walking s g (map_walk s g b left (b / 64))
  map_starts left e =
      let d : 64 * (b / 64) + b % 64 ≡ b = omega arith in
      walking_from s g t.run (b % 64) (map_walk s g b left (b / 64)) (omega arith) word_inside e
      (sym (ap (ones_below s g.upper) d))

  -- of which none is left
  pub map_none_there : run_word s g.upper (b / 64) / 2 ^ (b % 64) ≡ 0 → Walking s g (map_walk s g b 0 (b / 64))
  map_none_there e = map_starts 0 (rw (e, zero-mul))

  map_before : Before s b (ones_below s g.upper b)
  unfolding place_of
  map_before = before_place bitmap s g t b b (λ j h l. l)

  module _ (left k : ℕ) (a : Walking s g (map_walk s g b left k)) where
    pub map_next : (y : ℕ) → left ≡ 0 → k + 1 < words_for g.bits → y ≡ run_word s g.upper (k + 1)
        → Walking s g (map_walk s g b y (k + 1))
    map_next y e l w = walking_next s g t.run (map_walk s g b left k) a (map_walk s g b y (k + 1)) e refl l w refl

    -- the last word has no one left
    pub map_lands_none : 0 < g.n → left ≡ 0 → k + 1 ≡ words_for g.bits → (r : Landing) → r.mark ≡ spent_mark
        → r.bit ≡ 0 → Landed bitmap s b r × (landing_word bitmap s b ≡ k)
    map_lands_none some e l r m p =
        let n = walking_end s g t.run (map_walk s g b left k) a e l in
        let d = landed_none bitmap s g t b (map_walk s g b left k) a map_before r some (omega (arith, n)) m p in
        (d.0, omega (arith, d.1))

    module _ (some : 0 < left) where
      abbrev page : ℕ
      page = 64 * k + count_trailing_zeros 64 left

      pub page_small : 64 * k + count_trailing_zeros 64 left < 2 ^ 27
      page_small = omega (
        arith,
        words_few s g t.run k a.within,
        one_lt s g t.run (map_walk s g b left k) a some,
      )

      -- the page of the first one that is left
      page_is : get_or (decode s) (ones_below s g.upper b) 0 ≡ page
      unfolding place_of
      page_is =
          placed_at bitmap s g t page (ones_below s g.upper b) (one_there s g t.run (map_walk s g b left k) a some)

      page_ahead : b ≤ page
      page_ahead =
          let one = one_there s g t.run (map_walk s g b left k) a some in
          let l =
          count_lt s g.upper b (suc page) (omega (arith, one.set, one.below, below_suc s g.upper page)) in
          omega arith

      pub map_lands : (r : Landing) → r.mark ≡ 64 * k + count_trailing_zeros 64 left + 1
          → r.bit ≡ 64 * k + count_trailing_zeros 64 left → Landed bitmap s b r × (landing_word bitmap s b ≡ k)
      map_lands r m p =
          landed_on bitmap s g t b (map_walk s g b left k) a map_before r some (omega (arith, page_is, page_ahead))
          (m ∙ ap (λ (x : ℕ). x + 1) (sym page_is)) p

  -- ---- in the word of bit b

  module _ (rest : ℕ) (e : rest ≡ run_word s g.upper (b / 64) / 2 ^ (b % 64)) (some : 0 < rest) where
    abbrev kept : ℕ
    kept = rest * 2 ^ (b % 64)

    kept_some : 0 < kept
    kept_some = mul-pos some (pow_pos (b % 64))

    kept_walks : Walking s g (map_walk s g b kept (b / 64))
    kept_walks = map_starts kept (ap (λ (x : ℕ). x * 2 ^ (b % 64)) e)

    -- its page is as far behind b as what is left from b on has zeros
    page_from : 64 * (b / 64) + count_trailing_zeros 64 kept ≡ b + count_trailing_zeros 64 rest
    page_from =
        let x : ℕ = run_word s g.upper (b / 64) in
        let z : count_trailing_zeros 64 kept ≡ b % 64 + count_trailing_zeros 64 rest =
        rw e (tz_from x (b % 64) (t.run.word_lt (b / 64)) (omega arith) (rw (← e) some)) in
        omega (arith, z)

    pub here_small : b + count_trailing_zeros 64 rest < 2 ^ 27
    here_small = rw (← page_from) (page_small kept (b / 64) kept_walks kept_some)

    pub lands_here : (r : Landing) → r.mark ≡ b + count_trailing_zeros 64 rest + 1 → r.bit ≡ b + count_trailing_zeros 64 rest
        → Landed bitmap s b r × (landing_word bitmap s b ≡ b / 64)
    lands_here r m p =
        map_lands kept (b / 64) kept_walks kept_some r (m ∙ ap (λ (x : ℕ). x + 1) (sym page_from)) (p ∙ sym page_from)

    -- b itself is the page
    pub lands_on_bound : rest % 2 ≡ 1 → (r : Landing) → r.mark ≡ b + 1 → r.bit ≡ b
        → Landed bitmap s b r × (landing_word bitmap s b ≡ b / 64)
    lands_on_bound o r m p =
        let z = tz_odd 63 rest o in
        lands_here r (omega (arith, z)) (omega (arith, z))
