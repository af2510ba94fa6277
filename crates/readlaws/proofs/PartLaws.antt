-- Laws of the run of an open block: of its ones from a place on, and of it as a list of its own.
use mathlib.Core.Path.{◌≡◌, sym, ap, ◌∙◌}
use mathlib.Core.List.{List}
use Prim.Native.Nat.{ℕ, ◌+◌, ◌-◌, ◌*◌, ◌/◌, ◌^◌, ◌≤◌, ◌<◌}
use native.Mathlib.Omega.{arith}
use lib.ListN.{length, take, drop, length-take, length-drop}
use Rattle.rules.specs.Runs.{run_word, run_bit, words_for}
use Rattle.rules.specs.Counts.{ones_below}
use Rattle.fields.specs.Words.{next_one}
use Rattle.fields.proofs.WordLaws.{next_le}
use Rattle.laws.proofs.CountLaws.{ones_part}
use Rattle.laws.proofs.RunLaws.{run_part, words_hold}
use Rattle.shape.specs.declared.Shape.{Shape}
use Rattle.readlaws.specs.Open.{Open, RunOf, OneAt, OneAhead, ones_in}
use Rattle.readlaws.proofs.OneLaws.{count_lt, next_counts, next_set}
use Rattle.readlaws.proofs.ReadLaws.{Reading, open_reads}

-- bit `bit` of word k is a one or the word's end, and no one lies between it and place `start`
pub record Reached (s : List ℕ) (g : Shape) (start k bit : ℕ) : Type 0 where
  pub inside : k < words_for g.bits
  pub short : bit ≤ 64
  pub flat : ones_below s g.upper (64 * k + bit) ≡ ones_below s g.upper start
  pub set : bit < 64 → run_bit s g.upper (64 * k + bit) ≡ 1

module _ (s : List ℕ) (g : Shape) (o : Open s g) (start : ℕ) (some : ones_below s g.upper start < g.n) where
  read : Reading s g
  read = open_reads s g o

  -- a place with no more ones below it than the start lies in a word of the run
  pub flat_inside : (p : ℕ) → ones_below s g.upper p ≡ ones_below s g.upper start → p / 64 < words_for g.bits
  flat_inside p e =
      omega (arith, words_hold g.bits, count_lt s g.upper p g.bits (omega (arith, read.counted)))

  -- such a word lies in the block
  pub word_inside : (k : ℕ) → k < words_for g.bits → (g.upper + 8 * k + 8 ≤ length s) × (k < 2 ^ 32)
  unfolding words_for
  word_inside k h = (omega (arith, read.full), omega (arith, read.below, read.within, read.many))

  pub reach_word : (k from x bit : ℕ) → k < words_for g.bits → from ≤ 64 → ones_below s g.upper (64 * k + from)
      ≡ ones_below s g.upper start
      → x ≡ run_word s g.upper k → bit ≡ next_one 64 x from → Reached s g start k bit
  reach_word k from x bit h l f e b = rw b (record {
    inside = h;
    short = next_le 64 x from l;
    flat = next_counts s g.upper k x from e l ∙ f;
    set = next_set s g.upper k x from e;
  })

  module _ (k : ℕ) (r : Reached s g start k 64) where
    -- the word after one without
    pub reach_past : (k + 1 < words_for g.bits)
        × (ones_below s g.upper (64 * (k + 1) + 0) ≡ ones_below s g.upper start)
    reach_past =
        let e : 64 * k + 64 ≡ 64 * (k + 1) + 0 = omega arith in
        let f = rw e at r.flat in
        let i = flat_inside (64 * (k + 1) + 0) f in
        (omega (arith, i), f)

-- ---- the run as a list of its own

module _ (s : List ℕ) (at n : ℕ) (o : RunOf s at n) (run : List ℕ) (part : run ≡ take (length s - at) (drop at s)) where
  abbrev bytes : ℕ
  bytes = length s - at

  run_length : length run ≡ length s - at
  run_length = ap length part ∙ simp (length-take, length-drop) (omega (arith, o.inside))

  run_words : length run / 8 ≡ (length s - at) / 8
  run_words = ap (λ (k : ℕ). k / 8) run_length

  run_counts : (p : ℕ) → p ≤ 64 * (length run / 8) → ones_below run 0 p ≡ ones_below s at p
  run_counts p h = rw part (ones_part s bytes at (bytes / 8) (omega arith) p (omega (arith, run_words)))

  -- all ones lie in its words
  pub run_total : ones_in run ≡ n
  run_total =
      run_counts (64 * (length run / 8)) (omega arith) ∙ ap (λ (k : ℕ). ones_below s at (64 * k)) run_words ∙ o.total

  pub run_short : length run < 2 ^ 32
  run_short = omega (arith, run_length, o.short)

  -- from a place on
  pub run_ahead : (start before rank : ℕ) → ones_below s at start ≡ before → before ≤ rank → rank < n
      → OneAhead run start before rank
  run_ahead start before rank counted least lt =
      let l = count_lt s at start (64 * (length run / 8))
      (omega (arith, run_counts (64 * (length run / 8)) (omega arith), run_total)) in
      record {
        passed = sym counted ∙ sym (run_counts start (omega arith));
        ahead = least;
        some = rw run_total lt;
        short = run_short;
      }

  -- a one of it is one of the block's run
  pub run_one : (rank p : ℕ) → OneAt run 0 rank p → p < 64 * (length run / 8) → OneAt s at rank p
  run_one rank p one l = record {
    set = sym (rw part (run_part s bytes at p (omega (arith, run_words)))) ∙ one.set;
    below = sym (run_counts p (omega arith)) ∙ one.below;
  }
