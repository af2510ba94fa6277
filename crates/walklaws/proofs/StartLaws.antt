-- Where a seek starts, and the walk that it has from there, on two runs; and its start on a bitmap.
use mathlib.Core.Path.{◌≡◌, refl, sym, ◌∙◌}
use mathlib.Core.Logic.{inl, inr}
use mathlib.Core.List.{List}
use Prim.Native.Nat.{ℕ, zero, suc, ◌+◌, ◌-◌, ◌*◌, ◌/◌, ◌%◌, ◌^◌, ◌≤◌, ◌<◌, max}
use native.Mathlib.Nat.{zero-div, add-zero}
use native.Mathlib.Numerals.{add-one}
use native.Mathlib.Decide.{dec_lt, ℕ_discrete}
use native.Mathlib.Omega.{arith}
use lib.ListN.{get_or}
use Rattle.rules.specs.Bytes.{be_at}
use Rattle.rules.specs.Runs.{run_word, run_bit, words_for}
use Rattle.rules.specs.Counts.{ones_below}
use Rattle.rules.specs.List.{two_runs, bitmap}
use Rattle.rules.specs.ReadList.{list_u, decode}
use Rattle.rules.specs.Seek.{Cursor as Placing, fresh, on, spent, place_of, cursor_bit, start_of}
use Rattle.laws.proofs.CountLaws.{below_none, below_suc, run_steps}
use Rattle.laws.proofs.RunLaws.{run_cases}
use Rattle.shape.specs.declared.Shape.{Shape}
use Rattle.listlaws.proofs.AfterLaws.{after_lt, after_le}
use Rattle.readlaws.specs.Open.{Open, pointers_in, pointer_of, PointerAt}
use Rattle.readlaws.proofs.ReadLaws.{open_reads, pointer_reads}
use Rattle.seeklaws.specs.Cursors.{floor, Placed}
use Rattle.seeklaws.proofs.JumpLaws.{start_ahead, cursor_lt}
use Rattle.walklaws.specs.declared.Cursor.{Cursor}
use Rattle.walklaws.specs.declared.StartPlace.{StartPlace}
use Rattle.walklaws.specs.declared.Ones.{Ones}
use Rattle.walklaws.specs.Cursors.{mark_of, start_in, Moving}
use Rattle.walklaws.specs.Walks.{Before, Started, Skipping, Skipped, Passed}
use Rattle.walklaws.proofs.OpenLaws.{Stored, Ruled, before_place, open_U, open_within, open_n, open_some}
use Rattle.walklaws.proofs.OpenLaws.{open_length, open_rising, open_run, open_ruled, open_stored, before_zeros}
use Rattle.walklaws.proofs.WalkLaws.{walking_from}
use Rattle.walklaws.proofs.CursorLaws.{held_rule, held_floor}

-- a place with an element is within the run
pub own_inside : (s : List ℕ) (g : Shape) → Open s g → (b : ℕ) (p : StartPlace) → Started s g b p → (p.own ≡ 0 → ⊥)
    → p.bit < g.bits
own_inside s g o b p t h =
    elim (dec_lt p.bit g.bits) [
      | yes l ↦ l
      | no l ↦ absurd (h (omega (arith, t.own_set, (open_reads s g o).spare p.bit (omega arith))))
    ]

module _ (s : List ℕ) (g : Shape) (o : Open s g) (b : ℕ) (p : StartPlace) (t : Started s g b p)
    (inside : p.bit < g.bits) where
  abbrev k : ℕ
  k = p.bit / 64

  abbrev f : ℕ
  f = p.bit % 64

  behind_start : 64 * k + (f + p.own) ≡ p.bit + p.own
  behind_start = omega arith

  pub start_word : p.bit / 64 < words_for g.bits
  unfolding words_for
  start_word = omega arith

  bit_le : run_bit s g.upper p.bit ≤ 1
  bit_le = elim (run_cases s g.upper p.bit) [ inl e ↦ omega arith | inr e ↦ omega arith ]

  pub own_le : p.own ≤ 1
  own_le = omega (arith, t.own_set, bit_le)

  -- the cursor's own element is one of the ones before the place behind it
  own_counted : ones_below s g.upper (p.bit + p.own) ≡ ones_below s g.upper p.bit + p.own
  own_counted =
      elim (ℕ_discrete p.own 0) [
        | yes e ↦ rw (e, add-zero, add-zero)
        | no e ↦
            let one : p.own ≡ 1 = omega (arith, own_le) in
            rw (one, add-one) (omega (arith, below_suc s g.upper p.bit, t.own_set, bit_le))
      ]

  -- the ones before the walk from the start on, or from behind the cursor's own element
  start_rank : (r : Ones) → r.rank ≡ p.bit - p.zeros + p.own
      → r.rank ≡ ones_below s g.upper p.bit + p.own
  start_rank r n = omega (arith, t.counted)

  module _ (r : Ones) (left_is : r.left
      ≡ run_word s g.upper (p.bit / 64) / 2 ^ (p.bit % 64 + p.own) * 2 ^ (p.bit % 64 + p.own))
      (k-is : r.k ≡ p.bit / 64) (rank_is : r.rank ≡ p.bit - p.zeros + p.own) where
    pub passed_start : Passed s g b r
    passed_start = record {
      at =
          walking_from s g (open_run s g o) (f + p.own) r (omega (arith, own_le)) (rw k-is start_word)
          (rw k-is left_is) (rw (k-is, behind_start, own_counted) (start_rank r rank_is));
      passed = rw (start_rank r rank_is) t.passed;
    }

    pub skipping_start : (h : ℕ) → p.zeros < h → Skipping s g h r
    skipping_start h l = record {
      within = rw k-is start_word;
      place = f + p.own;
      place_le = omega (arith, own_le);
      left_is = rw k-is left_is;
      counted = rw (k-is, behind_start, own_counted) (start_rank r rank_is);
      short = rw (k-is, behind_start) (omega (arith, start_rank r rank_is, t.counted));
    }

  -- the walk from the zeros of b's high part on
  pub passed_skip : (r : Ones) → Skipped s g (b / 2 ^ g.w) r → Passed s g b r
  passed_skip r z =
      let h : ℕ = b / 2 ^ g.w in
      let below : ones_below s g.upper (r.rank + h) ≡ r.rank = omega (arith, z.passed.counted) in
      record {
        at = z.at;
        passed = rw below at (before_zeros s g o (open_some s g o (omega arith)) b (r.rank + h) z.passed);
      }

-- ---- the start

module _ (s : List ℕ) (g : Shape) (o : Open s g) where
  read_pointer : (i : ℕ) → i ≤ pointers_in g → (r : ℕ) × PointerAt s g i r
  read_pointer zero l = (0, pointer_reads s g o 0 0 l (λ e. refl) (λ h. absurd (omega arith)))
  read_pointer (suc i) l = (
    be_at 4 s (9 + 4 * suc i),
    pointer_reads s g o (suc i) _ l (λ e. absurd (omega arith)) (λ h. refl),
  )

  module _ (c : Cursor) (b : ℕ) (m : Moving two_runs s c b) where
    abbrev U : ℕ
    U = list_u s

    abbrev xs : List ℕ
    xs = decode s

    abbrev high : ℕ
    high = (c.mark - 1) / 2 ^ g.w

    abbrev number : ℕ
    number = b / 2 ^ g.w / 256

    some : 0 < g.n
    some = omega (arith, m.some, open_n s g o)

    ruled : Ruled s g
    ruled = open_ruled s g o some

    stored : Stored two_runs s g
    stored = open_stored s g o

    pub pointer_inside : b / 2 ^ g.w / 256 ≤ pointers_in g
    pointer_inside = omega (
      arith,
      (open_reads s g o).low,
      (open_reads s g o).few,
      ruled.zeros_is b (omega (arith, m.below, open_U s g o)),
    )

    -- the zeros before the cursor's bit are its high part
    placing_counted : (a : Placing) → Placed xs a → mark_of xs a ≤ b
        → ones_below s g.upper (cursor_bit two_runs U xs a) + (mark_of xs a - 1) / 2 ^ g.w ≡ cursor_bit two_runs U xs a
    unfolding mark_of cursor_bit
    placing_counted fresh p l = omega (arith, below_none s g.upper, zero-div (2 ^ g.w))
    placing_counted spent p l = absurd (omega (arith, m.below, open_within s g o))
    placing_counted (on i) p l =
        let h : i < g.n = omega (arith, open_length s g o) in
        let e : get_or xs i 0 + 1 - 1 ≡ get_or xs i 0 = omega arith in
        rw e (omega (arith, ruled.place_is i, (stored.ranked i h).below))

    cursor_counted : ones_below s g.upper c.bit + (c.mark - 1) / 2 ^ g.w ≡ c.bit
    cursor_counted =
        let h = m.cursor in
        rw (h.mark_is, h.bit_is) (placing_counted h.place h.placed (rw h.mark_is at m.ahead))

    start_is : start_in two_runs s c b ≡ max c.bit (pointer_of s g number)
    unfolding start_of
    start_is = rw (
      held_rule two_runs U xs (open_rising s g o) (open_within s g o) c m.cursor,
      ← m.cursor.bit_is,
      ruled.wide,
      stored.bits_is some,
    )

    -- what is before the start is below b
    start_before : (p : ℕ) → p ≡ start_in two_runs s c b → Before s b (ones_below s g.upper p)
    start_before p d =
        let k = held_rule two_runs U xs (open_rising s g o) (open_within s g o) c m.cursor in
        let f = held_floor two_runs U xs (open_rising s g o) (open_within s g o) c m.cursor b m.ahead m.below in
        before_place two_runs s g stored b p
        (rw (d, k) (start_ahead two_runs U xs (open_rising s g o) m.cursor.place b m.cursor.placed f))

    -- and so is the cursor's own element, whose one is at the cursor's bit
    placing_own : (a : Placing) → Placed xs a → mark_of xs a ≤ b → (own : ℕ) → own ≤ 1 → own ≤ mark_of xs a
        → Before s b (ones_below s g.upper (cursor_bit two_runs U xs a))
        → (own ≤ run_bit s g.upper (cursor_bit two_runs U xs a))
        × Before s b (ones_below s g.upper (cursor_bit two_runs U xs a) + own)
    unfolding mark_of cursor_bit
    placing_own fresh p l own h q before = (omega arith, λ j less. before j (omega arith))
    placing_own spent p l own h q before = absurd (omega (arith, m.below, open_within s g o))
    placing_own (on i) p l own h q before =
        let n : i < g.n = omega (arith, open_length s g o) in
        let one = stored.ranked i n in (
          omega (arith, one.set),
          λ j less.
              elim (dec_lt j i) [
                | yes k ↦ before j (omega (arith, one.below))
                | no k ↦
                    let e : i ≡ j = omega (arith, one.below) in
                    rw (← e) (omega arith)
              ],
        )

    cursor_own : (own : ℕ) → own ≤ 1 → own ≤ c.mark → Before s b (ones_below s g.upper c.bit)
        → (own ≤ run_bit s g.upper c.bit) × Before s b (ones_below s g.upper c.bit + own)
    cursor_own own h q =
        let a = m.cursor in
        rw a.bit_is (placing_own a.place a.placed (rw a.mark_is at m.ahead) own h (rw a.mark_is at q))

    -- the start is the larger of the cursor's bit and the pointer
    pub started_jump : (r : StartPlace) → PointerAt s g number r.bit → r.zeros ≡ 256 * number → r.own ≡ 0
        → high / 256 < number
        → Started s g b r × (r.bit ≡ start_in two_runs s c b)
    started_jump r p z n l =
        let q =
        after_lt (ones_below s g.upper) (run_steps s g.upper) (256 * number) r.bit p.after c.bit
        (omega (arith, cursor_counted)) in
        let e : r.bit ≡ max c.bit (pointer_of s g number) = omega (arith, p.defined) in
        let d : r.bit ≡ start_in two_runs s c b = e ∙ sym start_is in (
          record {
            within = p.inside;
            counted = omega (arith, p.after.counted);
            own_set = omega arith;
            passed = λ j less. start_before r.bit d j (omega arith);
          },
          d,
        )

    pub started_here : (r : StartPlace) → r.bit ≡ c.bit → r.zeros ≡ high → r.own ≤ 1 → r.own ≤ c.mark
        → number ≤ high / 256
        → Started s g b r × (r.bit ≡ start_in two_runs s c b)
    started_here r e z h w l =
        let p = read_pointer number pointer_inside in
        let q =
        after_le (ones_below s g.upper) (run_steps s g.upper) (256 * number) p.0 p.1.after c.bit
        (omega (arith, cursor_counted)) in
        let k =
        cursor_lt two_runs U xs (open_rising s g o) m.cursor.place m.cursor.placed
        (rw (open_length s g o) some) in
        let f : r.bit ≡ max c.bit (pointer_of s g number) = omega (arith, p.1.defined) in
        let d : r.bit ≡ start_in two_runs s c b = f ∙ sym start_is in
        let own = cursor_own r.own h w (rw e at (start_before r.bit d)) in (
          record {
            within = omega (arith, k, m.cursor.bit_is, stored.bits_is some);
            counted = rw e (omega (arith, cursor_counted));
            own_set = rw e own.0;
            passed = rw e own.1;
          },
          d,
        )

-- ---- the start on a bitmap

map_bit : (U : ℕ) (xs : List ℕ) (a : Placing) → cursor_bit bitmap U xs a ≤ floor U xs a
unfolding cursor_bit place_of floor
map_bit U xs fresh = omega arith
map_bit U xs (on i) = omega arith
map_bit U xs spent = omega arith

module _ (s : List ℕ) (g : Shape) (t : Stored bitmap s g) (c : Cursor) (b : ℕ) (m : Moving bitmap s c b) where
  -- a cursor that a seek moves is not ahead of the bound
  pub map_behind : c.bit ≤ b
  map_behind = omega (
    arith,
    m.cursor.bit_is,
    map_bit (list_u s) (decode s) m.cursor.place,
    held_floor bitmap (list_u s) (decode s) t.rises t.within c m.cursor b m.ahead m.below,
  )

  -- so the start is the bound's own bit
  pub start_map : start_in bitmap s c b ≡ b
  unfolding start_of
  start_map = rw (
    held_rule bitmap (list_u s) (decode s) t.rises t.within c m.cursor,
    ← m.cursor.bit_is,
  ) (omega (arith, map_behind))
