-- Laws of a block of which some elements are laid:
-- that each write lies within its part, and what one element more leaves.
use mathlib.Core.Path.{◌≡◌, refl, ap, ◌∙◌}
use mathlib.Core.Logic.{◌⊎◌, inl, inr}
use mathlib.Core.List.{List, [], ◌∷◌, ◌++◌}
use Prim.Native.Nat.{ℕ, ◌+◌, ◌-◌, ◌*◌, ◌/◌, ◌%◌, ◌^◌, ◌≤◌, ◌<◌}
use native.Mathlib.Nat.{zero-add, zero-div, mod-eq_of_lt}
use native.Mathlib.Omega.{arith}
use lib.Bits.{bit_or}
use lib.ListN.{length, get_or, length-append}
use lib.Pow.{shr_mono}
use lib.Seq.{sets, length-sets, get_or-set_same}
use Rattle.rules.specs.Bytes.{be, be_at}
use Rattle.rules.specs.Runs.{words_for}
use Rattle.rules.specs.List.{zeros, lower, upper, Form, form_version}
use Rattle.laws.proofs.BitLaws.{placed_one}
use Rattle.laws.proofs.ByteLaws.{length_be, sets_other, be_at_sets, read_sets}
use Rattle.shape.specs.declared.Shape.{Shape}
use Rattle.listlaws.specs.Sound.{least}
use Rattle.listlaws.proofs.ValidLaws.{field_in}
use Rattle.filllaws.specs.declared.Lows.{Lows}
use Rattle.filllaws.specs.declared.Filling.{Filling}
use Rattle.filllaws.specs.Filling.{Stored, Flushed, Lower, Lowered, Raised}
use Rattle.filllaws.specs.Filling.{FittingAs, FramedAs, Framed, high, Partly}
use Rattle.filllaws.specs.Filling.{Next, Ready, OneMore}
use Rattle.filllaws.proofs.FillLaws.{lowered_none, lowered_alike, lowered_lt}
use Rattle.filllaws.proofs.FillLaws.{lowered_more, raised_none, raised_below, raised_more}
use Rattle.filllaws.proofs.StoreLaws.{stored_none, flushed_none}
use Rattle.filllaws.proofs.PassLaws.{Passed, passed}
use Rattle.filllaws.proofs.SideLaws.{sides, header_fits, end_small, zeros_of, least_snoc}
use Rattle.filllaws.proofs.SideLaws.{high_snoc, length_snoc, lower_snoc, upper_snoc}

-- ---- no element

-- what a store leaves as it was, a number and a byte
module _ (l d e : List ℕ) (at : ℕ) (q : e ≡ sets d at l) where
  number_kept : (m p : ℕ) → (p + m ≤ at) ⊎ (at + length l ≤ p) → be_at m e p ≡ be_at m d p
  number_kept m p h = rw q (be_at_sets m l d at p h)

  byte_kept : (i : ℕ) → (i < at) ⊎ (at + length l ≤ i) → get_or e i 0 ≡ get_or d i 0
  byte_kept i h = rw q (sets_other l d at i h)

number_is : (k v : ℕ) (d e : List ℕ) (at : ℕ) → e ≡ sets d at (be k v) → at + k ≤ length d → v < 256 ^ k
    → be_at k e at ≡ v
number_is k v d e at q h l = rw q (read_sets k v d at h ∙ mod-eq_of_lt l)

module _ {o : Form} (g : Shape) (s : List ℕ) (f : FittingAs o g s) where
  pub framed_none : (s1 s2 s3 s4 : List ℕ) → s1 ≡ sets s 0 (be 4 g.end) → s2 ≡ sets s1 4 (form_version o ∷ [])
      → s3 ≡ sets s2 5 (be 4 g.u) → s4 ≡ sets s3 9 (be 4 g.n) → FramedAs o g s s4
  framed_none s1 s2 s3 s4 e1 e2 e3 e4 =
      let h = header_fits g s f in
      let small = end_small g s f in
      let l1 : length s1 ≡ length s = rw e1 (length-sets s 0 (be 4 g.end)) in
      let l2 : length s2 ≡ length s1 = rw e2 (length-sets s1 4 (form_version o ∷ [])) in
      let l3 : length s3 ≡ length s2 = rw e3 (length-sets s2 5 (be 4 g.u)) in
      let l4 : length s4 ≡ length s3 = rw e4 (length-sets s3 9 (be 4 g.n)) in
      let b1 = length_be 4 g.end in
      let b3 = length_be 4 g.u in
      let b4 = length_be 4 g.n in
      record {
        fitting = f;
        long = l4 ∙ l3 ∙ l2 ∙ l1;
        size_is =
            number_kept (be 4 g.n) s3 s4 9 e4 4 0 (inl (omega arith))
            ∙ number_kept (be 4 g.u) s2 s3 5 e3 4 0 (inl (omega arith))
            ∙ number_kept (form_version o ∷ []) s1 s2 4 e2 4 0 (inl (omega arith))
            ∙ number_is 4 g.end s s1 0 e1 (omega (arith, f.room)) small;
        version_is =
            byte_kept (be 4 g.n) s3 s4 9 e4 4 (inl (omega arith))
            ∙ byte_kept (be 4 g.u) s2 s3 5 e3 4 (inl (omega arith))
            ∙ ap (λ l. get_or l 4 0) e2
            ∙ get_or-set_same s1 4 (form_version o) 0 (omega (arith, f.room));
        u_is =
            number_kept (be 4 g.n) s3 s4 9 e4 4 5 (inl (omega arith))
            ∙ number_is 4 g.u s2 s3 5 e3 (omega (arith, f.room)) (omega (arith, f.within));
        n_is = number_is 4 g.n s3 s4 9 e4 (omega (arith, f.room)) (omega (arith, f.within, f.below));
        behind = λ i l.
            byte_kept (be 4 g.n) s3 s4 9 e4 i (inr (omega arith))
            ∙ byte_kept (be 4 g.u) s2 s3 5 e3 i (inr (omega arith))
            ∙ byte_kept (form_version o ∷ []) s1 s2 4 e2 i (inr (omega arith))
            ∙ byte_kept (be 4 g.end) s s1 0 e1 i (inr (omega arith));
      }

pub partly_none : (g : Shape) (before s : List ℕ) → Framed g before s → Partly g [] (record {
  count = 0;
  lows = record { acc = 0; have = 0; words = 0 };
  ups = record { acc = 0; words = 0; next = 1; stop = 64 };
}) before s
unfolding least lower upper high
partly_none g before s f =
    let z : 0 / 2 ^ g.w ≡ 0 = zero-div (2 ^ g.w) in
    record {
      framed = f;
      count = refl;
      few = omega arith;
      below = omega arith;
      lows = lowered_none s g.lower g.w;
      ups = rw z (raised_none s g.upper);
    }

-- ---- one element more

-- what the steps of `put` ask
pub record Step (g : Shape) (f : Filling) (x room : ℕ) : Type 0 where
  pub narrow : g.w ≤ 24
  pub short : f.lows.have < 64
  pub in_hand : f.lows.acc < 2 ^ f.lows.have
  pub low_end : g.lower + 8 * (f.lows.words + (f.lows.have + g.w) / 64) ≤ g.upper
  pub next_some : 0 < f.ups.next
  pub next_le : f.ups.next ≤ x / 2 ^ g.w / 256 + 1
  pub pointer_end : 13 + 4 * (x / 2 ^ g.w / 256) ≤ g.lower
  pub small : x / 2 ^ g.w + f.count ≤ 2 ^ 26
  pub words_le : f.ups.words ≤ (x / 2 ^ g.w + f.count) / 64
  pub up_end : g.upper + 8 * ((x / 2 ^ g.w + f.count) / 64) ≤ g.end
  pub end : g.end ≤ room
  pub order : g.lower ≤ g.upper

module _ (g : Shape) (xs : List ℕ) (f : Filling) (before s : List ℕ)
    (p : Partly g xs f before s) (x : ℕ) (m : Next g xs x) where
  abbrev z : ℕ
  z = x / 2 ^ g.w

  high_le : high g.w xs ≤ z
  unfolding high
  high_le = shr_mono g.w (omega (arith, m.climbs))

  pub step : Step g f x (length s)
  unfolding words_for zeros
  step =
      let t = sides g before p.framed.fitting in
      let e = zeros_of g before p.framed.fitting (omega (arith, m.few)) in
      let h : z ≤ g.u / 2 ^ g.w = shr_mono g.w (omega (arith, m.below)) in
      let i = field_in g.n g.w (length xs) m.few in
      record {
        narrow = t.narrow;
        short = p.lows.short;
        in_hand = lowered_lt s g.lower g.w (length xs) (lower g.w 0 xs) f.lows p.lows;
        low_end = omega (arith, t.upper, p.lows.place, i);
        next_some = omega (arith, p.ups.next);
        next_le = omega (arith, p.ups.next, high_le);
        pointer_end = omega (arith, t.lower, e, h);
        small = omega (arith, t.few, t.many, e, h, p.count, m.few);
        words_le = omega (arith, p.ups.place, high_le, p.count);
        up_end = omega (arith, t.end, e, h, p.count, m.few);
        end = omega (arith, p.framed.fitting.room, p.framed.long);
        order = omega (arith, t.upper);
      }

  -- what the steps leave
  module _ (r : Lows) (s1 s2 s3 : List ℕ) (word stop : ℕ)
      (in-word : stop ≤ 64 * ((z + f.count) / 64 + 1)) (undue : stop ≤ 256 * (z / 256 + 1) + (f.count + 1))
      (low : Lower g.w g.lower f.lows x r s s1)
      (mid : Stored 4 9 (λ q. 256 * q + f.count) f.ups.next (z / 256 + 1) s1 s2)
      (up : Flushed g.upper f.ups.words ((z + f.count) / 64 - f.ups.words) f.ups.acc word s2 s3) where
    abbrev lv : ℕ
    lv = lower g.w 0 xs + x % 2 ^ g.w * 2 ^ (length xs * g.w)

    laid_on : Passed g xs f before s1 s3 z (f.lows.words + (f.lows.have + g.w) / 64) ((z + f.count) / 64) word
    laid_on =
        let t = step in
        let n : f.ups.words + ((z + f.count) / 64 - f.ups.words) ≡ (z + f.count) / 64 =
        omega (arith, t.words_le) in
        rw n at (passed g xs f before s p z high_le ((f.lows.have + g.w) / 64) ((z + f.count) / 64 - f.ups.words)
        (f.lows.acc + x % 2 ^ g.w * 2 ^ f.lows.have) r.acc word s1 s2 s3
        low.flushed mid up t.low_end t.pointer_end (rw n t.up_end))

    lowered_put : Lowered s3 g.lower g.w (length xs + 1) lv r
    lowered_put =
        lowered_alike s1 g.lower g.w (length xs + 1) lv r
        (lowered_more s g.lower g.w (length xs) (lower g.w 0 xs) f.lows p.lows x r s1 low) s3
        (rw low.words laid_on.lower_kept)

    raised_put : Raised s3 g.upper z (length xs + 1) (upper g.w 0 xs + 2 ^ (z + length xs))
        (record {
          acc = word + 2 ^ ((z + f.count) % 64);
          words = (z + f.count) / 64;
          next = z / 256 + 1;
          stop = stop;
        })
    raised_put =
        rw p.count
        (raised_more s g.upper (high g.w xs) (length xs) (upper g.w 0 xs) f.ups p.ups z word stop s3
        (rw p.count at in-word) (rw p.count at undue) high_le
        (rw p.count at laid_on.words) laid_on.pointers)

    pub partly_more : Partly g (xs ++ (x ∷ [])) (record {
      count = f.count + 1;
      lows = r;
      ups = record {
        acc = word + 2 ^ ((z + f.count) % 64);
        words = (z + f.count) / 64;
        next = z / 256 + 1;
        stop = stop;
      };
    })
        before s3
    partly_more = record {
      framed = laid_on.framed;
      count = omega (arith, p.count, length_snoc g.w xs x);
      few = omega (arith, m.few, length_snoc g.w xs x);
      below = omega (arith, m.below, least_snoc g.w xs x);
      lows = rw (length_snoc g.w xs x, lower_snoc g.w 0 xs x, zero-add (length xs)) lowered_put;
      ups = rw (length_snoc g.w xs x, upper_snoc g.w 0 xs x, high_snoc g.w xs x, zero-add (length xs))
          raised_put;
    }

  -- an element whose one lies below the stop: nothing but its low part may be written
  module _ (near : z + f.count < f.ups.stop) where
    near_word : (z + f.count) / 64 ≡ f.ups.words
    near_word = let t = step in omega (arith, t.words_le, p.ups.stop)

    near_next : z / 256 + 1 ≡ f.ups.next
    near_next = let t = step in omega (arith, t.next_le, p.ups.stop, p.count)

    pub near_acc : bit_or f.ups.acc ((1 * 2 ^ ((z + f.count) % 64)) % 2 ^ 64)
        ≡ f.ups.acc + 2 ^ ((z + f.count) % 64)
    near_acc =
        let k : ℕ = (z + f.count) % 64 in
        let a = raised_below s g.upper (high g.w xs) (length xs) (upper g.w 0 xs) f.ups p.ups
        (z + f.count) (omega (arith, high_le, p.count)) near_word in
        placed_one f.ups.acc 1 k 1 (omega arith) a (omega arith) (omega arith) ∙ omega arith

    pub partly_near : (r : Lows) (t : List ℕ) → Lower g.w g.lower f.lows x r s t
        → Partly g (xs ++ (x ∷ [])) (record {
          count = f.count + 1;
          lows = r;
          ups = record {
            acc = f.ups.acc + 2 ^ ((z + f.count) % 64);
            words = f.ups.words;
            next = f.ups.next;
            stop = f.ups.stop;
          };
        }) before t
    partly_near r t low =
        rw (near_word, near_next) at
        (partly_more r t t t f.ups.acc f.ups.stop (omega (arith, near_word, p.ups.stop))
        (omega (arith, near_next, p.ups.stop, p.count)) low
        (rw near_next (stored_none 4 9 (λ q. 256 * q + f.count) f.ups.next t))
        (flushed_none g.upper f.ups.words f.ups.acc t ((z + f.count) / 64 - f.ups.words) f.ups.acc
        (omega (arith, near_word)) refl))

pub ready_step : {g : Shape} {f : Filling} {x : ℕ} {room : List ℕ} → Ready g f x room → Step g f x (length room)
ready_step {g} {f} {x} {room} r = step g r.xs f r.before room r.partly x r.next

pub count_more : {g : Shape} {f r : Filling} {x : ℕ} {d e : List ℕ} → Ready g f x d → OneMore g f x r d e
    → r.count ≡ f.count + 1
count_more {x = x} q m =
    omega (arith, (m q.xs q.before q.partly q.next).count, q.partly.count, length-append q.xs (x ∷ []))
