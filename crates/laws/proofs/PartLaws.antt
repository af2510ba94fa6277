-- Laws of bytes behind their own length, and of blocks one after the other.
use mathlib.Core.Bool.{Bool, true, false, cond, ◌||◌}
use mathlib.Core.Path.{◌≡◌, refl, sym, ap, ◌∙◌}
use mathlib.Core.List.{List, [], ◌++◌, append-nil}
use Prim.Native.Nat.{ℕ, zero, suc, ◌+◌, ◌-◌, ◌^◌, ◌≤◌, ◌<◌}
use native.Mathlib.Nat.{mod-eq_of_lt, add-zero}
use native.Mathlib.Numerals.{add-one}
use native.Mathlib.Omega.{arith}
use borrow.Author.Tests.{le-ltb, lt-ltb, ltb-false}
use lib.Dec.{ltb, lit<}
use lib.ListN.{length, get_or, take, drop, length-append, length-drop, take-append-drop}
use lib.Seq.{take_at, drop_at, get_or-append-add, drop-drop}
use Rattle.rules.specs.Verdict.{Verdict}
use Rattle.rules.specs.Verdict.{Accepted, Short, Length}
use Rattle.rules.specs.Refusal.{accepted, and_then}
use Rattle.rules.specs.Bytes.{Bytes, be, be_at, sized}
use Rattle.rules.specs.ReadList.{stated}
use Rattle.rules.specs.Parts.{after, part, inside}
use Rattle.laws.specs.Blocks.{Whole, block_at, Inside, Lies}
use Rattle.laws.proofs.ByteLaws.{be_at_drop, bytes_take, bytes_drop}
use Rattle.laws.proofs.ByteLaws.{length_be, read_be, be_at_front, be_read, be_at_lt}
use Rattle.laws.proofs.RefusalLaws.{test_passed, or_parts}

-- ---- the stated length

pub stated_front : (b t : List ℕ) → 4 ≤ length b → stated (b ++ t) ≡ stated b
unfolding stated
stated_front b t h = be_at_front 4 b t 0 h

pub stated_lt : (s : List ℕ) → Bytes s → stated s < 2 ^ 32
unfolding stated
stated_lt s b = be_at_lt 4 s 0 b

-- ---- bytes behind their own length

pub length_sized : (b : List ℕ) → length (sized b) ≡ 4 + length b
unfolding sized
length_sized b = rw (length-append, length_be)

pub sized_whole : (b : List ℕ) → 4 + length b < 2 ^ 32 → Whole (sized b)
unfolding sized stated
sized_whole b h = record {
  header = omega (arith, length_sized b);
  states = read_be 4 (4 + length b) b ∙ mod-eq_of_lt h ∙ sym (length_sized b);
}

pub drop_sized : (b : List ℕ) → drop 4 (sized b) ≡ b
unfolding sized
drop_sized b = drop_at (be 4 (4 + length b)) b 4 (length_be 4 (4 + length b))

pub get_d_sized : (b : List ℕ) (i : ℕ) → get_or (sized b) (4 + i) 0 ≡ get_or b i 0
unfolding sized
get_d_sized b i = rw (length_be) at (get_or-append-add (be 4 (4 + length b)) b i 0)

-- bytes that state their own length are what is behind it, sized
pub whole_sized : (s : List ℕ) → Bytes s → Whole s → s ≡ sized (drop 4 s)
unfolding sized stated
whole_sized s b w =
    let l : 4 + length (drop 4 s) ≡ be_at 4 s 0 = rw length-drop (omega (arith, w.header, w.states)) in
    rw (l, be_read 4 s b w.header) (sym (take-append-drop 4 s))

-- ---- blocks one after the other

module _ (b t : List ℕ) (w : Whole b) where
  stated_whole : stated (b ++ t) ≡ length b
  stated_whole = stated_front b t w.header ∙ w.states

  pub after_append : (k : ℕ) → after (suc k) (b ++ t) ≡ after k t
  unfolding after
  after_append k = ap (after k) (rw stated_whole (drop_at b t (length b) refl))

  pub part_first : part 0 (b ++ t) ≡ b
  unfolding part after
  part_first = rw stated_whole (take_at b t (length b) refl)

  pub part_append : (k : ℕ) → part (suc k) (b ++ t) ≡ part k t
  unfolding part
  part_append k = rw (after_append k)

-- the same for the last of the blocks
pub after_last : (b : List ℕ) → Whole b → after 1 b ≡ []
unfolding after
after_last b w = rw (append-nil) at (after_append b [] w 0)

pub part_last : (b : List ℕ) → Whole b → part 0 b ≡ b
part_last b w = rw (append-nil) at (part_first b [] w)

-- behind one block more
pub after_suc : (k : ℕ) (s : List ℕ) → after (suc k) s ≡ drop (stated (after k s)) (after k s)
unfolding after
after_suc zero s = refl
after_suc (suc k) s = after_suc k (drop (stated s) s)

pub part_after : (k : ℕ) (s : List ℕ) → part k s ++ after (suc k) s ≡ after k s
unfolding part
part_after k s = rw (after_suc k s) (take-append-drop (stated (after k s)) (after k s))

pub bytes_after : (k : ℕ) (s : List ℕ) → Bytes s → Bytes (after k s)
unfolding after
bytes_after zero s b = b
bytes_after (suc k) s b = bytes_after k (drop (stated s) s) (bytes_drop (stated s) s b)

pub bytes_part : (k : ℕ) (s : List ℕ) → Bytes s → Bytes (part k s)
unfolding part
bytes_part k s b = bytes_take (stated (after k s)) (after k s) (bytes_after k s b)

-- ---- where a block starts

pub stated_drop : (p : ℕ) (s : List ℕ) → stated (drop p s) ≡ be_at 4 s p
unfolding stated
stated_drop p s = rw (add-zero p) at (be_at_drop 4 p s 0)

module _ (h : ℕ) (s : List ℕ) where
  pub after_at : (k : ℕ) → after k (drop h s) ≡ drop (block_at h k s) s
  unfolding block_at after
  after_at zero = refl
  after_at (suc k) =
      after_suc k (drop h s)
      ∙ rw (after_at k, stated_drop (block_at h k s) s) (drop-drop (be_at 4 s (block_at h k s)) (block_at h k s) s)

  pub part_at : (k : ℕ) → part k (drop h s) ≡ take (be_at 4 s (block_at h k s)) (drop (block_at h k s) s)
  unfolding part
  part_at k = rw (after_at k, stated_drop (block_at h k s) s)

  pub block_at_suc : (k : ℕ) → block_at h (k + 1) s ≡ block_at h k s + be_at 4 s (block_at h k s)
  unfolding block_at
  block_at_suc k = ap (λ (n : ℕ). block_at h n s) (add-one k)

-- ---- a block at the front of what remains

module _ (h : ℕ) (f : List ℕ → Verdict) (s : List ℕ) where
  pub inside_parts : inside h f s ≡ Accepted → Inside h f s
  unfolding inside
  inside_parts e =
      let p = test_passed (ltb (length s) h) Short
      (cond (ltb (stated s) h || ltb (length s) (stated s)) Length (f (take (stated s) s))) (lit< tt) e in
      let q =
      test_passed (ltb (stated s) h || ltb (length s) (stated s)) Length (f (take (stated s) s)) (lit< tt) p.1 in
      let r = or_parts (ltb (stated s) h) (ltb (length s) (stated s)) q.0 in
      record {
        header = ltb-false (length s) h p.0;
        holds = ltb-false (stated s) h r.0;
        within = ltb-false (length s) (stated s) r.1;
        passes = q.1;
      }

  pub inside_is : h ≤ stated s → stated s ≤ length s → inside h f s ≡ f (take (stated s) s)
  unfolding inside
  inside_is l m = rw (le-ltb (length s) h (omega arith), le-ltb (stated s) h l, le-ltb (length s) (stated s) m)

  pub inside_short : length s < h → inside h f s ≡ Short
  unfolding inside
  inside_short l = rw (lt-ltb (length s) h l)

  -- it states less than its header, or more than there is
  pub inside_less : h ≤ length s → stated s < h → inside h f s ≡ Length
  unfolding inside
  inside_less l m = rw (le-ltb (length s) h l, lt-ltb (stated s) h m)

  pub inside_more : h ≤ length s → h ≤ stated s → length s < stated s → inside h f s ≡ Length
  unfolding inside
  inside_more l m n = rw (le-ltb (length s) h l, le-ltb (stated s) h m, lt-ltb (length s) (stated s) n)

  -- the test of its length alone, and then that of its own bytes
  pub inside_then : inside h f s ≡ and_then (inside h (λ _. Accepted) s) (f (take (stated s) s))
  unfolding inside and_then accepted
  inside_then = go (ltb (length s) h) (ltb (stated s) h || ltb (length s) (stated s))
    where
      go : (a b : Bool) → cond a Short (cond b Length (f (take (stated s) s)))
          ≡ and_then (cond a Short (cond b Length Accepted)) (f (take (stated s) s))
      go true b = refl
      go false true = refl
      go false false = refl

pub inside_append : (h : ℕ) (f : List ℕ → Verdict) (b t : List ℕ) → Whole b → h ≤ length b → inside h f (b ++ t) ≡ f b
inside_append h f b t w l =
    let e = stated_whole b t w in
    inside_is h f (b ++ t) (omega arith) (rw length-append (omega arith)) ∙ ap f (rw e (take_at b t (length b) refl))

-- ---- a block that lies in bytes

ends_within : (n p q : ℕ) → 0 < q → q ≤ n - p → p + q ≤ n
ends_within n p q h g = omega arith

pub inside_lies : (h : ℕ) (f : List ℕ → Verdict) (from : ℕ) (s : List ℕ) (k : ℕ) → 0 < h
    → Inside h f (after k (drop from s)) → Lies h (block_at from k s) s (part k (drop from s))
inside_lies h f from s k l i =
    let p : ℕ = block_at from k s in
    let e : after k (drop from s) ≡ drop p s = after_at from s k in
    let n : h ≤ be_at 4 s p = rw (e, stated_drop p s) at i.holds in
    record {
      holds = n;
      within =
          ends_within (length s) p (be_at 4 s p) (omega arith) (rw (e, stated_drop p s, length-drop) at i.within);
      part_is = part_at from s k;
    }
