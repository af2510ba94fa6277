-- `put` lays one element:
-- its steps lie within the block's parts, and what they leave is that block with one element more.
use mathlib.Core.Path.{◌≡◌, refl, sym, subst, ◌∙◌}
use Prim.Native.Nat.{ℕ, ◌+◌, ◌*◌, ◌/◌, ◌%◌, ◌^◌, ◌≤◌, ◌<◌}
use native.Mathlib.Nat.{mod-lt, mul-le-mul_right}
use native.Mathlib.Omega.{arith}
use mathlib.Core.List.{List, [], ◌∷◌, ◌++◌}
use lib.Dec.{lit<, lit≤}
use lib.ListN.{length}
use mir.Syntax.{w64}
use mir.Val.{Fits}
use Rattle.rules.specs.List.{upper}
use Rattle.laws.proofs.BitLaws.{one_shl}
use Rattle.shape.specs.declared.Shape.{Shape}
use Rattle.filllaws.specs.declared.Filling.{Filling}
use Rattle.filllaws.specs.Filling.{Stored, high, Partly, Next}
use Rattle.filllaws.proofs.FillLaws.{raised_lt}
use Rattle.filllaws.proofs.PartLaws.{Step, ready_step, partly_more}
use Rattle.laying.proofs.put.Lts
use Rattle.laying.proofs.put.Reads
use Rattle.laying.proofs.put.Tie
use Rattle.laying.proofs.put.Goals as goal

abbrev After-struct_known-4-1 : Type 0
After-struct_known-4-1 = Lts.After-struct_known4 Tie.the-claims Reads.Pre Reads.Post

abbrev After-put_words-word : Type 0
After-put_words-word = Lts.After-put_words Tie.the-claims Reads.Pre Reads.Post

abbrev After-put_pointers-next : Type 0
After-put_pointers-next = Lts.After-put_pointers Tie.the-claims Reads.Pre Reads.Post

abbrev After-put_low-lows : Type 0
After-put_low-lows = Lts.After-put_low Tie.the-claims Reads.Pre Reads.Post

abbrev Start : Type 0
Start = Lts.Start Tie.the-claims Reads.Pre Reads.Post

-- what is made of a high part z with i elements before it fits a machine word
record Sums (z i : ℕ) : Type 0 where
  place : Fits w64 (z + i)
  word : Fits w64 (64 * ((z + i) / 64))
  word_end : Fits w64 (64 * ((z + i) / 64) + 64)
  zeros : (k n : ℕ) → k ≤ 1024 → n ≡ z / 256 + 1 → Fits w64 (k * n)
  pointer : (k n : ℕ) → k ≤ 1024 → n ≡ z / 256 + 1 → Fits w64 (k * n + i)
  count : Fits w64 (i + 1)

sums : (z i : ℕ) → z + i ≤ 2 ^ 26 → Sums z i
sums z i h = record {
  place = omega arith;
  word = omega arith;
  word_end = omega arith;
  zeros = λ k n l e. omega (arith, mul-le-mul_right n l);
  pointer = λ k n l e. omega (arith, mul-le-mul_right n l);
  count = omega arith;
}

-- the block's parts are wide enough, and end within the room
record Within (g : Shape) (f : Filling) (x room : ℕ) : Type 0 where
  width : g.w ≤ 32
  lows : g.lower + 8 * (f.lows.words + (f.lows.have + g.w) / 64) ≤ room
  pointers : 13 + 4 * (x / 2 ^ g.w / 256) ≤ room
  words : g.upper + 8 * ((x / 2 ^ g.w + f.count) / 64) ≤ room
  place : x / 2 ^ g.w + f.count < 2 ^ 32

within : {g : Shape} {f : Filling} {x room now : ℕ} → Step g f x room → now ≡ room → Within g f x now
within s e = record {
  width = omega (arith, s.narrow);
  lows = omega (arith, s.low_end, s.up_end, s.end, e);
  pointers = omega (arith, s.pointer_end, s.order, s.up_end, s.end, e);
  words = omega (arith, s.up_end, s.end, e);
  place = omega (arith, s.small);
}

narrow_lt : {w : ℕ} → w ≤ 24 → w < 64
narrow_lt h = omega arith

-- the places where the low part, the pointers and the words are written, seen from the end
abbrev words-put : After-struct_known-4-1 → After-put_words-word
words-put c = c.before.before.before.before.before

abbrev pointers-put : After-put_words-word → After-put_pointers-next
pointers-put c = c.before.before.before.before.before

abbrev low-put : After-put_pointers-next → After-put_low-lows
low-put c = c.before.before.before.before.before

abbrev start : After-put_low-lows → Start
start c = c.before.before.before.before

laid_more : (c : After-struct_known-4-1) (xs before : List ℕ)
    → let w = c in
    let low = w in
    let a = low.args in
    let place : ℕ = a.x / 2 ^ a.g.w + a.f.count in
    Partly a.g xs a.f before a.room.now → Next a.g xs a.x
    → Partly a.g (xs ++ (a.x ∷ []))
    (record {
      count = a.f.count + 1;
      lows = low.put_low-lows.result;
      ups = record {
        acc = w.put_words-word.result + 2 ^ (place % 64);
        words = place / 64;
        next = a.x / 2 ^ a.g.w / 256 + 1;
        stop = c.min-stop.result;
      };
    })
    before w.put_words-word.new.room
laid_more c xs before p m =
    let w = c in
    let q = w in
    let l = q in
    let a = l.args in
    partly_more a.g xs a.f before a.room.now p a.x m
    l.put_low-lows.result l.put_low-lows.new.room q.put_pointers-next.new.room w.put_words-word.new.room w.put_words-word.result
    c.min-stop.result
    (omega (arith, c.min-stop.ensures)) (omega (arith, c.min-stop.ensures, q.put_pointers-next.ensures.0))
    l.put_low-lows.ensures
    (subst (λ n. Stored 4 9 (λ k. 256 * k + a.f.count) a.f.ups.next n l.put_low-lows.new.room
    q.put_pointers-next.new.room) q.put_pointers-next.ensures.0 q.put_pointers-next.ensures.1)
    w.put_words-word.ensures

pub put_low-lows-requires : goal.put_low-lows-requires
put_low-lows-requires c =
    let s = ready_step c.requires in
    let t = within s refl in
    (s.short, t.width, s.in_hand, t.lows)

pub overflow_shr-high : goal.overflow_shr-high
overflow_shr-high c = narrow_lt (ready_step c.requires).narrow

pub put_pointers-next-requires : goal.put_pointers-next-requires
put_pointers-next-requires c =
    let l = c in
    let s = ready_step l.requires in
    let t = within s l.put_low-lows.ensures.flushed.stored.long in
    (s.next_some, s.next_le, t.pointers, t.place)

pub overflow_add-place : goal.overflow_add-place
overflow_add-place c = (sums _ _ (ready_step c.requires).small).place

pub put_words-word-requires : goal.put_words-word-requires
put_words-word-requires c =
    let q = c in
    let l = q in
    let s = ready_step l.requires in
    (s.words_le, (within s (q.put_pointers-next.ensures.1.long ∙ l.put_low-lows.ensures.flushed.stored.long)).words)

pub overflow_mul-place : goal.overflow_mul-place
overflow_mul-place c = (sums _ _ (ready_step c.requires).small).word

pub overflow_add-place-2 : goal.overflow_add-place-2
overflow_add-place-2 c = (sums _ _ (ready_step c.requires).small).word_end

pub overflow_mul-next : goal.overflow_mul-next
overflow_mul-next c =
    let q = c in
    (sums _ _ (ready_step q.requires).small).zeros _ _ (lit≤ tt) q.put_pointers-next.ensures.0

pub overflow_add-next : goal.overflow_add-next
overflow_add-next c =
    let q = c in
    (sums _ _ (ready_step q.requires).small).pointer _ _ (lit≤ tt) q.put_pointers-next.ensures.0

pub overflow_add-result-2 : goal.overflow_add-result-2
overflow_add-result-2 c =
    let w = c in
    let s = w in
    let a = s.args in
    let r = s.requires in
    let place : ℕ = a.x / 2 ^ a.g.w + a.f.count in
    let p = laid_more c.before r.xs r.before r.partly r.next in
    let h = raised_lt w.put_words-word.new.room a.g.upper (high a.g.w (r.xs ++ (a.x ∷ [])))
    (length (r.xs ++ (a.x ∷ []))) (upper a.g.w 0 (r.xs ++ (a.x ∷ [])))
    (record {
      acc = w.put_words-word.result + 2 ^ (place % 64);
      words = place / 64;
      next = a.x / 2 ^ a.g.w / 256 + 1;
      stop = c.min-stop.result;
    }) p.ups in
    let o = one_shl (place % 64) (mod-lt place (lit< tt)) in
    rw o (record { fits = h })

pub shape_of-room : goal.shape_of-room
shape_of-room c =
    let w = c in
    let q = w in
    w.put_words-word.ensures.stored.long ∙ q.put_pointers-next.ensures.1.long ∙ q.put_low-lows.ensures.flushed.stored.long

pub returns : goal.returns
returns c xs before p m =
    let w = c in
    let q = w in
    let l = q in
    let a = l.args in
    let place : ℕ = a.x / 2 ^ a.g.w + a.f.count in
    rw (one_shl (place % 64) (mod-lt place (lit< tt)))
    (subst (λ n. Partly a.g (xs ++ (a.x ∷ [])) (record {
      count = a.f.count + 1;
      lows = l.put_low-lows.result;
      ups = record {
        acc = w.put_words-word.result + 2 ^ (place % 64);
        words = place / 64;
        next = n;
        stop = c.min-stop.result;
      };
    }) before w.put_words-word.new.room) (sym q.put_pointers-next.ensures.0) (laid_more c.before xs before p m))

pub min-stop-requires : goal.min-stop-requires
min-stop-requires c = tt

pub overflow_add-result : goal.overflow_add-result
overflow_add-result c = (sums _ _ (ready_step c.requires).small).count

pub overflow_shl-result : goal.overflow_shl-result
overflow_shl-result c = mod-lt _ (lit< tt)
