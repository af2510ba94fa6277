-- Laws of a block all of whose elements are laid:
-- that the last writes lie within their parts, and that what they leave is the block.
use mathlib.Core.Path.{◌≡◌, sym, ap, ◌∙◌, subst}
use mathlib.Core.List.{List, [], ◌∷◌, ◌++◌}
use Prim.Native.Nat.{ℕ, ◌+◌, ◌-◌, ◌*◌, ◌/◌, ◌%◌, ◌^◌, ◌≤◌, ◌<◌}
use native.Mathlib.Nat.{zero-add, zero-div, mod-eq_of_lt}
use native.Mathlib.Decide.{dec_lt}
use native.Mathlib.Omega.{arith}
use lib.ListN.{length, get_or, drop, length-append, length-drop, get_or-append}
use lib.Pow.{shr_mono}
use lib.Seq.{ext_get_or, get_or-append-add, get_or-drop}
use Rattle.rules.specs.Bytes.{Bytes, be_at}
use Rattle.rules.specs.Runs.{run_word, words_for}
use Rattle.rules.specs.List.{width, zeros, lower, upper, size, pointer, block, Form, form_block}
use Rattle.rules.specs.ReadList.{stated, list_u, list_n}
use Rattle.rules.specs.Write.{laid}
use Rattle.laws.proofs.ByteLaws.{Alike, alike_append, alike_read, alike_reads}
use Rattle.shape.specs.declared.Shape.{Shape}
use Rattle.listlaws.specs.Sound.{least, ones_to, After}
use Rattle.listlaws.proofs.AfterLaws.{ones_steps, ones_none, after_le, after_unique, after_zero_is}
use Rattle.listlaws.proofs.BlockLaws.{block_bytes, block_pointer, block_lower, block_upper}
use Rattle.maplaws.proofs.FormLaws.{form_length, form_bytes, form_stated, form_version_lem, form_reads_U, form_reads_n}
use Rattle.filllaws.specs.declared.Filling.{Filling}
use Rattle.filllaws.specs.Filling.{Stored, Flushed, Held, FramedAs, Framed, high, Partly, Full}
use Rattle.filllaws.proofs.StoreLaws.{held_alike, held_flushed}
use Rattle.filllaws.proofs.FillLaws.{ones_all}
use Rattle.filllaws.proofs.SideLaws.{sides, width_of, zeros_of, lower_is, upper_is, end_is, end_small}
use Rattle.filllaws.proofs.PassLaws.{Passed, passed}

-- ---- the last writes

high_none : (w : ℕ) (xs : List ℕ) → length xs ≡ 0 → high w xs ≡ 0
unfolding high least
high_none w [] e = zero-div (2 ^ w)
high_none w (x ∷ xs) e = absurd (omega arith)

-- what the steps of `finish` ask
pub record Last (g : Shape) (f : Filling) (room : ℕ) : Type 0 where
  pub lower_upper : g.lower ≤ g.upper
  pub upper_end : g.upper ≤ g.end
  pub low_le : f.lows.words ≤ (g.upper - g.lower) / 8
  pub low_end : g.lower + 8 * ((g.upper - g.lower) / 8) ≤ g.upper
  pub up_le : f.ups.words ≤ (g.end - g.upper) / 8
  pub up_end : g.upper + 8 * ((g.end - g.upper) / 8) ≤ g.end
  pub many : g.n ≤ g.bits
  pub next_some : 0 < f.ups.next
  pub next_le : f.ups.next ≤ (g.bits - g.n) / 256 + 1
  pub pointer_end : 13 + 4 * ((g.bits - g.n) / 256) ≤ g.lower
  pub small : g.bits - g.n + f.count ≤ 2 ^ 26
  pub end : g.end ≤ room

module _ (g : Shape) (xs : List ℕ) (f : Filling) (before s : List ℕ)
    (p : Partly g xs f before s) (all : length xs ≡ g.n) where
  abbrev z : ℕ
  z = g.bits - g.n

  high_le : high g.w xs ≤ z
  unfolding high zeros
  high_le =
      elim (dec_lt 0 g.n) [
        | yes a ↦ rw (zeros_of g before p.framed.fitting a) (shr_mono g.w (omega (arith, p.below)))
        | no b ↦ omega (arith, high_none g.w xs (omega arith))
      ]

  pub last : Last g f (length s)
  unfolding words_for
  last =
      let t = sides g before p.framed.fitting in
      let i = ap (λ n. n * g.w) all in
      record {
        lower_upper = omega (arith, t.upper);
        upper_end = omega (arith, t.end);
        low_le = omega (arith, t.upper, p.lows.place, i);
        low_end = omega (arith, t.upper);
        up_le = omega (arith, t.end, p.ups.place, high_le);
        up_end = omega (arith, t.end);
        many = omega (arith, t.bits);
        next_some = omega (arith, p.ups.next);
        next_le = omega (arith, p.ups.next, high_le);
        pointer_end = omega (arith, t.lower);
        small = omega (arith, t.few, t.many, p.count);
        end = omega (arith, p.framed.fitting.room, p.framed.long);
      }

-- ---- the block

module _ {o : Form} (g : Shape) (xs : List ℕ) (before t : List ℕ) (f : FramedAs o g before t)
    (all : length xs ≡ g.n) (bt : Bytes t) where
  abbrev F : List ℕ
  F = form_block o g.u xs

  bf : Bytes F
  bf = form_bytes o g.u xs

  long : length F ≡ g.end
  long = form_length o g.u xs ∙ rw all (sym (end_is g before f.fitting))

  pub header : Alike t F 0 13
  unfolding stated list_u list_n
  header =
      let e = end_small g before f.fitting in
      let w = f.fitting.within in
      let l = f.fitting.below in
      let size-read : be_at 4 t 0 ≡ be_at 4 F 0 = f.size_is ∙ sym (form_stated o g.u xs ∙ rw long (mod-eq_of_lt e)) in
      let version-read : get_or t 4 0 ≡ get_or F 4 0 = f.version_is ∙ sym (form_version_lem o g.u xs) in
      let u-read : be_at 4 t 5 ≡ be_at 4 F 5 = f.u_is ∙ sym (form_reads_U o g.u xs ∙ mod-eq_of_lt (omega arith)) in
      let n-read : be_at 4 t 9 ≡ be_at 4 F 9 =
      f.n_is ∙ sym (form_reads_n o g.u xs ∙ rw all (mod-eq_of_lt (omega arith))) in
      alike_append t F 0 4 13 (alike_read t F bt bf 4 0 size-read)
      (alike_append t F 4 5 13
      (λ i a b. let q : 4 ≡ i = omega arith in subst (λ k. get_or t k 0 ≡ get_or F k 0) q version-read)
      (alike_append t F 5 9 13 (alike_read t F bt bf 4 5 u-read) (alike_read t F bt bf 4 9 n-read)))

  -- a room that agrees with the block
  pub agrees : Alike t F 0 g.end → t ≡ laid F before
  unfolding laid
  agrees a = ext_get_or 0 t (F ++ drop (length F) before) same_long at
    where
      same_long : length t ≡ length (F ++ drop (length F) before)
      same_long = f.long ∙ sym (length-append F (drop (length F) before)
          ∙ rw (length-drop (length F) before, long) (omega (arith, f.fitting.room)))

      at : (i : ℕ) → i < length t → get_or t i 0 ≡ get_or (F ++ drop (length F) before) i 0
      at i h =
          elim (dec_lt i g.end) [
            | yes y ↦ a i (omega arith) y ∙ sym (get_or-append F (drop (length F) before) 0 i (rw long y))
            | no y ↦
                let q : length F + (i - length F) ≡ i = omega (arith, long) in
                f.behind i (omega arith)
                ∙ sym (rw q at (get_or-append-add F (drop (length F) before) (i - length F) 0) ∙ rw (get_or-drop, q))
          ]

module _ (g : Shape) (xs : List ℕ) (before t : List ℕ) (f : Framed g before t) (all : length xs ≡ g.n)
    (bt : Bytes t) where
  abbrev B : List ℕ
  B = block g.u xs

  bb : Bytes B
  bb = block_bytes g.u xs

  module _ (some : 0 < g.n)
      (lows : (k : ℕ) → k < words_for (g.n * g.w)
      → be_at 8 t (g.lower + 8 * k) ≡ lower g.w 0 xs / 2 ^ (64 * k) % 2 ^ 64)
      (ups : (k : ℕ) → k < words_for (g.n + zeros g.u g.w)
      → be_at 8 t (g.upper + 8 * k) ≡ upper g.w 0 xs / 2 ^ (64 * k) % 2 ^ 64)
      (points : (q : ℕ) → 0 < q → q ≤ zeros g.u g.w / 256
      → After (ones_to (upper g.w 0 xs)) (256 * q) (be_at 4 t (9 + 4 * q)))
      (counted : ones_to (upper g.w 0 xs) (g.n + zeros g.u g.w) ≡ g.n) where
    abbrev Z : ℕ
    Z = zeros g.u g.w

    abbrev uv : ℕ
    uv = upper g.w 0 xs

    ew : g.w ≡ width g.u g.n
    ew = width_of g before f.fitting some

    pointer_is : (q : ℕ) → 0 < q → q ≤ Z / 256 → be_at 4 t (9 + 4 * q) ≡ be_at 4 B (9 + 4 * q)
    unfolding pointer
    pointer_is q l h =
        let b : ℕ = g.n + Z in
        let y : ones_to uv (0 + b) ≡ g.n = rw (zero-add b) counted in
        let a : After (ones_to uv) (256 * q) (pointer b uv q) =
        rw (zero-add (256 * q)) at (after_zero_is uv b (256 * q) 0 0 (omega (arith, ones_none uv)) (omega arith)
        (omega (arith, y, ones_none uv))) in
        let far : be_at 4 t (9 + 4 * q) ≤ b = after_le (ones_to uv) (ones_steps uv) (256 * q) (be_at 4 t (9 + 4 * q))
        (points q l h) b (omega (arith, counted)) in
        let e : be_at 4 t (9 + 4 * q) ≡ pointer b uv q =
        after_unique (ones_to uv) (ones_steps uv) (256 * q) (be_at 4 t (9 + 4 * q)) (pointer b uv q) (points q l h) a in
        let s = sides g before f.fitting in
        e ∙ sym (block_pointer g.u xs g.n g.w all some ew q l h
        ∙ mod-eq_of_lt (omega (arith, e, far, s.few, s.many, zeros_of g before f.fitting some)))

    finished_some : t ≡ laid B before
    unfolding run_word
    finished_some =
        let s = sides g before f.fitting in
        let z = zeros_of g before f.fitting some in
        let lo = lower_is g before f.fitting some in
        let up = upper_is g before f.fitting some in
        let l1 : 13 + 4 * (Z / 256) ≡ g.lower = rw (← z) (sym s.lower) in
        let l2 : g.lower + 8 * words_for (g.n * g.w) ≡ g.upper = sym s.upper in
        let l3 : g.upper + 8 * words_for (g.n + Z) ≡ g.end = rw (← z) (sym s.end) in
        agrees g xs before t f all bt
        (alike_append t B 0 13 g.end (header g xs before t f all bt)
        (alike_append t B 13 g.lower g.end
        (rw l1 at (alike_reads t B bt bb 4 13 (Z / 256) (λ q h.
        let e : 13 + 4 * q ≡ 9 + 4 * (q + 1) = omega arith in
        rw e (pointer_is (q + 1) (omega arith) (omega arith)))))
        (alike_append t B g.lower g.upper g.end
        (rw l2 at (alike_reads t B bt bb 8 g.lower (words_for (g.n * g.w))
        (λ k h. lows k h ∙ rw lo (sym (block_lower g.u xs g.n g.w all some ew k h)))))
        (rw l3 at (alike_reads t B bt bb 8 g.upper (words_for (g.n + Z))
        (λ k h. ups k h ∙ rw up (sym (block_upper g.u xs g.n g.w all some ew k h))))))))

  finished_none : g.n ≡ 0 → t ≡ laid B before
  unfolding size
  finished_none none =
      let e : g.end ≡ 13 = rw none at (end_is g before f.fitting) in
      agrees g xs before t f all bt (rw e (header g xs before t f all bt))

-- ---- all together

module _ (g : Shape) (xs : List ℕ) (f : Filling) (before s : List ℕ) (p : Partly g xs f before s)
    (all : length xs ≡ g.n)
    (s1 s2 s3 : List ℕ) (r word : ℕ)
    (low : Flushed g.lower f.lows.words ((g.upper - g.lower) / 8 - f.lows.words) f.lows.acc r s s1)
    (mid : Stored 4 9 (λ q. 256 * q + f.count) f.ups.next ((g.bits - g.n) / 256 + 1) s1 s2)
    (up : Flushed g.upper f.ups.words ((g.end - g.upper) / 8 - f.ups.words) f.ups.acc word s2 s3)
    (bytes : Bytes s3) where
  abbrev lv : ℕ
  lv = lower g.w 0 xs

  abbrev low_to : ℕ
  low_to = f.lows.words + ((g.upper - g.lower) / 8 - f.lows.words)

  abbrev up_to : ℕ
  up_to = f.ups.words + ((g.end - g.upper) / 8 - f.ups.words)

  laid_on : Passed g xs f before s1 s3 (g.bits - g.n) low_to up_to word
  laid_on =
      let t = last g xs f before s p all in
      passed g xs f before s p (g.bits - g.n)
      (high_le g xs f before s p all) ((g.upper - g.lower) / 8 - f.lows.words)
      ((g.end - g.upper) / 8 - f.ups.words) f.lows.acc r word s1 s2 s3
      low mid up (omega (arith, t.low_le, t.low_end)) t.pointer_end (omega (arith, t.up_le, t.up_end))

  low_words : Held s3 g.lower lv low_to r
  low_words =
      let m = (g.upper - g.lower) / 8 - f.lows.words in
      let held = held_flushed s g.lower lv f.lows.words f.lows.acc p.lows.held m r s1 low in
      held_alike s1 g.lower lv low_to r held s3 laid_on.lower_kept

  pub finished : s3 ≡ laid (block g.u xs) before
  unfolding words_for
  finished =
      elim (dec_lt 0 g.n) [
        | no b ↦ finished_none g xs before s3 laid_on.framed all bytes (omega arith)
        | yes some ↦
            let t = sides g before p.framed.fitting in
            let a = last g xs f before s p all in
            let e : g.bits - g.n ≡ zeros g.u g.w = zeros_of g before p.framed.fitting some in
            let h = high_le g xs f before s p all in
            let counted = ones_all (upper g.w 0 xs) (high g.w xs + length xs) (g.n + zeros g.u g.w)
            p.ups.top (omega (arith, e, h, all)) in
            finished_some g xs before s3 laid_on.framed all bytes some
            (λ k l. low_words.written k (omega (arith, t.upper, a.low_le)))
            (λ k l. laid_on.words.written k (omega (arith, t.end, a.up_le, e)))
            (λ q l u. laid_on.pointers q l (omega (arith, e)))
            (counted ∙ p.ups.counted ∙ all)
      ]

pub full_last : {g : Shape} {f : Filling} {room : List ℕ} → Full g f room → Last g f (length room)
full_last {g} {f} {room} r = last g r.xs f r.before room r.partly r.all
