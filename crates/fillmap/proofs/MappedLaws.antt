-- Laws of a bitmap's block that is being written: where its parts lie, four words and their number more, and that the
-- last words complete the block.
use mathlib.Core.Bool.{true}
use mathlib.Core.Logic.{inl, inr}
use mathlib.Core.Path.{◌≡◌, sym, ap, ◌∙◌}
use mathlib.Core.List.{List}
use Prim.Native.Nat.{ℕ, ◌+◌, ◌-◌, ◌*◌, ◌/◌, ◌%◌, ◌^◌, ◌≤◌, ◌<◌}
use native.Mathlib.Nat.{mod-lt, mod-eq_of_lt}
use native.Mathlib.Decide.{dec_lt}
use native.Mathlib.Omega.{arith}
use lib.ListN.{length}
use lib.Pow.{pow_pos}
use lib.Seq.{sets}
use Rattle.rules.specs.Bytes.{Bytes, be, be_at}
use Rattle.rules.specs.Runs.{run_word, words_for}
use Rattle.rules.specs.List.{rising, map_of, pages_below, map_at, map_size, map_block, bitmap}
use Rattle.rules.specs.Write.{laid}
use Rattle.laws.proofs.ByteLaws.{alike_append, alike_reads}
use Rattle.maplaws.proofs.MapLaws.{map_bytes, map_number, map_word}
use Rattle.shape.specs.declared.Shape.{Shape}
use Rattle.shape.specs.Shape.{map_shape}
use Rattle.filllaws.specs.Filling.{Stored, FittingAs, FramedAs}
use Rattle.filllaws.proofs.StoreLaws.{stored_none, stored_more, stored_apart}
use Rattle.filllaws.proofs.PassLaws.{framed_stored}
use Rattle.filllaws.proofs.FinishLaws.{header, agrees}
use Rattle.fillmap.specs.Mapping.{word_of, number_of, Parted, Mapped}
use Rattle.fillmap.proofs.PartedLaws.{number_is}

-- ---- the parts of a block

-- where the bits start and the block ends
pub record Spread (g : Shape) : Type 0 where
  pub start : g.upper ≡ 13 + 4 * (g.u / 256)
  pub end : g.end ≡ g.upper + 8 * ((g.u + 63) / 64)
  pub within : g.u ≤ 16777216

pub spread : (g : Shape) (s : List ℕ) → FittingAs bitmap g s → Spread g
unfolding map_shape map_size map_at words_for
spread g s f =
    let e : g.upper ≡ 13 + 4 * (g.u / 256) = ap (λ h. h.upper) f.shape in
    record {
      start = e;
      end = rw e (ap (λ h. h.end) f.shape);
      within = f.within;
    }

-- ---- a bitmap in part

pub mapped_none : (g : Shape) (xs before room : List ℕ) → FramedAs bitmap g before room → Mapped g xs before room 0
mapped_none g xs before room f = record {
  framed = f;
  words = λ k h. absurd (omega arith);
  numbers = λ j l h. absurd (omega arith);
}

module _ (g : Shape) (xs before s : List ℕ) (q : ℕ) (m : Mapped g xs before s q) where
  -- words more, from those that stand
  module _ (last : ℕ) (t : List ℕ) (st : Stored 8 g.upper (word_of xs) (4 * q) last s t)
      (fits : g.upper + 8 * last ≤ g.end) (many : q ≤ g.u / 256) where
    abbrev place : Spread g
    place = spread g before m.framed.fitting

    words_framed : FramedAs bitmap g before t
    words_framed =
        framed_stored g before s t 8 g.upper (word_of xs) (4 * q) last m.framed st (omega (arith, place.start))
        fits

    words_more : (k : ℕ) → k < last → be_at 8 t (g.upper + 8 * k) ≡ word_of xs k
    words_more k h =
        elim (dec_lt k (4 * q)) [
          | yes y ↦ stored_apart 8 g.upper (word_of xs) (4 * q) last s t st 8 (g.upper + 8 * k) (inl (omega arith))
              ∙ m.words k y
          | no y ↦ st.numbers k (omega arith) h
        ]

    numbers_kept : (j : ℕ) → 0 < j → j ≤ q → be_at 4 t (9 + 4 * j) ≡ number_of xs j
    numbers_kept j l h =
        stored_apart 8 g.upper (word_of xs) (4 * q) last s t st 4 (9 + 4 * j) (inl (omega (arith, place.start)))
        ∙ m.numbers j l h

  -- four words and their number
  module _ (rises : rising 0 g.u xs ≡ true) (more : q < g.u / 256) (i : ℕ) (s1 s2 : List ℕ)
      (st : Stored 8 g.upper (word_of xs) (4 * q) (4 * q + 4) s s1) (p : Parted xs (64 * (4 * q + 4)) i)
      (few : i < 2 ^ 32) (put : s2 ≡ sets s1 (13 + 4 * q) (be 4 i)) where
    abbrev ahead : Spread g
    ahead = spread g before m.framed.fitting

    fits : g.upper + 8 * (4 * q + 4) ≤ g.end
    fits = omega (arith, ahead.end)

    number : i ≡ number_of xs (q + 1)
    number =
        let e : 64 * (4 * q + 4) ≡ 64 * (4 * (q + 1)) = omega arith in
        sym (ap (λ n. n % 2 ^ 32) (number_is g.u xs rises (q + 1) i (rw e at p)) ∙ mod-eq_of_lt few)

    numbered : Stored 4 9 (number_of xs) (q + 1) (q + 1 + 1) s1 s2
    numbered =
        let e : 13 + 4 * q ≡ 9 + 4 * (q + 1) = omega arith in
        stored_more 4 9 (number_of xs) (q + 1) (q + 1) s1 s1 (stored_none 4 9 (number_of xs) (q + 1) s1) (omega arith)
        (omega (arith, st.long, m.framed.long, m.framed.fitting.room, ahead.start, ahead.end))
        (mod-lt (pages_below (map_of xs) (q + 1)) (pow_pos 32)) s2
        (put ∙ rw (← number, e))

    pub mapped_more : Mapped g xs before s2 (q + 1)
    mapped_more = record {
      framed = framed_stored g before s1 s2 4 9 (number_of xs) (q + 1) (q + 1 + 1)
          (words_framed (4 * q + 4) s1 st fits (omega arith)) numbered (omega arith)
          (omega (arith, ahead.start, ahead.end));
      words = λ k h.
          stored_apart 4 9 (number_of xs) (q + 1) (q + 1 + 1) s1 s2 numbered 8 (g.upper + 8 * k)
          (inr (omega (arith, ahead.start)))
          ∙ words_more (4 * q + 4) s1 st fits (omega arith) k (omega arith);
      numbers = λ j l h. elim (dec_lt j (q + 1)) [
        | yes y ↦
            stored_apart 4 9 (number_of xs) (q + 1) (q + 1 + 1) s1 s2 numbered 4 (9 + 4 * j) (inl (omega arith))
            ∙ numbers_kept (4 * q + 4) s1 st fits (omega arith) j l (omega arith)
        | no y ↦ numbered.numbers j (omega arith) (omega arith)
      ];
    }

-- the last words
pub mapped_all : (g : Shape) (xs before s t : List ℕ) → Mapped g xs before s (g.u / 256) → length xs ≡ g.n → Bytes t
    → Stored 8 g.upper (word_of xs) (4 * (g.u / 256)) ((g.end - g.upper) / 8) s t
    → t ≡ laid (map_block g.u xs) before
unfolding run_word map_at words_for
mapped_all g xs before s t m all bt st =
    let a = spread g before m.framed.fitting in
    let last : ℕ = (g.end - g.upper) / 8 in
    let fits : g.upper + 8 * last ≤ g.end = omega (arith, a.end) in
    let B : List ℕ = map_block g.u xs in
    let bb = map_bytes g.u xs in
    let f = words_framed g xs before s (g.u / 256) m last t st fits (omega arith) in
    let l1 : 13 + 4 * (g.u / 256) ≡ g.upper = sym a.start in
    let l2 : g.upper + 8 * words_for g.u ≡ g.end = sym a.end in
    agrees g xs before t f all bt
    (alike_append t B 0 13 g.end (header g xs before t f all bt)
    (alike_append t B 13 g.upper g.end
    (rw l1 at (alike_reads t B bt bb 4 13 (g.u / 256) (λ q h.
    let e : 13 + 4 * q ≡ 9 + 4 * (q + 1) = omega arith in
    rw e (numbers_kept g xs before s (g.u / 256) m last t st fits (omega arith) (q + 1) (omega arith) (omega arith)
    ∙ sym (map_number g.u xs (q + 1) (omega arith) (omega arith))))))
    (rw l2 at (alike_reads t B bt bb 8 g.upper (words_for g.u) (λ k h.
    words_more g xs before s (g.u / 256) m last t st fits (omega arith) k (omega (arith, a.end))
    ∙ rw a.start (sym (map_word g.u xs k h)))))))
