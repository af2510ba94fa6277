-- That the framed bytes of a bitmap are the block of what is read of them exactly when they are sound.
use mathlib.Core.Bool.{true}
use mathlib.Core.Logic.{◌↔◌}
use mathlib.Core.Path.{◌≡◌, sym, ap, ◌∙◌}
use mathlib.Core.List.{List}
use Prim.Native.Nat.{ℕ, ◌+◌, ◌*◌, ◌/◌, ◌%◌, ◌^◌, ◌≤◌, ◌<◌}
use native.Mathlib.Nat.{zero-add, mod-eq_of_lt}
use native.Mathlib.Omega.{arith}
use lib.ListN.{length, get_or}
use Rattle.rules.specs.Bytes.{Bytes, be_at, same}
use Rattle.rules.specs.Runs.{bit, run_word, run_bit, field, words_for}
use Rattle.rules.specs.Counts.{ones_below}
use Rattle.rules.specs.List.{rising, map_of, pages_below, map_at, map_size, map_block, Form, bitmap, form_size, form_block}
use Rattle.rules.specs.ReadList.{stated, list_u, list_n, map_elements, read_map, decode, is_block}
use Rattle.laws.proofs.ByteLaws.{Alike, alike_append, alike_byte, alike_same, alike_read, alike_reads}
use Rattle.laws.proofs.PartLaws.{stated_lt}
use Rattle.laws.proofs.CountLaws.{below_none, ones_below_le}
use Rattle.laws.proofs.RunLaws.{run_agrees, run_spare, words_bits, bits_words}
use Rattle.listlaws.specs.Sound.{FramedAs}
use Rattle.listlaws.proofs.AfterLaws.{count_agree}
use Rattle.listlaws.proofs.RisingLaws.{and_parts}
use Rattle.listlaws.proofs.BlockLaws.{same_eq, same_refl}
use Rattle.listlaws.proofs.SoundLaws.{header_alike}
use Rattle.listlaws.proofs.RefusalLaws.{framed_form, decode_map}
use Rattle.maplaws.specs.Maps.{MapSound}
use Rattle.maplaws.proofs.NumberLaws.{up_to_ones}
use Rattle.maplaws.proofs.PageLaws.{length_pages, pages_rising, pages_number, pages_agree}
use Rattle.maplaws.proofs.MapLaws.{map_bytes, map_n, map_number, map_word}
use Rattle.maplaws.proofs.FormLaws.{form_length, form_bytes, form_stated, form_version_lem, form_reads_U}
use Rattle.maplaws.proofs.FormLaws.{form_reads_n}

-- ---- the header, in either form

module _ (f : Form) (s : List ℕ) (bs : Bytes s) (p : FramedAs f s) (xs : List ℕ) (len : length xs ≡ list_n s) where
  lengths : length s ≡ length (form_block f (list_u s) xs)
  lengths = p.length_is ∙ ap (form_size f (list_u s)) (sym len) ∙ sym (form_length f (list_u s) xs)

  block_header : Alike s (form_block f (list_u s) xs) 0 13
  unfolding stated list_u list_n
  block_header =
      header_alike f s (form_block f (list_u s) xs) bs (form_bytes f (list_u s) xs) p lengths (form_stated f (list_u s) xs)
      (form_version_lem f (list_u s) xs) (form_reads_U f (list_u s) xs)
      (form_reads_n f (list_u s) xs ∙ ap (λ (k : ℕ). k % 2 ^ 32) len)

-- ---- the bitmap

module _ (s : List ℕ) (f : FramedAs bitmap s) where
  abbrev U : ℕ
  U = list_u s

  abbrev n : ℕ
  n = list_n s

  abbrev at : ℕ
  at = map_at (list_u s)

  abbrev xs : List ℕ
  xs = map_elements s (map_at (list_u s)) (list_u s) 0

  -- what is read are the places of the ones
  pub map_pages : decode s ≡ map_elements s (map_at (list_u s)) (list_u s) 0
  unfolding read_map
  map_pages = decode_map s (framed_form bitmap s f)

  rises : rising 0 U xs ≡ true
  rises = pages_rising s at U 0 0 U (omega arith) (omega arith)

  count_is : length xs ≡ ones_below s at U
  count_is = omega (arith, rw (zero-add U) at (length_pages s at U 0), below_none s at)

  number_is : map_of xs ≡ field s at 0 U
  number_is = pages_number s at U

  -- number q of the bitmap of what is read
  counted : (q : ℕ) → q ≤ U / 256 → pages_below (map_of xs) q ≡ ones_below s at (256 * q)
  unfolding pages_below
  counted q h =
      up_to_ones (map_of xs) (256 * q) ∙ sym (count_agree s at (map_of xs) U (pages_agree s at U) (256 * q) (omega arith))

  number_reads : (q : ℕ) → 0 < q → q ≤ U / 256 → be_at 4 (map_block U xs) (9 + 4 * q) ≡ ones_below s at (256 * q)
  number_reads q g h =
      map_number U xs q g h ∙ rw (counted q h) (mod-eq_of_lt (omega (arith, ones_below_le s at (256 * q), f.within)))

  -- ---- sound bytes are the block of what is read

  module _ (bs : Bytes s) (c : MapSound s (list_u s) (list_n s)) where
    len : length xs ≡ n
    len = count_is ∙ c.ones_are

    numbers_alike : Alike s (map_block U xs) 13 at
    unfolding map_at
    numbers_alike = alike_reads s (map_block U xs) bs (map_bytes U xs) 4 13 (U / 256) (λ q h.
        let e : 9 + 4 * (q + 1) ≡ 13 + 4 * q = omega arith in
        rw e at (c.numbers_are (q + 1) (omega arith) (omega arith)
        ∙ sym (number_reads (q + 1) (omega arith) (omega arith))))

    bits_alike : Alike s (map_block U xs) at (at + 8 * words_for U)
    unfolding run_word
    bits_alike = alike_reads s (map_block U xs) bs (map_bytes U xs) 8 at (words_for U) (λ k h.
        bits_words s at (words_for U) (map_of xs) bs
        (λ i l. run_agrees s at U (64 * words_for U) c.spare i l ∙ ap (λ (v : ℕ). bit v i) (sym number_is)) k h
        ∙ sym (map_word U xs k h))

    sound_same : s ≡ map_block U xs
    unfolding map_size
    sound_same =
        alike_same s (map_block U xs) (lengths bitmap s bs f xs len)
        (rw f.length_is (alike_append s (map_block U xs) 0 13 (at + 8 * words_for U)
        (block_header bitmap s bs f xs len)
        (alike_append s (map_block U xs) 13 at (at + 8 * words_for U) numbers_alike bits_alike)))

    sound_block : is_block bitmap s U (decode s) ≡ true
    unfolding is_block
    sound_block = rw (map_pages, rises, ← sound_same) (same_refl s)

  -- ---- and only those

  same_sound : s ≡ map_block U xs → MapSound s (list_u s) (list_n s)
  same_sound e =
      let m = ones_below_le s at U in
      let b : (i : ℕ) → i < 64 * words_for U → run_bit s at i ≡ bit (map_of xs) i =
      words_bits s at (words_for U) (map_of xs)
      (λ k h. ap (λ (l : List ℕ). run_word l at k) e ∙ map_word U xs k h) in
      record {
        ones_are = sym count_is ∙ sym (mod-eq_of_lt (omega (arith, count_is, m, f.within))) ∙ sym (map_n U xs)
            ∙ ap list_n (sym e);
        spare = run_spare s at U (64 * words_for U) (λ i h. b i h ∙ ap (λ (v : ℕ). bit v i) number_is);
        numbers_are = λ q g h. ap (λ (l : List ℕ). be_at 4 l (9 + 4 * q)) e ∙ number_reads q g h;
      }

  block_sound : is_block bitmap s U (decode s) ≡ true → MapSound s (list_u s) (list_n s)
  unfolding is_block
  block_sound a =
      same_sound (same_eq s (map_block U xs) (and_parts (rising 0 U xs) (same s (map_block U xs)) (rw map_pages at a)).1)

  -- refusal 6, part by part
  pub map_sound_iff : Bytes s → (is_block bitmap s (list_u s) (decode s) ≡ true) ↔ MapSound s (list_u s) (list_n s)
  map_sound_iff bs = (block_sound, sound_block bs)
