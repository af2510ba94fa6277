-- That framed bytes are the block of what is read of them exactly when they are sound.
use mathlib.Core.Bool.{true}
use mathlib.Core.Logic.{◌↔◌}
use mathlib.Core.Path.{◌≡◌, refl, sym, ap, ◌∙◌}
use mathlib.Core.List.{List, []}
use Prim.Native.Nat.{ℕ, ◌+◌, ◌*◌, ◌/◌, ◌%◌, ◌^◌, ◌≤◌, ◌<◌}
use native.Mathlib.Nat.{mod-eq_of_lt}
use native.Mathlib.Omega.{arith}
use lib.ListN.{length, get_or}
use lib.Pow.{shr_le}
use Rattle.rules.specs.Bytes.{Bytes, be_at, same}
use Rattle.rules.specs.Runs.{bit, run_word, run_bit, field, words_for}
use Rattle.rules.specs.Counts.{ones_below}
use Rattle.rules.specs.List.{rising, zeros, upper, lower, pointer, lower_at, upper_at, size, block, Form, two_runs}
use Rattle.rules.specs.List.{form_version}
use Rattle.rules.specs.ReadList.{stated, list_u, list_n, elements, read_list, decode, is_block}
use Rattle.laws.proofs.ByteLaws.{Alike, alike_append, alike_byte, alike_same, alike_read, alike_reads}
use Rattle.laws.proofs.PartLaws.{stated_lt}
use Rattle.laws.proofs.CountLaws.{below_none, ones_slow, run_steps}
use Rattle.laws.proofs.RunLaws.{run_agrees, run_spare, ones_whole, words_bits, bits_words}
use Rattle.listlaws.specs.Sound.{width_of, upper_of, lower_of, bits_of, After, FramedAs, Framed, Sound}
use Rattle.listlaws.proofs.AfterLaws.{run_after, after_le, after_unique}
use Rattle.listlaws.proofs.RisingLaws.{and_parts}
use Rattle.listlaws.proofs.ElementLaws.{elements_count, upper_number, upper_agrees, lower_number}
use Rattle.listlaws.proofs.BlockLaws.{block_bytes, block_stated, block_version, block_U, block_n, block_pointer}
use Rattle.listlaws.proofs.BlockLaws.{block_lower, block_upper, block_size, size_is, size_none, same_eq}
use Rattle.listlaws.proofs.BlockLaws.{same_refl}
use Rattle.listlaws.proofs.RefusalLaws.{framed_form, decode_runs}
use Rattle.listlaws.proofs.ValidLaws.{read_is, read_none}

-- framed bytes have the header of any bytes that are as long and state the same
pub header_alike : (f : Form) (s t : List ℕ) → Bytes s → Bytes t → FramedAs f s → length s ≡ length t
    → stated t ≡ length t % 2 ^ 32 → get_or t 4 0 ≡ form_version f → list_u t ≡ list_u s % 2 ^ 32
    → list_n t ≡ list_n s % 2 ^ 32 → Alike s t 0 13
unfolding stated list_u list_n
header_alike f s t bs bt p e es ev eu en =
    let read = alike_read s t bs bt in
    let short : length s < 2 ^ 32 = rw p.length_stated at (stated_lt s bs) in
    let same_length : be_at 4 s 0 ≡ be_at 4 t 0 =
    p.length_stated ∙ sym (mod-eq_of_lt short) ∙ ap (λ (k : ℕ). k % 2 ^ 32) e ∙ sym es in
    let same-U : be_at 4 s 5 ≡ be_at 4 t 5 = sym (eu ∙ mod-eq_of_lt (omega (arith, p.within))) in
    let same-n : be_at 4 s 9 ≡ be_at 4 t 9 = sym (en ∙ mod-eq_of_lt (omega (arith, p.within, p.below))) in
    alike_append s t 0 4 13 (read 4 0 same_length)
    (alike_append s t 4 5 13 (alike_byte s t 4 (p.version_is ∙ sym ev))
    (alike_append s t 5 9 13 (read 4 5 same-U) (read 4 9 same-n)))

module _ (s : List ℕ) (bs : Bytes s) (f : Framed s) (xs : List ℕ) (len : length xs ≡ list_n s) where
  lengths : length s ≡ length (block (list_u s) xs)
  lengths = f.length_is ∙ ap (size (list_u s)) (sym len) ∙ sym (block_size (list_u s) xs)

  block_header : Alike s (block (list_u s) xs) 0 13
  unfolding stated list_u list_n
  block_header =
      header_alike two_runs s (block (list_u s) xs) bs (block_bytes (list_u s) xs) f lengths (block_stated (list_u s) xs)
      (block_version (list_u s) xs) (block_U (list_u s) xs)
      (block_n (list_u s) xs ∙ ap (λ (k : ℕ). k % 2 ^ 32) len)

module _ (s : List ℕ) (bs : Bytes s) (f : Framed s) where
  abbrev U : ℕ
  U = list_u s

  abbrev n : ℕ
  n = list_n s

  module _ (some : 0 < list_n s) where
    abbrev xs : List ℕ
    xs = elements s (upper_of s) (lower_of s) (width_of s) (bits_of s) 0 0

    abbrev num : ℕ
    num = upper (width_of s) 0 xs

    -- the upper run ends the block
    pub framed_length : length s ≡ upper_of s + 8 * words_for (bits_of s)
    framed_length = f.length_is ∙ size_is U n some

    reads : decode s ≡ xs
    reads = decode_runs s (framed_form two_runs s f) ∙ read_is s U n some

    number_is : num ≡ field s (upper_of s) 0 (bits_of s)
    number_is = upper_number s (upper_of s) (lower_of s) (width_of s) (bits_of s)

    count_is : length xs ≡ ones_below s (upper_of s) (bits_of s)
    count_is = elements_count s (upper_of s) (lower_of s) (width_of s) (bits_of s)

    -- ---- with n ones in all

    module _ (len : length xs ≡ n) where
      low_is : lower (width_of s) 0 xs ≡ field s (lower_of s) 0 (n * width_of s)
      low_is = rw (lower_number s (upper_of s) (lower_of s) (width_of s) (bits_of s), len)

      pointer_after : (q : ℕ) → q ≤ zeros U (width_of s) / 256
          → After (ones_below s (upper_of s)) (256 * q) (pointer (bits_of s) num q)
      unfolding pointer
      pointer_after q h = run_after s (upper_of s) num (bits_of s) (256 * q)
          (upper_agrees s (upper_of s) (lower_of s) (width_of s) (bits_of s)) (omega (arith, count_is))

      pointer_reads : (q : ℕ) → 0 < q → q ≤ zeros U (width_of s) / 256
          → be_at 4 (block U xs) (9 + 4 * q) ≡ pointer (bits_of s) num q
      unfolding zeros
      pointer_reads q g h =
          let l = after_le (ones_below s (upper_of s)) (run_steps s (upper_of s)) (256 * q)
          (pointer (bits_of s) num q) (pointer_after q h) (bits_of s) (omega (arith, count_is)) in
          block_pointer U xs n (width_of s) len some refl q g h
          ∙ mod-eq_of_lt (omega (arith, l, f.within, f.below, shr_le U (width_of s)))

      -- ---- sound bytes are the block of what is read

      module _ (c : Sound s (list_u s) (list_n s) (width_of s)) where
        bt : Bytes (block U xs)
        bt = block_bytes U xs

        pointers_alike : Alike s (block U xs) 13 (lower_of s)
        unfolding lower_at
        pointers_alike = alike_reads s (block U xs) bs bt 4 13 (zeros U (width_of s) / 256) (λ q h.
            let e : 9 + 4 * (q + 1) ≡ 13 + 4 * q = omega arith in
            rw e at (after_unique (ones_below s (upper_of s))
            (run_steps s (upper_of s)) (256 * (q + 1)) (be_at 4 s (9 + 4 * (q + 1))) (pointer (bits_of s) num (q + 1))
            (c.pointers_are (q + 1) (omega arith) (omega arith)) (pointer_after (q + 1) (omega arith))
            ∙ sym (pointer_reads (q + 1) (omega arith) (omega arith))))

        lower_alike : Alike s (block U xs) (lower_of s) (upper_of s)
        unfolding upper_at run_word
        lower_alike = alike_reads s (block U xs) bs bt 8 (lower_of s) (words_for (n * width_of s)) (λ k h.
            bits_words s (lower_of s) (words_for (n * width_of s)) (lower (width_of s) 0 xs) bs
            (λ i h. run_agrees s (lower_of s) (n * width_of s) (64 * words_for (n * width_of s)) c.lower_spare i h
            ∙ ap (λ (v : ℕ). bit v i) (sym low_is)) k h
            ∙ sym (block_lower U xs n (width_of s) len some refl k h))

        upper_alike : Alike s (block U xs) (upper_of s) (upper_of s + 8 * words_for (bits_of s))
        unfolding run_word
        upper_alike = alike_reads s (block U xs) bs bt 8 (upper_of s) (words_for (bits_of s)) (λ k h.
            bits_words s (upper_of s) (words_for (bits_of s)) num bs
            (λ i h. run_agrees s (upper_of s) (bits_of s) (64 * words_for (bits_of s)) c.upper_spare i h
            ∙ ap (λ (v : ℕ). bit v i) (sym number_is)) k h
            ∙ sym (block_upper U xs n (width_of s) len some refl k h))

        sound_same : s ≡ block U xs
        sound_same =
            alike_same s (block U xs) (lengths s bs f xs len)
            (rw framed_length
            (alike_append s (block U xs) 0 13 (upper_of s + 8 * words_for (bits_of s)) (block_header s bs f xs len)
            (alike_append s (block U xs) 13 (lower_of s) (upper_of s + 8 * words_for (bits_of s)) pointers_alike
            (alike_append s (block U xs) (lower_of s) (upper_of s)
            (upper_of s + 8 * words_for (bits_of s)) lower_alike upper_alike))))

      -- ---- and only those

      same_sound : rising 0 U xs ≡ true → s ≡ block U xs → Sound s (list_u s) (list_n s) (width_of s)
      same_sound r e =
          let ub : (i : ℕ) → i < 64 * words_for (bits_of s) → run_bit s (upper_of s) i ≡ bit num i =
          words_bits s (upper_of s) (words_for (bits_of s)) num
          (λ k h. ap (λ (l : List ℕ). run_word l (upper_of s) k) e ∙ block_upper U xs n (width_of s) len some refl k h) in
          let lb : (i : ℕ) → i < 64 * words_for (n * width_of s)
          → run_bit s (lower_of s) i ≡ bit (lower (width_of s) 0 xs) i =
          words_bits s (lower_of s) (words_for (n * width_of s)) (lower (width_of s) 0 xs)
          (λ k h. ap (λ (l : List ℕ). run_word l (lower_of s) k) e ∙ block_lower U xs n (width_of s) len some refl k h) in
          let us = run_spare s (upper_of s) (bits_of s) (64 * words_for (bits_of s))
          (λ i h. ub i h ∙ ap (λ (v : ℕ). bit v i) number_is) in
          record {
            ones_are = ones_whole s (upper_of s) (bits_of s) us ∙ sym count_is ∙ len;
            upper_spare = us;
            lower_spare = run_spare s (lower_of s) (n * width_of s) (64 * words_for (n * width_of s))
                (λ i h. lb i h ∙ ap (λ (v : ℕ). bit v i) low_is);
            rises = r;
            pointers_are =
                λ q g h. rw (ap (λ (l : List ℕ). be_at 4 l (9 + 4 * q)) e ∙ pointer_reads q g h) (pointer_after q h);
          }

    sound_block : Sound s (list_u s) (list_n s) (width_of s) → is_block two_runs s U (decode s) ≡ true
    unfolding is_block
    sound_block c =
        let len : length xs ≡ n = count_is ∙ sym (ones_whole s (upper_of s) (bits_of s) c.upper_spare) ∙ c.ones_are in
        rw (reads, c.rises, ← sound_same len c) (same_refl s)

    block_sound : is_block two_runs s U (decode s) ≡ true → Sound s (list_u s) (list_n s) (width_of s)
    unfolding is_block zeros
    block_sound a =
        let p = and_parts (rising 0 U xs) (same s (block U xs)) (rw reads at a) in
        let e : s ≡ block U xs = same_eq s (block U xs) p.1 in
        let z : 0 + bits_of s ≡ bits_of s = omega arith in
        let few = rw z at (ones_slow s (upper_of s) 0 (bits_of s)) in
        let len : length xs ≡ n = sym (mod-eq_of_lt
        (omega (arith, count_is, few, below_none s (upper_of s), shr_le U (width_of s), f.within, f.below)))
        ∙ sym (block_n U xs) ∙ ap list_n (sym e) in
        same_sound len p.0 e

    -- refusal 6, part by part
    pub sound_iff : (is_block two_runs s (list_u s) (decode s) ≡ true) ↔ Sound s (list_u s) (list_n s) (width_of s)
    sound_iff = (block_sound, sound_block)

  reads_none : list_n s ≡ 0 → decode s ≡ []
  reads_none z = decode_runs s (framed_form two_runs s f) ∙ ap (read_list s U) z ∙ read_none s U

  -- a block without elements has nothing left to test
  pub none_block : list_n s ≡ 0 → is_block two_runs s (list_u s) (decode s) ≡ true
  unfolding is_block rising
  none_block z =
      let e : s ≡ block U [] = alike_same s (block U []) (lengths s bs f [] (sym z))
      (rw (f.length_is ∙ ap (size U) z ∙ size_none U) (block_header s bs f [] (sym z))) in
      rw (reads_none z, ← e) (same_refl s)
