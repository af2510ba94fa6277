-- The theorems of one word's block, each in a sentence.
use mathlib.Core.Bool.{cond, not}
use mathlib.Core.Logic.{◌↔◌}
use mathlib.Core.Path.{◌≡◌, refl, sym, ap, ◌∙◌}
use mathlib.Core.List.{List}
use Prim.Native.Nat.{ℕ, ◌≤◌}
use borrow.Author.Tests.{le-ltb, ltb-false, not-false}
use lib.Dec.{ltb, lit<}
use lib.ListN.{length, take}
use Rattle.rules.specs.Verdict.{Accepted, Version, Limit, Lists}
use Rattle.rules.specs.Bytes.{Bytes}
use Rattle.rules.specs.Limits.{limit, last_edition, up_to}
use Rattle.rules.specs.ReadList.{list_u}
use Rattle.rules.specs.Write.{Made, refused, stored}
use Rattle.rules.specs.Term.{Word, next, places, valid_word, term_block, write_term}
use Rattle.rules.specs.ReadTerm.{pages_of, read_word, term_refusal}
use Rattle.laws.proofs.RoomLaws.{success, take_laid, drop_laid, made_passed, stored_fits, fits_stored}
use Rattle.termlaws.specs.Words.{Writable, Sizes, ListsPass, Written}
use Rattle.termlaws.proofs.BlockLaws.{term_short, term_header_lem, term_whole, term_accepted, term_N, term_read}
use Rattle.termlaws.proofs.ReadLaws.{read_writable, read_block, lists_pass}

-- The block of a writable word is accepted.
pub block_accepted : (v N : ℕ) (t : Word) → Writable v N t → term_refusal v (term_block v N t) ≡ Accepted
block_accepted v N t w = term_accepted v N t w

-- It has a header and no more bytes than four bytes can state, and states its own length.
pub block_sizes : (v N : ℕ) (t : Word) → Writable v N t → Sizes (term_block v N t)
block_sizes v N t w = record { header = term_header_lem v N t w; short = term_short v N t w; states = (term_whole v N t w).states }

-- A block is that of one writable word alone: its bytes tell N and the word.
pub block_tells : (s : List ℕ) (v N : ℕ) (t : Word) → Writable v N t → s ≡ term_block v N t
    → (N ≡ list_u (pages_of s)) × (t ≡ read_word s)
block_tells s v N t w e = (
  sym (ap (λ (b : List ℕ). list_u (pages_of b)) e ∙ term_N v N t w),
  sym (ap read_word e ∙ term_read v N t w),
)

-- Two writable words with one block are one.
pub block_unique : (v z N M : ℕ) (t u : Word) → Writable v N t → Writable z M u → term_block v N t ≡ term_block z M u
    → (N ≡ M) × (t ≡ u)
block_unique v z N M t u w x e =
    let a = block_tells (term_block v N t) v N t w refl in
    let b = block_tells (term_block v N t) z M u x e in
    (a.0 ∙ sym b.0, a.1 ∙ sym b.1)

-- The word that is read of accepted bytes is writable.
pub accepted_writable : (v : ℕ) (s : List ℕ) → term_refusal v s ≡ Accepted → Writable v (list_u (pages_of s)) (read_word s)
accepted_writable v s a = read_writable v s a

-- Accepted bytes are the block of the word that is read of them.
pub accepted_block : (v : ℕ) (s : List ℕ) → Bytes s → term_refusal v s ≡ Accepted
    → s ≡ term_block v (list_u (pages_of s)) (read_word s)
accepted_block v s b a = read_block v s a b

-- Accepted are the blocks of writable words, and nothing else.
pub accepted_iff : (v : ℕ) (s : List ℕ) → Bytes s
    → (term_refusal v s ≡ Accepted) ↔ ((N : ℕ) × (t : Word) × Writable v N t × (s ≡ term_block v N t))
accepted_iff v s b = (
  λ a. (list_u (pages_of s), read_word s, accepted_writable v s a, accepted_block v s b a),
  λ p. ap (term_refusal v) p.3 ∙ block_accepted v p.0 p.1 p.2,
)

-- The three lists of an accepted term are accepted lists, and lie in it one after the other.
pub accepted_lists : (v : ℕ) (s : List ℕ) → term_refusal v s ≡ Accepted → ListsPass v s
accepted_lists v s a = lists_pass v s a

-- ---- the writer

-- What the writer asks is enough: the room then begins with the block.
pub writes : (v N : ℕ) (t : Word) (room : List ℕ) → Writable v N t → length (term_block v N t) ≤ length room
    → write_term v N t room ≡ success (term_block v N t) room
unfolding write_term
writes v N t room w h = rw (w.known, le-ltb limit N w.within, w.valid, le-ltb limit (next 0 (places t)) w.reach)
    (stored_fits (term_block v N t) room h)

-- A success has written the block of a writable word, which is accepted and read back.
pub written : (v N : ℕ) (t : Word) (room : List ℕ) → (write_term v N t room).refusal ≡ Accepted → Written v N t room
unfolding write_term
written v N t room e =
    let m3 : Made = stored (term_block v N t) room in
    let m2 : Made = cond (ltb limit (next 0 (places t))) (refused Limit room) m3 in
    let m1 : Made = cond (not (valid_word N t)) (refused Lists room) m2 in
    let m0 : Made = cond (ltb limit N) (refused Limit room) m1 in
    let k = made_passed (not (up_to last_edition v)) Version room m0 (lit< tt) e in
    let a = made_passed (ltb limit N) Limit room m1 (lit< tt) k.1 in
    let b = made_passed (not (valid_word N t)) Lists room m2 (lit< tt) a.1 in
    let c = made_passed (ltb limit (next 0 (places t))) Limit room m3 (lit< tt) b.1 in
    let w : Writable v N t = record {
      known = not-false (up_to last_edition v) k.0;
      valid = not-false (valid_word N t) b.0;
      within = ltb-false limit N a.0;
      reach = ltb-false limit (next 0 (places t)) c.0;
    } in
    let f = fits_stored (term_block v N t) room c.1 in
    let m : write_term v N t room ≡ success (term_block v N t) room = writes v N t room w f in
    let front_is : take (write_term v N t room).size (write_term v N t room).room ≡ term_block v N t =
    rw m (take_laid (term_block v N t) room) in
    record {
      writable = w;
      fits = f;
      front = front_is;
      past = rw m (drop_laid (term_block v N t) room);
      accepts = rw front_is (block_accepted v N t w);
      reads = rw front_is (term_read v N t w);
    }

-- Writing what was read of accepted bytes gives the same bytes.
pub write_again : (v : ℕ) (s : List ℕ) → Bytes s → term_refusal v s ≡ Accepted → (room : List ℕ) → length s ≤ length room
    → write_term v (list_u (pages_of s)) (read_word s) room ≡ success s room
write_again v s b a room h =
    let e = accepted_block v s b a in
    let m : length (term_block v (list_u (pages_of s)) (read_word s)) ≤ length room = rw (← e) h in
    writes v (list_u (pages_of s)) (read_word s) room (accepted_writable v s a) m ∙ ap (λ (t : List ℕ). success t room) (sym e)
