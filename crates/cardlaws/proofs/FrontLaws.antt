-- Laws of the header of an index: read back from what begins with it, and told by the bytes of an index.
use mathlib.Core.Path.{◌≡◌, refl, sym, ap, ap₂, ◌∙◌}
use mathlib.Core.List.{List, [], ◌∷◌, ◌++◌, append_assoc}
use Prim.Native.Nat.{ℕ, ◌+◌, ◌≤◌, ◌<◌}
use native.Mathlib.Nat.{mod-eq_of_lt}
use native.Mathlib.Omega.{arith}
use lib.ListN.{length, get_or, drop, length-append}
use lib.Seq.{drop-cons, drop_at, get_or-append-add}
use Rattle.rules.specs.Limits.{limit, term_limit, index_header, four_bytes}
use Rattle.rules.specs.Bytes.{Bytes, be, be_at}
use Rattle.rules.specs.ReadList.{stated}
use Rattle.rules.specs.Index.{index_front, index_v, index_n, index_t}
use Rattle.laws.proofs.ByteLaws.{length_be, read_be, be_at_past, drop_read}

module _ (size ver N T : ℕ) where
  pub length_front : length (index_front size ver N T) ≡ index_header
  unfolding index_front
  length_front = rw (length-append, length-append, length_be, length_be, length_be)

  module _ (x : List ℕ) where
    -- the header's fields and what follows, one after the other
    abbrev fields : List ℕ
    fields = be 4 size ++ (ver ∷ (be 4 N ++ (be 2 T ++ x)))

    front_fields : index_front size ver N T ++ x ≡ fields
    unfolding index_front
    front_fields =
        append_assoc (be 4 size) (ver ∷ (be 4 N ++ be 2 T)) x
        ∙ ap (λ (l : List ℕ). be 4 size ++ (ver ∷ l)) (append_assoc (be 4 N) (be 2 T) x)

    pub drop_front : drop index_header (index_front size ver N T ++ x) ≡ x
    drop_front = drop_at (index_front size ver N T) x index_header length_front

    pub front_version : index_v (index_front size ver N T ++ x) ≡ ver
    unfolding index_v
    front_version =
        rw (front_fields) (rw length_be at (get_or-append-add (be 4 size) (ver ∷ (be 4 N ++ (be 2 T ++ x))) 0 0))

    pub front_stated : size < four_bytes → stated (index_front size ver N T ++ x) ≡ size
    unfolding stated
    front_stated h = rw front_fields (read_be 4 size (ver ∷ (be 4 N ++ (be 2 T ++ x))) ∙ mod-eq_of_lt h)

    -- past the length and the version
    past_five : (k o : ℕ) → be_at k fields (5 + o) ≡ be_at k (be 4 N ++ (be 2 T ++ x)) o
    past_five k o =
        let e : 5 + o ≡ 4 + (1 + o) = omega arith in
        rw e (be_at_past k 4 (be 4 size) (ver ∷ (be 4 N ++ (be 2 T ++ x))) (1 + o) (length_be 4 size)
        ∙ be_at_past k 1 (ver ∷ []) (be 4 N ++ (be 2 T ++ x)) o refl)

    pub front_N : N ≤ limit → index_n (index_front size ver N T ++ x) ≡ N
    unfolding index_n
    front_N h = rw front_fields (past_five 4 0 ∙ read_be 4 N (be 2 T ++ x) ∙ mod-eq_of_lt (omega arith))

    pub front_T : T ≤ term_limit → index_t (index_front size ver N T ++ x) ≡ T
    unfolding index_t
    front_T h = rw front_fields (past_five 2 4 ∙ be_at_past 2 4 (be 4 N) (be 2 T ++ x) 0 (length_be 4 N) ∙ read_be 2 T x
        ∙ mod-eq_of_lt (omega arith))

-- bytes are their header, read, and what follows
pub front_again : (s : List ℕ) → Bytes s → index_header ≤ length s
    → s ≡ index_front (stated s) (index_v s) (index_n s) (index_t s) ++ drop index_header s
unfolding index_v index_n index_t stated
front_again s b h =
    sym (front_fields (be_at 4 s 0) (get_or s 4 0) (be_at 4 s 5) (be_at 2 s 9) (drop index_header s)
    ∙ sym (drop_read 4 0 s b (omega arith) ∙ ap (λ (l : List ℕ). be 4 (be_at 4 s 0) ++ l)
    (drop-cons s 4 0 (omega arith) ∙ ap (λ (l : List ℕ). get_or s 4 0 ∷ l)
    (drop_read 4 5 s b (omega arith) ∙ ap (λ (l : List ℕ). be 4 (be_at 4 s 5) ++ l) (drop_read 2 9 s b (omega arith))))))
