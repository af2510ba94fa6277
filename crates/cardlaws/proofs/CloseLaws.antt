-- Laws of closing an index:
-- the header is laid before the terms that lie in the buffer, and a finished index stays as it is.
use mathlib.Core.Bool.{true}
use mathlib.Core.Path.{◌≡◌, sym, ap, ◌∙◌}
use mathlib.Core.List.{List, ◌++◌}
use Prim.Native.Nat.{ℕ, ◌+◌, ◌-◌, ◌≤◌}
use native.Mathlib.Omega.{arith}
use lib.ListN.{length, get_or, take, drop, length-append, length-drop}
use lib.Seq.{take-append-add, take-add, take_at, take-take, drop_at, length-take-le}
use Rattle.rules.specs.Verdict.{Accepted}
use Rattle.rules.specs.Bytes.{Bytes}
use Rattle.rules.specs.Limits.{last_edition, up_to, index_header}
use Rattle.rules.specs.ReadList.{stated}
use Rattle.rules.specs.Write.{laid}
use Rattle.rules.specs.Index.{index_front, index_v, index_n, index_t, close_refusal, close_index}
use Rattle.laws.proofs.ByteLaws.{bytes_take}
use Rattle.laws.proofs.PartLaws.{stated_lt}
use Rattle.laws.proofs.RefusalLaws.{true_accepted}
use Rattle.laws.proofs.RoomLaws.{drop_laid, length_laid, laid_same}
use Rattle.cardlaws.specs.Cards.{Passed, Closable, Closed}
use Rattle.cardlaws.proofs.FrontLaws.{length_front, drop_front, front_version}
use Rattle.cardlaws.proofs.FrontLaws.{front_stated, front_N, front_T, front_again}
use Rattle.cardlaws.proofs.PassedLaws.{passed_accepted, closable_accepted}

-- ---- the first n bytes of room in which the bytes a are laid

pub drop_take : (m n : ℕ) (l : List ℕ) → m ≤ length l → take n (drop m l) ≡ drop m (take (m + n) l)
drop_take m n l h = sym (rw (take-add m n l) (drop_at (take m l) (take n (drop m l)) m (length-take-le m l h)))

take_laid_more : (n : ℕ) (a room : List ℕ) → length a ≤ n → length a ≤ length room
    → take n (laid a room) ≡ a ++ drop (length a) (take n room)
unfolding laid
take_laid_more n a room h g =
    let e : length a + (n - length a) ≡ n = omega arith in
    let t = take-append-add a (drop (length a) room) (n - length a) in
    rw e at (t ∙ ap (λ (l : List ℕ). a ++ l) (drop_take (length a) (n - length a) room g))

-- ---- closing

module _ (buffer : List ℕ) (used ver N T : ℕ) (c : Closable buffer used ver N T) where
  abbrev front : List ℕ
  front = index_front used ver N T

  abbrev rest : List ℕ
  rest = drop index_header (take used buffer)

  pub closed_made : close_index buffer used ver N T ≡ record {
    refusal = Accepted;
    size = used;
    room = laid (index_front used ver N T) buffer;
  }
  unfolding close_index
  closed_made = rw (true_accepted (close_refusal buffer used ver N T) (closable_accepted buffer used ver N T c))

  closed_bytes : take used (close_index buffer used ver N T).room ≡ front ++ rest
  closed_bytes =
      let l : length front ≡ index_header = length_front used ver N T in
      rw closed_made
      (rw l at (take_laid_more used front buffer (omega (arith, l, c.header)) (omega (arith, l, c.header, c.fits))))

  closed_length : length (front ++ rest) ≡ used
  closed_length = rw (length-append, length_front used ver N T, length-drop, length-take-le used buffer c.fits)
      (omega (arith, c.header))

  known_here : up_to last_edition (get_or (front ++ rest) 4 0) ≡ true
  unfolding index_v
  known_here = rw (front_version used ver N T rest) c.known

  closed_passed : Passed (front ++ rest)
  closed_passed = record {
    head = record {
      header = omega (arith, closed_length, c.header);
      states = front_stated used ver N T rest c.short ∙ sym closed_length;
      known = known_here;
    };
    within = rw (front_N used ver N T rest c.within) c.within;
    few = rw (front_T used ver N T rest c.few) c.few;
    terms_pass = rw (front_version used ver N T rest, front_N used ver N T rest c.within, front_T used ver N T rest c.few, drop_front used ver N T rest)
        c.terms_pass;
  }

  pub closed_is : Closed buffer used ver N T
  closed_is = record {
    accepts = rw closed_bytes (passed_accepted (front ++ rest) closed_passed);
    V-is = rw closed_bytes (front_version used ver N T rest);
    N-is = rw closed_bytes (front_N used ver N T rest c.within);
    T-is = rw closed_bytes (front_T used ver N T rest c.few);
    same_terms = rw closed_bytes (drop_front used ver N T rest);
    others_same = rw closed_made (rw (length_front used ver N T) at (drop_laid front buffer));
    length_same = rw closed_made (length_laid front buffer (omega (arith, length_front used ver N T, c.header, c.fits)));
  }

-- ---- closing a finished index

module _ (buffer : List ℕ) (used : ℕ) (b : Bytes buffer) (fits : used ≤ length buffer)
    (p : Passed (take used buffer)) where
  abbrev s : List ℕ
  s = take used buffer

  s_length : length s ≡ used
  s_length = length-take-le used buffer fits

  s_stated : stated s ≡ used
  s_stated = p.head.states ∙ s_length

  pub finished_closable : Closable buffer used (index_v (take used buffer)) (index_n (take used buffer)) (index_t (take used buffer))
  unfolding index_v
  finished_closable = record {
    fits = fits;
    header = rw s_length at p.head.header;
    known = p.head.known;
    short = rw s_stated at (stated_lt s (bytes_take used buffer b));
    within = p.within;
    few = p.few;
    terms_pass = p.terms_pass;
  }

  front_same : index_front used (index_v s) (index_n s) (index_t s) ≡ take index_header buffer
  front_same =
      let f : List ℕ = index_front used (index_v s) (index_n s) (index_t s) in
      let e = rw s_stated at (front_again s (bytes_take used buffer b) p.head.header) in
      sym (take_at f (drop index_header s) index_header (length_front used (index_v s) (index_n s) (index_t s)))
      ∙ ap (take index_header) (sym e) ∙ take-take index_header used buffer (rw s_length at p.head.header)

  pub finished_same : close_index buffer used (index_v (take used buffer)) (index_n (take used buffer)) (index_t (take used buffer)) ≡ record {
    refusal = Accepted;
    size = used;
    room = buffer;
  }
  finished_same =
      closed_made buffer used (index_v s) (index_n s) (index_t s) finished_closable
      ∙ ap (λ (r : List ℕ). record { refusal = Accepted; size = used; room = r })
      (laid_same index_header buffer (index_front used (index_v s) (index_n s) (index_t s))
      (length_front used (index_v s) (index_n s) (index_t s)) front_same)
