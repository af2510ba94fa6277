-- A run of questions, answer by answer: how it starts, goes on with an answer that fits, stops before one that does not, and ends.
use mathlib.Core.Bool.{cond}
use mathlib.Core.Path.{◌≡◌, refl, sym, ap, ◌∙◌}
use mathlib.Core.List.{List, [], ◌∷◌, ◌++◌, append_assoc}
use Prim.Native.Nat.{ℕ, suc, ◌+◌, ◌-◌, ◌≤◌, ◌<◌}
use native.Mathlib.Omega.{arith}
use borrow.Author.Tests.{le-leb, lt-leb, lt-ltb}
use lib.Dec.{ltb, leb-suc-suc}
use lib.ListN.{length, take, drop, length-append, length-take, length-drop, take-append-drop}
use lib.Seq.{take_at, drop_at, drop-drop}
use Rattle.rules.specs.Verdict.{Verdict}
use Rattle.rules.specs.Verdict.{Accepted, Room}
use Rattle.rules.specs.Write.{laid}
use Rattle.rules.specs.Ask.{fitting, fitted, joined, put}
use Rattle.replies.specs.Running.{outcome, halted, running}

-- two outcomes are one where their parts are
same_outcome : (r q : Verdict) (n m u v : ℕ) (s t : List ℕ) → r ≡ q → n ≡ m → u ≡ v → s ≡ t → outcome r n u s
    ≡ outcome q m v t
same_outcome r q n m u v s t a b c d = cc

pub run_start : (given : List (List ℕ)) (room : List ℕ) → running 0 0 given room ≡ put (fitted (length room) given) room
unfolding running halted put fitted
run_start given room =
    let l : length room - 0 ≡ length room = omega arith in
    rw l (same_outcome _ _ _ _ _ _ _ _ refl (omega arith) (omega arith) refl)

-- nothing more is put
halt_none : (n u m : ℕ) (room : List ℕ) → halted n u m [] (take u room) (drop u room)
    ≡ outcome (cond (ltb 0 m) Room Accepted) n u room
unfolding halted joined laid
halt_none n u m room = same_outcome _ _ _ _ _ _ _ _ refl (omega arith) (omega arith) (take-append-drop u room)

pub run_end : (n u : ℕ) (room : List ℕ) → running n u [] room ≡ outcome Accepted n u room
unfolding running fitting
run_end n u room = halt_none n u 0 room

module _ (n u : ℕ) (a : List ℕ) (rest : List (List ℕ)) (room : List ℕ) where
  pub run_stop : length room - u < length a → running n u (a ∷ rest) room ≡ outcome Room n u room
  unfolding running fitting
  run_stop h = rw (lt-leb (length a) (length room - u) h, fitting)
      (halt_none n u (suc (length rest)) room ∙ rw (lt-ltb 0 (suc (length rest)) (omega arith)))

  -- one answer more in front of those that are put
  halt_cons : (m : ℕ) (fs : List (List ℕ)) (front back : List ℕ)
      → halted (n + 1) (u + length a) m fs (front ++ a) (drop (length a) back) ≡ halted n u (suc m) (a ∷ fs) front back
  unfolding halted joined laid
  halt_cons m fs front back =
      let l = length-append a (joined fs) in
      let j = joined fs in
      let d : drop (length j) (drop (length a) back) ≡ drop (length (a ++ j)) back =
      drop-drop (length j) (length a) back ∙ ap (λ (k : ℕ). drop k back) (sym l) in
      same_outcome _ _ _ _ _ _ _ _
      (ap (λ b. cond b Room Accepted) (sym (leb-suc-suc (suc (length fs)) m)))
      (omega arith)
      (omega arith)
      (rw (d, append_assoc, append_assoc))

  pub run_on : u + length a ≤ length room → running (n + 1) (u + length a) rest (take u room ++ laid a (drop u room))
      ≡ running n u (a ∷ rest) room
  unfolding running fitting laid
  run_on h =
      let front = take u room ++ a in
      let back = drop (length a) (drop u room) in
      let e : take u room ++ (a ++ back) ≡ front ++ back = sym (append_assoc (take u room) a back) in
      let t = length-take u room in
      let k = length-append (take u room) a in
      let l : length front ≡ u + length a = omega arith in
      let b = length-append front back in
      let d = length-drop (length a) (drop u room) in
      let d' = length-drop u room in
      let m : length (front ++ back) - (u + length a) ≡ length room - u - length a = omega arith in
      rw (
        e,
        take_at front back (u + length a) l,
        drop_at front back (u + length a) l,
        m,
        le-leb (length a)
            (length room - u) (omega arith),
        fitting,
      )
      (halt_cons (length rest) (fitting (length room - u - length a) rest) (take u room) (drop u room))
