-- What the writers and closing make, by document 01's definitions, and what a host is told of it: a refusal keeps the
-- room.
use mathlib.Core.Bool.{Bool, true, false, cond, not}
use mathlib.Core.Path.{◌≡◌, refl, sym, ap, ◌∙◌}
use mathlib.Core.List.{List}
use Prim.Native.Nat.{ℕ, ◌≤◌}
use native.Mathlib.Omega.{arith}
use borrow.Author.Tests.{le-ltb, ltb-false, not-false}
use lib.Dec.{ltb, lit<}
use lib.ListN.{length}
use Rattle.std.specs.Prelude.{Ok, Err}
use Rattle.rules.specs.declared.Refusal.TheVariants as Named
use Rattle.rules.specs.Verdict.{Verdict}
use Rattle.rules.specs.Verdict.{Accepted, Version, Limit}
use Rattle.rules.specs.Verdict.{Room, Lists}
use Rattle.rules.specs.Limits.{limit, last_edition, up_to}
use Rattle.rules.specs.Refusal.{number, accepted}
use Rattle.rules.specs.List.{rising, valid_list, block}
use Rattle.rules.specs.Write.{Made, refused, laid, stored, write_list}
use Rattle.rules.specs.Term.{Word, next, places, valid_word, term_block, write_term}
use Rattle.rules.specs.Index.{close_refusal, close_index}
use Rattle.laws.proofs.RefusalLaws.{number_inj, accepted_true, true_accepted}
use Rattle.laws.proofs.HeadLaws.{up_to_parts, up_to_known}
use Rattle.laws.proofs.RoomLaws.{success, made_passed, stored_fits, fits_stored}
use Rattle.listlaws.proofs.ValidLaws.{valid_from, valid_parts}
use Rattle.termlaws.specs.Words.{Writable}
use Rattle.cardlaws.proofs.ClosingLaws.{close_told}
use Rattle.telling.specs.declared.HostWritten.{HostWritten}
use Rattle.telling.specs.Told.{Told, told, told_of}
use Rattle.demands.specs.Asking.{Known, ValidWord}

-- ---- numbers of refusal

pub number_le : (r : Verdict) → number r ≤ 10
number_le (Ok _) = omega arith
number_le (Err Named.Short) = omega arith
number_le (Err Named.Length) = omega arith
number_le (Err Named.Version) = omega arith
number_le (Err Named.Limit) = omega arith
number_le (Err Named.Layout) = omega arith
number_le (Err Named.Runs) = omega arith
number_le (Err Named.Parts) = omega arith
number_le (Err Named.Question) = omega arith
number_le (Err Named.Room) = omega arith
number_le (Err Named.Lists) = omega arith

-- ---- refused

-- a result that refuses has written nothing
abbrev Keeps : List ℕ → Made → Type 0
Keeps room m = (m.refusal ≡ Accepted → ⊥) → (m.room ≡ room) × (m.size ≡ 0)

keeps_refused : (room : List ℕ) (r : Verdict) → Keeps room (refused r room)
keeps_refused room r n = (refl, refl)

keeps_cond : (room : List ℕ) (b : Bool) (m k : Made) → Keeps room m → Keeps room k → Keeps room (cond b m k)
keeps_cond room true m k e f = e
keeps_cond room false m k e f = f

keeps_stored : (room b : List ℕ) → Keeps room (stored b room)
unfolding stored
keeps_stored room b =
    keeps_cond room (ltb (length room) (length b)) (refused Room room) (success b room)
    (keeps_refused room Room) (λ n. absurd (n refl))

pub list_keeps : (U : ℕ) (xs room : List ℕ) → Keeps room (write_list U xs room)
unfolding write_list
list_keeps U xs room =
    keeps_cond room (ltb limit U) _ _ (keeps_refused room Limit)
    (keeps_cond room (not (rising 0 U xs)) _ _ (keeps_refused room Lists) (keeps_stored room (block U xs)))

pub term_keeps : (v N : ℕ) (t : Word) (room : List ℕ) → Keeps room (write_term v N t room)
unfolding write_term
term_keeps v N t room =
    keeps_cond room (not (up_to last_edition v)) _ _ (keeps_refused room Version)
    (keeps_cond room (ltb limit N) _ _ (keeps_refused room Limit)
    (keeps_cond room (not (valid_word N t)) _ _ (keeps_refused room Lists)
    (keeps_cond room (ltb limit (next 0 (places t))) _ _
    (keeps_refused room Limit) (keeps_stored room (term_block v N t)))))

pub close_keeps : (buffer : List ℕ) (used v N T : ℕ) → Keeps buffer (close_index buffer used v N T)
unfolding close_index
close_keeps buffer used v N T =
    keeps_cond buffer (accepted (close_refusal buffer used v N T)) _ _
    (λ n. absurd (n refl)) (keeps_refused buffer (close_refusal buffer used v N T))

-- closing gives its refusal
pub close_gives : (buffer : List ℕ) (used v N T : ℕ)
    → (close_index buffer used v N T).refusal ≡ close_refusal buffer used v N T
unfolding close_index
close_gives buffer used v N T = go (accepted (close_refusal buffer used v N T)) refl
  where
    go : (b : Bool) → accepted (close_refusal buffer used v N T) ≡ b
        → (close_index buffer used v N T).refusal ≡ close_refusal buffer used v N T
    go true e = rw e (sym (accepted_true (close_refusal buffer used v N T) e))
    go false e = rw e

-- ---- written

-- closing reports the used length
pub close_size : (buffer : List ℕ) (used v N T : ℕ) → (close_index buffer used v N T).refusal ≡ Accepted
    → (close_index buffer used v N T).size ≡ used
unfolding close_index
close_size buffer used v N T e =
    let c = close_refusal buffer used v N T in
    rw (true_accepted c (close_told buffer used v N T e))

-- a valid list that fits, and nothing else, is written
module _ (U : ℕ) (xs room : List ℕ) where
  pub list_writes : valid_list U xs ≡ true → length (block U xs) ≤ length room
      → write_list U xs room ≡ success (block U xs) room
  unfolding write_list
  list_writes v h =
      let p = valid_parts U xs v in
      rw (le-ltb limit U p.0, p.1) (stored_fits (block U xs) room h)

  pub list_wrote : (write_list U xs room).refusal ≡ Accepted
      → (valid_list U xs ≡ true) × (length (block U xs) ≤ length room)
  unfolding write_list
  list_wrote e =
      let m : Made = cond (not (rising 0 U xs)) (refused Lists room) (stored (block U xs) room) in
      let a = made_passed (ltb limit U) Limit room m (lit< tt) e in
      let b = made_passed (not (rising 0 U xs)) Lists room (stored (block U xs) room) (lit< tt) a.1 in (
        valid_from U xs (ltb-false limit U a.0) (not-false (rising 0 U xs) b.0),
        fits_stored (block U xs) room b.1,
      )

-- a word that may be written, as termlaws has it
pub to_writable : (v N : ℕ) (t : Word) → Known v → ValidWord N t → Writable v N t
to_writable v N t k w = record {
  known = up_to_known last_edition v k.0 k.1;
  valid = w.0;
  within = w.1;
  reach = w.2;
}

pub from_writable : (v N : ℕ) (t : Word) → Writable v N t → Known v × ValidWord N t
from_writable v N t w = (up_to_parts last_edition v w.known, (w.valid, w.within, w.reach))

-- ---- what a host is told of it

module _ (m : Made) (r : HostWritten) (after : List ℕ) (p : told_of r after ≡ told m) where
  pub is_refusal : r.refusal ≡ number m.refusal
  is_refusal = ap (λ (t : Told). t.refusal) p

  pub told_accepts : r.refusal ≡ 0 → m.refusal ≡ Accepted
  told_accepts z = number_inj m.refusal Accepted (sym is_refusal ∙ z)

  pub accepts_told : m.refusal ≡ Accepted → r.refusal ≡ 0
  accepts_told a = is_refusal ∙ ap number a

  pub told_refused : (room : List ℕ) → Keeps room m
      → (r.refusal ≤ 10) × ((r.refusal ≡ 0 → ⊥) → (after ≡ room) × (r.length ≡ 0))
  told_refused room k = (
    rw is_refusal (number_le m.refusal),
    λ n.
        let e = k (λ a. n (accepts_told a)) in
        (ap (λ (t : Told). t.room) p ∙ e.0, ap (λ (t : Told). t.length) p ∙ e.1),
  )

  pub told_success : (b room : List ℕ) → m ≡ success b room → (after ≡ laid b room) × (r.length ≡ length b)
  told_success b room e = (
    ap (λ (t : Told). t.room) p ∙ ap (λ (k : Made). k.room) e,
    ap (λ (t : Told). t.length) p ∙ ap (λ (k : Made). k.size) e,
  )
