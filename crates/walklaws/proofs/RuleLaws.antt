-- The step rule's seek case by case, as a search ends, in either form: it stays, is spent with no look, or has walked
-- from its start.
use mathlib.Core.Bool.{true}
use mathlib.Core.Path.{◌≡◌, refl, sym, ap, ◌∙◌}
use mathlib.Core.Logic.{◌⊎◌, inl, inr}
use mathlib.Core.List.{List}
use Prim.Native.Nat.{ℕ, ◌+◌, ◌-◌, ◌/◌, ◌≤◌, ◌<◌}
use native.Mathlib.Decide.{ℕ_discrete}
use native.Mathlib.Omega.{arith}
use lib.ListN.{length, get_or}
use Rattle.rules.specs.Limits.{limit}
use Rattle.rules.specs.Runs.{words_for}
use Rattle.rules.specs.List.{rising, Form}
use Rattle.rules.specs.ReadList.{list_u, decode}
use Rattle.rules.specs.Seek.{Cursor as Placing, fresh, on, spent, Sought, place_of, bits_of, upper_words, cursor_bit}
use Rattle.rules.specs.Seek.{start_of, looks_to, gone, arrived, seek}
use Rattle.shape.specs.declared.Shape.{Shape}
use Rattle.seeklaws.specs.Cursors.{first_at, cursor_at, Moves}
use Rattle.seeklaws.proofs.FirstLaws.{first_at_le, first_at_at}
use Rattle.seeklaws.proofs.JumpLaws.{start_ahead}
use Rattle.seeklaws.proofs.SeekLaws.{cursor_at_spent, cursor_at_on}
use Rattle.seeklaws.proofs.ArmLaws.{seek_stays, seek_spent, seek_empty, seek_past, seek_end, seek_none, seek_finds}
use Rattle.walklaws.specs.declared.Cursor.{Cursor}
use Rattle.walklaws.specs.declared.Landing.{Landing}
use Rattle.walklaws.specs.Cursors.{spent_mark, mark_of, rule_cursor, Held, Moving, start_in, landing, looks_for}
use Rattle.walklaws.specs.Walks.{last_word, landing_word, Landed}
use Rattle.walklaws.proofs.CursorLaws.{held_rule, held_floor}
use Rattle.walklaws.proofs.OpenLaws.{Stored}
use Rattle.walklaws.proofs.LandLaws.{last_on, last_none}

landing_ext : (r t : Landing) → r.mark ≡ t.mark → r.bit ≡ t.bit → r ≡ t
landing_ext r t m b =
    let made : ℕ → ℕ → Landing = λ i j. record { mark = i; bit = j } in
    let e : made r.mark r.bit ≡ made t.mark t.bit = rw (m, b) in
    e

-- a cursor behind b moves, or is spent
moves : (xs : List ℕ) (a : Placing) (b : ℕ) → mark_of xs a ≤ b → Moves xs a b ⊎ (a ≡ spent)
unfolding mark_of
moves xs fresh b l = inl tt
moves xs (on i) b l = inl (omega arith)
moves xs spent b l = inr refl

seek_nothing : (f : Form) (U : ℕ) (xs : List ℕ) (a : Placing) (b : ℕ) → mark_of xs a ≤ b → (length xs ≡ 0) ⊎ (U ≤ b)
    → seek f U xs a b ≡ gone xs 0
seek_nothing f U xs a b l h =
    elim (moves xs a b l) [
      | inr e ↦ rw e (seek_spent f U xs b)
      | inl m ↦
          elim (ℕ_discrete (length xs) 0) [
            | yes e ↦ seek_empty f U xs a b m e
            | no e ↦ elim h [ inl z ↦ absurd (e z) | inr u ↦ seek_past f U xs a b m u (omega arith) ]
          ]
    ]

-- ---- where a search ends

-- a search that ended at r, on which the looks i became j, is the rule's
abbrev pub Ends : Form → ℕ → List ℕ → Cursor → ℕ → Landing → ℕ → ℕ → Type 0
Ends f U xs c b r i j = (r ≡ landing f U xs c b) × (j ≡ i + looks_for f U xs c b)

-- the end where nothing is found
abbrev pub Nowhere : Landing → Type 0
Nowhere r = (r.mark ≡ spent_mark) × (r.bit ≡ 0)

module _ (f : Form) (U : ℕ) (xs : List ℕ)
    (rises : rising 0 U xs ≡ true) (within : U ≤ limit) (c : Cursor) (h : Held f U xs c) (b : ℕ) where
  landing_is : (a : Sought) → seek f U xs h.place b ≡ a → (r : Landing) (i j : ℕ) → r.mark ≡ mark_of xs a.cursor
      → r.bit ≡ cursor_bit f U xs a.cursor → j ≡ i + a.looks → Ends f U xs c b r i j
  unfolding landing looks_for
  landing_is a e r i j m p l =
      let d : seek f U xs (rule_cursor f U xs c) b ≡ a = rw (held_rule f U xs rises within c h) e in
      (landing_ext r (landing f U xs c b) (rw d m) (rw d p), l ∙ ap (λ (k : Sought). i + k.looks) (sym d))

  landing_gone : (r : Landing) (i : ℕ) → seek f U xs h.place b ≡ gone xs 0 → Nowhere r → Ends f U xs c b r i i
  unfolding gone mark_of cursor_bit
  landing_gone r i e n = landing_is (gone xs 0) e r i i n.0 n.1 (omega arith)

  -- a cursor stays that is spent, or on an element at or above b
  landing_stays : b < c.mark → (r : Landing) (i : ℕ) → r.mark ≡ c.mark → r.bit ≡ c.bit → Ends f U xs c b r i i
  unfolding mark_of cursor_bit arrived
  landing_stays ahead r i m p = at h.place refl
    where
      at : (a : Placing) → h.place ≡ a → Ends f U xs c b r i i
      at fresh e = absurd (omega (arith, h.mark_is, ap (mark_of xs) e))
      at spent e = landing_gone r i (rw e (seek_spent f U xs b))
          (m ∙ h.mark_is ∙ ap (mark_of xs) e, p ∙ h.bit_is ∙ ap (cursor_bit f U xs) e)
      at (on j) e =
          let l : b ≤ get_or xs j 0 = omega (arith, h.mark_is, ap (mark_of xs) e) in
          landing_is (arrived xs j 0) (rw e (seek_stays f U xs j b l)) r i i (m ∙ h.mark_is ∙ ap (mark_of xs) e)
          (p ∙ h.bit_is ∙ ap (cursor_bit f U xs) e) (omega arith)

  module _ (ahead : c.mark ≤ b) where
    behind : mark_of xs h.place ≤ b
    behind = rw h.mark_is at ahead

    landing_none : (r : Landing) (i : ℕ) → (length xs ≡ 0) ⊎ (U ≤ b) → Nowhere r → Ends f U xs c b r i i
    landing_none r i n = landing_gone r i (seek_nothing f U xs h.place b behind n)

    module _ (below : b < U) (some : 0 < length xs) where
      abbrev start : ℕ
      start = start_of f U xs h.place b

      start_is : start_of f U xs (rule_cursor f U xs c) b ≡ start
      start_is = ap (λ (a : Placing). start_of f U xs a b) (held_rule f U xs rises within c h)

      goes : Moves xs h.place b
      unfolding mark_of
      goes = elim (moves xs h.place b behind) [ inl m ↦ m | inr e ↦ absurd (omega (arith, rw e at behind)) ]

      landing_end : (r : Landing) (i : ℕ) → start_of f U xs (rule_cursor f U xs c) b ≡ bits_of f U xs → Nowhere r
          → Ends f U xs c b r i i
      landing_end r i e = landing_gone r i (seek_end f U xs h.place b goes some below (sym start_is ∙ e))

      -- the walk ends at the first element at least b, or at the run's last word
      landing_walked : (r : Landing) (before after : ℕ) → start_of f U xs (rule_cursor f U xs c) b < bits_of f U xs
          → r.mark ≡ mark_of xs (cursor_at xs (first_at b xs)) → r.bit ≡ cursor_bit f U xs (cursor_at xs (first_at b xs))
          → after + start_of f U xs (rule_cursor f U xs c) b / 64 ≡ before + 1 + last_word f U xs (first_at b xs)
          → Ends f U xs c b r before after
      unfolding gone arrived looks_to upper_words words_for
      landing_walked r before after l m p n =
          let i : ℕ = first_at b xs in
          let inside : start < bits_of f U xs = rw start_is at l in
          let ahead_of_lem =
          start_ahead f U xs rises h.place b h.placed (held_floor f U xs rises within c h b ahead below) in
          elim (ℕ_discrete i (length xs)) [
            | yes e ↦
                landing_is (gone xs (looks_to start (bits_of f U xs - 1)))
                (seek_none f U xs h.place b goes some below rises h.placed inside e) r before after
                (rw (cursor_at_spent xs i e) at m) (rw (cursor_at_spent xs i e) at p)
                (omega (arith, rw (start_is, last_none f U xs i e) at n))
            | no e ↦
                let q : i < length xs = omega (arith, first_at_le b xs, e) in
                landing_is (arrived xs i (looks_to start (place_of f U xs i)))
                (seek_finds f U xs h.place b goes some below rises h.placed inside i refl q) r before after
                (rw (cursor_at_on xs i q) at m) (rw (cursor_at_on xs i q) at p)
                (omega (arith, rw (start_is, last_on f U xs i q) at n, ahead_of_lem i q (first_at_at b xs q)))
          ]

-- ---- the same of a block s of shape g, as a search reads it

module _ (f : Form) (s : List ℕ) (g : Shape) (t : Stored f s g)
    (c : Cursor) (h : Held f (list_u s) (decode s) c) (b : ℕ) where
  abbrev Over : Landing → ℕ → ℕ → Type 0
  Over = Ends f (list_u s) (decode s) c b

  pub ends_stays : b < c.mark → (r : Landing) (i : ℕ) → r.mark ≡ c.mark → r.bit ≡ c.bit → Over r i i
  ends_stays = landing_stays f (list_u s) (decode s) t.rises t.within c h b

  pub ends_none : (r : Landing) (i : ℕ) → c.mark ≤ b → (g.n ≡ 0) ⊎ (g.u ≤ b) → Nowhere r → Over r i i
  ends_none r i a e n =
      landing_none f (list_u s) (decode s) t.rises t.within c h b a r i
      (elim e [ inl z ↦ inl (t.long ∙ z) | inr z ↦ inr (omega (arith, t.u_is)) ]) n

  module _ (m : Moving f s c b) where
    some : 0 < g.n
    some = omega (arith, m.some, t.n_is)

    long : 0 < length (decode s)
    long = omega (arith, some, t.long)

    pub ends_at_end : (r : Landing) (i : ℕ) → start_in f s c b ≡ g.bits → Nowhere r → Over r i i
    ends_at_end r i e =
        landing_end f (list_u s) (decode s) t.rises t.within c h b m.ahead m.below long r i
        (e ∙ sym (t.bits_is some))

    pub ends_walked : (r : Landing) (before after : ℕ) → start_in f s c b < g.bits → Landed f s b r
        → after + start_in f s c b / 64 ≡ before + 1 + landing_word f s b → Over r before after
    ends_walked r before after l d n =
        landing_walked f (list_u s) (decode s) t.rises t.within c h b m.ahead m.below long r before after
        (omega (arith, l, t.bits_is some)) d.mark_is d.bit_is n
