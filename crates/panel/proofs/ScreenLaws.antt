-- The call: a law for each way through its tests.
use mathlib.Core.Bool.{Bool, true, false, cond, true≢false, false≢true}
use mathlib.Core.Path.{◌≡◌, refl, sym, ap, ◌∙◌}
use mathlib.Core.List.{List, [], ◌∷◌}
use Prim.Native.Nat.{ℕ, ◌+◌, ◌-◌, ◌≤◌, ◌<◌}
use native.Mathlib.Omega.{arith}
use borrow.Author.Tests.{lt-ltb, le-ltb, leb-true, le-leb, lt-leb, eq-eqb, ne_eqb}
use lib.ListN.{length, take, get_or}
use Rattle.rules.specs.Verdict.{Verdict}
use Rattle.std.specs.Prelude.{Result, Ok, Err, Option, Some, None, is_some}
use Rattle.std.specs.Result.{IsErr, IsErrAnd}
use Rattle.std.specs.Option.{unwrap_or}
use Rattle.rules.specs.declared.Refusal.{Refusal}
use Rattle.rules.specs.Verdict.{Accepted, Question, Room}
use Rattle.rules.specs.declared.Screened.{Screened}
use Rattle.rules.specs.Refusal.{accepted}
use Rattle.rules.specs.Limits.{screen_limit}
use Rattle.rules.specs.Write.{laid}
use Rattle.rules.specs.Index.{index_v, index_n, index_t, index_refusal}
use Rattle.rules.specs.Questions.{lists_in, words_good}
use Rattle.rules.specs.Screen.{screen_good, screen_pages, screen_counts, is_full, screening, unshown, showing, screen}
use Rattle.laws.proofs.RefusalLaws.{refusal_told}
use Rattle.listlaws.proofs.RisingLaws.{and_parts}
use Rattle.questions.specs.Wrote.{Wrote}
use Rattle.panel.specs.Listing.{Shows}

-- ---- r and the words

module _ (T r : ℕ) (ts : List ℕ) where
  pub good_none : r < 1 → screen_good T r ts ≡ false
  unfolding screen_good
  good_none h = rw (lt-leb 1 r h)

  pub good_over : 1 ≤ r → screen_limit < r → screen_good T r ts ≡ false
  unfolding screen_good
  good_over l h = rw (le-leb 1 r l, lt-leb r screen_limit h)

  pub good_words : 1 ≤ r → r ≤ screen_limit → screen_good T r ts ≡ words_good T ts
  unfolding screen_good
  good_words l h = rw (le-leb 1 r l, le-leb r screen_limit h)

  pub good_parts : screen_good T r ts ≡ true → (1 ≤ r) × (r ≤ screen_limit) × (words_good T ts ≡ true)
  unfolding screen_good
  good_parts g =
      let p = and_parts _ _ g in
      let q = and_parts _ _ p.1 in
      (leb-true 1 r p.0, leb-true r screen_limit q.0, q.1)

-- ---- the card, then r and the words

module _ (s : List ℕ) (b n : ℕ) (ts pages counts : List ℕ) where
  -- what a `?` makes of the card's verdict
  pub screen_card : (r : Verdict) (e : Refusal) (out : Result Screened Refusal) → r ≡ index_refusal s → r ≡ Err e
      → IsErr out × IsErrAnd out (λ d. d ≡ e) → screening out pages counts ≡ screen s b n ts pages counts
  unfolding screen unshown
  screen_card r e (Ok _) is was h = absurd h.1
  screen_card r e (Err d) is was h =
      let t = sym is ∙ was in
      let f : accepted (index_refusal s) ≡ false = ap accepted t ∙ refusal_told e in
      rw (f, t, h.1)

  module _ (a : accepted (index_refusal s) ≡ true) where
    pub screen_question : screen_good (index_t s) n ts ≡ false
        → unshown Question pages counts ≡ screen s b n ts pages counts
    unfolding screen
    screen_question g = rw (a, g)

    pub screen_good_lem : screen_good (index_t s) n ts ≡ true
        → showing n (screen_pages b n (lists_in s ts)) (screen_counts (index_v s) (index_n s) b n (lists_in s ts)) pages
        counts
        ≡ screen s b n ts pages counts
    unfolding screen
    screen_good_lem g = rw (a, g)

-- ---- the bound of the next screen

full_by : (b : Bool) (z : ℕ) (o : Option ℕ) → o ≡ cond b (Some z) None → ◌≡◌ {A = ℕ} (cond (is_some o) 1 0) (cond b 1 0)
full_by true z o e = rw e
full_by false z o e = rw e

next_by : (b : Bool) (z : ℕ) (o : Option ℕ) → o ≡ cond b (Some z) None → unwrap_or o 0 ≡ cond b z 0
next_by true z o e = rw e
next_by false z o e = rw e

-- ---- the rooms

module _ (n : ℕ) (ps cs pages counts : List ℕ) where
  pub short_pages : length pages < length ps → unshown Room pages counts ≡ showing n ps cs pages counts
  unfolding showing
  short_pages h = rw (lt-ltb (length pages) (length ps) h)

  module _ (h : length ps ≤ length pages) where
    pub short_counts : length counts < length cs → unshown Room pages counts ≡ showing n ps cs pages counts
    unfolding showing
    short_counts l = rw (le-ltb (length pages) (length ps) h, lt-ltb (length counts) (length cs) l)

    pub both_fit : length cs ≤ length counts → (x : Screened) → Shows n ps x → (pages' counts' : List ℕ)
        → pages' ≡ laid ps pages → counts' ≡ laid cs counts
        → screening (Ok x) pages' counts' ≡ showing n ps cs pages counts
    unfolding showing
    both_fit l x y pages' counts' e f =
        let behind = get_or ps (n - 1) 0 + 1 in
        rw (le-ltb (length pages) (length ps) h, le-ltb (length counts) (length cs) l)
        (λ i. record {
          refusal = Accepted;
          found = y.found i;
          full = full_by (is_full n ps) behind x.next y.next i;
          next = next_by (is_full n ps) behind x.next y.next i;
          pages = e i;
          counts = f i;
        })

-- an answer that was not put did not fit, and one that was did
pub wrote_none : (a room after : List ℕ) (r : Option ℕ) → is_some r ≡ false → Wrote a room r after
    → (length room < length a) × (after ≡ room)
wrote_none a room after None e w = w
wrote_none a room after (Some n) e w = absurd (true≢false e)

pub wrote_whole : (a room after : List ℕ) (r : Option ℕ) → is_some r ≡ true → Wrote a room r after
    → (length a ≤ length room) × (after ≡ laid a room)
wrote_whole a room after None e w = absurd (false≢true e)
wrote_whole a room after (Some n) e w = (omega (arith, w.0, w.1), w.2)

-- the first n numbers of a list, put into room enough for them
pub wrote_front : (n : ℕ) (list room : List ℕ) (r : Option ℕ) (after : List ℕ) → length (take n list) ≤ length room
    → Wrote (take (n - 0) list) room r after → after ≡ laid (take n list) room
wrote_front n list room None after h x =
    let z : n - 0 ≡ n = omega arith in
    absurd (omega (arith, h, (rw z at x).0))
wrote_front n list room (Some r) after h x =
    let z : n - 0 ≡ n = omega arith in
    (rw z at x).2

-- ---- whether it is full

module _ (n : ℕ) (ps : List ℕ) where
  pub not_full : length ps < n → is_full n ps ≡ false
  unfolding is_full
  not_full h = ne_eqb (length ps) n (λ e. omega (arith, h, e))

  pub just_full : length ps ≡ n → is_full n ps ≡ true
  unfolding is_full
  just_full e = eq-eqb (length ps) n e
