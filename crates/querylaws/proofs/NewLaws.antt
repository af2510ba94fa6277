-- Laws of a query that no seek has moved: its readers are fresh, and it may run from any bound.
use mathlib.Core.Path.{◌≡◌, refl, ap}
use mathlib.Core.List.{List, [], ◌∷◌}
use Prim.Native.Nat.{ℕ, zero, suc, ◌+◌, ◌-◌, ◌≤◌, ◌<◌}
use native.Mathlib.Nat.{mul-le-mul_left}
use native.Mathlib.Omega.{arith}
use lib.ListN.{get_or, get_or-replicate}
use Rattle.rules.specs.Limits.{limit}
use Rattle.commonlaws.specs.Readers.{left_in}
use Rattle.commonlaws.specs.Next.{rounds_to}
use Rattle.commonlaws.proofs.SharedLaws.{from_le}
use Rattle.commonlaws.proofs.CommonLaws.{fresh_ready}
use Rattle.walklaws.specs.Cursors.{unused, rule_cursor}
use Rattle.walklaws.proofs.MoveLaws.{unused_held}
use Rattle.querylaws.specs.Lists.{form_in, pages_at, pages_in, bound_in, Lists}
use Rattle.querylaws.specs.Queries.{cursor_in, new_query, reader_at, lead_in, others_in}
use Rattle.querylaws.specs.Queries.{total, seeks_of, looks_of, Apt, Running}
use Rattle.querylaws.specs.Listings.{fresh_at, readers_in, rule_on, rule_in}
use Rattle.querylaws.proofs.SpanLaws.{span_cons, span_same}
use Rattle.querylaws.proofs.ListLaws.{list_rises, list_length}

new_cursor : (i : ℕ) → i < 8 → cursor_in new_query i ≡ unused
unfolding new_query
new_cursor i h = get_or-replicate 8 i unused unused h

pub new_seeks : seeks_of new_query ≡ 0
unfolding seeks_of total new_query unused
new_seeks = refl

pub new_looks : looks_of new_query ≡ 0
unfolding looks_of total new_query unused
new_looks = refl

module _ (s sh : List ℕ) where
  new_reader : (i : ℕ) → i < 8 → reader_at s sh new_query i ≡ fresh_at s sh i
  unfolding reader_at rule_cursor unused
  new_reader i h = rw (new_cursor i h)

  module _ (k : ℕ) (l : Lists s sh k) where
    new_apt : (b : ℕ) → Apt s sh k new_query b
    new_apt b = record {
      lists = l;
      eight = unfold new_query in refl;
      held = λ i h. rw (new_cursor i (omega (arith, l.few))) (unused_held (form_in s sh i) (bound_in sh) (pages_at s sh i));
      ready = λ i h. rw (new_reader i (omega (arith, l.few)))
          (fresh_ready (form_in s sh i) (bound_in sh) b (pages_at s sh i) (list_rises s sh i (l.each i h)));
    }

    pub new_running : (b : ℕ) → Running s sh k new_query b
    new_running b =
        let few : left_in b (lead_in s sh new_query) ≤ limit = rw (new_reader 0 (omega arith))
        (omega (arith, from_le b (pages_at s sh 0), list_length s sh 0 (l.each 0 l.some))) in record {
          apt = new_apt b;
          seeks = omega (arith, new_seeks, mul-le-mul_left k few, l.few);
          looks = omega (arith, new_looks);
        }

    pub first_list : get_or (pages_in s sh k) 0 [] ≡ pages_at s sh 0
    unfolding pages_in
    first_list =
        let z : k - 0 ≡ k = omega arith in
        ap (λ (ls : List (List ℕ)). get_or ls 0 []) (rw z at (span_cons (pages_at s sh) 0 k l.some))

    -- the rule on its readers is the rule on the lists
    pub new_rule : (b n : ℕ)
        → rounds_to (bound_in sh) (lead_in s sh new_query) (others_in s sh k new_query) b n ≡ rule_in s sh k b n
    new_rule b n =
        let z : k - 0 ≡ k = omega arith in
        let e = rw z at (span_cons (fresh_at s sh) 0 k l.some) in
        let o = span_same (reader_at s sh new_query) (fresh_at s sh) (k - 1) 1
        (λ j g h. new_reader j (omega (arith, l.few, l.some))) in
        rw (new_reader 0 (omega arith), o) (unfold readers_in rule_on in rw e)
