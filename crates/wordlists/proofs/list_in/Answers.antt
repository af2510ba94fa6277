-- `list_in` takes the term as a part of the card, and the list as a part of the term.
use mathlib.Core.Path.{◌≡◌, sym, ap, ◌∙◌}
use mathlib.Core.List.{List}
use Prim.Native.Nat.{ℕ, ◌+◌, ◌-◌, ◌≤◌}
use native.Mathlib.Omega.{arith}
use lib.ListN.{length}
use Rattle.rules.specs.Parts.{part}
use Rattle.rules.specs.ReadTerm.{lists_of}
use Rattle.rules.specs.Index.{index_v}
use Rattle.cardlaws.proofs.Theorems.{accepted_term}
use Rattle.parts.specs.Places.{Walkable}
use Rattle.parts.proofs.PlaceLaws.{after_held, part_front}
use Rattle.findlaws.specs.Starts.{Accepts}
use Rattle.findlaws.proofs.FindLaws.{term_walks, start_held, start_part}
use Rattle.wordlists.specs.Lying.{list_of, Lying}
use Rattle.wordlists.proofs.LyingLaws.{rest_within, list_lies}
use Rattle.wordlists.proofs.list_in.Lts
use Rattle.wordlists.proofs.list_in.Reads
use Rattle.wordlists.proofs.list_in.Tie
use Rattle.wordlists.proofs.list_in.Goals as goal

abbrev After-term_at-term : Type 0
After-term_at-term = Lts.After-term_at Tie.the-claims Reads.Pre Reads.Post

abbrev After-part_at-list : Type 0
After-part_at-list = Lts.After-part_at Tie.the-claims Reads.Pre Reads.Post

-- the term is an accepted one, whose lists can be walked
accepted : (c : After-term_at-term) → Accepts c.term_at-term.result.now
accepted c =
    let b = c in
    let t = b.requires.1.number in
    let o = b.requires.1.starts in
    rw (c.term_at-term.ensures t o) (record {
      version = index_v b.args.card.now;
      accepted = (accepted_term b.args.card.now b.requires.0 t o.below).accepts;
    })

walks : (c : After-term_at-term) → Walkable 5 c.args.k c.term_at-term.result.now
walks c =
    let b = c in
    term_walks c.term_at-term.result.now (accepted c) b.args.k b.requires.2

pub part_at-list-requires : goal.part_at-list-requires
unfolding lists_of
part_at-list-requires c =
    let t = c in
    rw c.lists_from-rest.ensures (after_held 5 t.args.k t.term_at-term.result.now (walks t.before.before))

is_list : (c : After-part_at-list) →
    let t = c in
    c.part_at-list.result.now ≡ part t.args.k (lists_of t.term_at-term.result.now)
is_list c =
    let t = c in
    rw c.lists_from-rest.ensures at c.part_at-list.ensures
    ∙ part_front t.args.k (lists_of t.term_at-term.result.now)

-- what is left of the term lies in it, and its list in the card
within : (c : After-part_at-list) →
    let t = c in
    let b = t in
    let from = b.args.at + (length t.term_at-term.result.now - length c.lists_from-rest.result.now) in
    (length c.lists_from-rest.result.now ≤ length t.term_at-term.result.now)
    × Lying b.args.card.now c.part_at-list.result.now from (from + length c.part_at-list.result.now)
within c =
    let t = c in
    let b = t in
    let s = b.args.card.now in
    let n = b.requires.1.number in
    let o = b.requires.1.starts in
    let held = start_held s n b.args.at b.requires.0 o in
    let is-term = t.term_at-term.ensures n o ∙ sym (start_part s b.args.at n o) in
    let e = is_list c in
    let w = walks t.before.before in (
      omega (
        arith,
        rest_within s b.args.at b.args.k t.term_at-term.result.now c.lists_from-rest.result.now
            c.part_at-list.result.now held is-term w c.lists_from-rest.ensures e,
      ),
      list_lies s b.args.at b.args.k t.term_at-term.result.now c.lists_from-rest.result.now
          c.part_at-list.result.now held is-term w c.lists_from-rest.ensures e,
    )

pub returns : goal.returns
unfolding list_of
returns c t o =
    let a = c.args in
    let e = is_list c.before ∙ ap (λ (b : List ℕ). part a.k (lists_of b)) (c.term_at-term.ensures t o) in
    rw (← e) (within c.before).1

pub lists_from-rest-requires : goal.lists_from-rest-requires
lists_from-rest-requires c = (accepted c.before, c.requires.2)

pub overflow_sub-from : goal.overflow_sub-from
overflow_sub-from c = (within c.before).0

pub overflow_add-from : goal.overflow_add-from
overflow_add-from c = omega (arith, (within c.before).1.ends)

pub overflow_add-result : goal.overflow_add-result
overflow_add-result c = omega (arith, (within c.before).1.ends)
