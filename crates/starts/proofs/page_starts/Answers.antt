-- `page_starts` takes a word's positions where it is alone, else counts the starts of the words.
use mathlib.Core.Path.{◌≡◌, sym, ap, ◌∙◌}
use mathlib.Core.List.{List}
use Prim.Native.Nat.{ℕ, ◌-◌, ◌≤◌, ◌<◌}
use native.Mathlib.Omega.{arith}
use lib.ListN.{length, length-drop}
use Rattle.openlists.specs.Places.{slot_of}
use Rattle.walklaws.specs.Cursors.{unused}
use Rattle.querylaws.specs.Ranks.{rank_by}
use Rattle.triallaws.specs.Asked.{pages_in, lead_in, offsets_in, CountedOn}
use Rattle.triallaws.proofs.RankLaws.{slot_within, asked_rank, rank_ready}
use Rattle.triallaws.proofs.PageLaws.{lone_counted}
use Rattle.starts.proofs.page_starts.Lts
use Rattle.starts.proofs.page_starts.Reads
use Rattle.starts.proofs.page_starts.Tie
use Rattle.starts.proofs.page_starts.Goals as goal

abbrev Then-terms-eq1 : Type 0
Then-terms-eq1 = Lts.Then1 Tie.the-claims Reads.Pre Reads.Post

abbrev Start : Type 0
Start = Lts.Start Tie.the-claims Reads.Pre Reads.Post

abbrev After-rank_in-rank : Type 0
After-rank_in-rank = Lts.After-rank_in Tie.the-claims Reads.Pre Reads.Post

abbrev After-ranks_at-x : Type 0
After-ranks_at-x = Lts.After-ranks_at Tie.the-claims Reads.Pre Reads.Post

abbrev start : Then-terms-eq1 → Start
start c = c.before.before.before.before.before

-- a word alone leads
leads : (c : Then-terms-eq1) → slot_of (lead_in c.args.lists.now) 0 ≡ 0
leads c =
    let a = c.requires.0.asked in
    omega (arith, slot_within _ _ _ _ _ _ a 0 a.pages.lists.some, c.if-terms-eq1.true)

pub rank_in-rank-requires : goal.rank_in-rank-requires
unfolding unused
rank_in-rank-requires c =
    let t = c in
    let b = t in
    let a = b.requires.0.asked in
    let h = a.pages.lists.some in
    let r = asked_rank _ _ _ _ _ _ a 0 h _ _ b.requires.1 in
    rw (leads t.before.before.before.before) at r.on_element

-- the rank that was read
ranked : (c : After-rank_in-rank)
    → let a = c.args in
    c.rank_in-rank.result
    ≡ rank_by a.card.now (pages_in a.lists.now) a.turn.q (slot_of (lead_in a.lists.now) 0)
unfolding unused
ranked c =
    let t = c in
    let a = t.args in
    c.rank_in-rank.ensures ∙ ap (rank_by a.card.now (pages_in a.lists.now) a.turn.q) (sym (leads t.before.before.before.before))

pub ranks_at-x-requires : goal.ranks_at-x-requires
ranks_at-x-requires c =
    let p = c.requires in
    let a = p.0.asked in
    let h = a.pages.lists.some in
    let r = rank_ready _ _ _ _ _ _ a _ _ p.1 0 h _ p.2.room (p.2.each 0 h) in
    rw (ranked c.before.before.before) r

-- what the page's ranks count
counted : (c : After-ranks_at-x)
    → let b = c in
    let x = c.ranks_at-x.result in
    (x.from ≤ x.to)
    × CountedOn b.args.card.now b.args.terms.now b.args.lists.now (b.args.turn.mark - 1)
    (x.to - x.from) c.ranks_at-x.new.words
counted c =
    let t = c in
    let b = t in
    let p = b.requires in
    let ds : List ℕ = offsets_in b.args.lists.now in
    let some : 0 < length ds = omega (arith, length-drop 193 b.args.lists.now, p.0.row) in
    let e = rw (ranked c.before.before.before) at c.ranks_at-x.ensures in
    let r =
    lone_counted _ _ _ _ _ _ p.0.asked ds some p.0.first _ _ p.1 t.if-terms-eq1.true _ p.2
    c.ranks_at-x.result e.0 _ e.1 in
    (r.0, (r.1, r.2, r.3))

pub overflow_sub-result : goal.overflow_sub-result
overflow_sub-result c = (counted c.before.before.before.before).0

pub returns-then-terms-eq1 : goal.returns-then-terms-eq1
returns-then-terms-eq1 c = (counted c.before.before.before.before).1
