-- `check_rest` looks whether the last list ends the block, and then at the lists as parts of the block.
use mathlib.Core.Bool.{Bool, cond}
use mathlib.Core.Path.{◌≡◌, sym, ap, ◌∙◌}
use lib.Dec.{lit<}
use Rattle.rules.specs.Verdict.{Accepted, Parts}
use Rattle.rules.specs.Parts.{after, part}
use Rattle.rules.specs.ReadTerm.{lists_of, disagree}
use Rattle.listlaws.proofs.RefusalLaws.{part_framed}
use Rattle.parts.proofs.PlaceLaws.{after_held, part_front}
use Rattle.checkterm.specs.Lists.{rest_refusal}
use Rattle.checkterm.proofs.ListsLaws.{runs_in, lists_walk, disagree_parts, rest_more, rest_none}
use Rattle.checkterm.proofs.check_rest.Lts
use Rattle.checkterm.proofs.check_rest.Reads
use Rattle.checkterm.proofs.check_rest.Tie
use Rattle.checkterm.proofs.check_rest.Goals as goal

abbrev After-part_at-positions : Type 0
After-part_at-positions = Lts.After-part_at Tie.the-claims Reads.Pre Reads.Post

abbrev After-disagree : Type 0
After-disagree = Lts.After-disagree Tie.the-claims Reads.Pre Reads.Post

pub part_at-positions-requires : goal.part_at-positions-requires
part_at-positions-requires c =
    let b = c in
    rw c.blocks_from-rest.ensures
    (after_held 5 2 b.args.block.now (lists_walk b.args.version b.args.block.now b.requires 2 (lit< tt)))

-- the last list, and the bytes from it on
last : (c : After-part_at-positions) →
    let s = c.args.block.now in
    (c.part_at-positions.result.now ≡ part 2 (lists_of s)) × (c.blocks_from-rest.result.now ≡ after 2 (lists_of s))
unfolding lists_of
last c =
    let e = c.blocks_from-rest.ensures in
    (rw e at c.part_at-positions.ensures ∙ part_front 2 (lists_of c.args.block.now), e)

pub returns-then-positions-rest : goal.returns-then-positions-rest
returns-then-positions-rest c =
    let l = last c.before.before in
    sym (rest_more c.args.block.now (rw (l.0, l.1) at c.if-positions-rest.true))

pub disagree-requires : goal.disagree-requires
unfolding lists_of
disagree-requires c =
    let p = c in
    let b = p in (
      rw c.block_of-pages.ensures
          (part_framed b.args.version (part 0 (lists_of b.args.block.now)) (b.requires 0 (lit< tt)).accepts).0.header,
      rw c.block_of-counts.ensures (runs_in b.args.version b.args.block.now b.requires 0 (lit< tt)),
      rw (last p.before.before.before.before).0 (runs_in b.args.version b.args.block.now b.requires 1 (lit< tt)),
    )

-- what is left to tell
rest_at : (c : After-disagree)
    → rest_refusal c.args.block.now
    ≡ cond c.disagree.result Parts Accepted
rest_at c =
    let q = c in
    let p = q in
    let s = p.args.block.now in
    let l = last p.before.before.before.before in
    rest_none s (rw (l.0, l.1) at q.if-positions-rest.false)
    ∙ ap (λ (b : Bool). cond b Parts Accepted)
    (sym (c.disagree.ensures ∙ disagree_parts s q.block_of-pages.result.now q.block_of-counts.result.now
    p.part_at-positions.result.now q.block_of-pages.ensures q.block_of-counts.ensures (unfold lists_of in l.0)))

pub returns-then-disagree : goal.returns-then-disagree
returns-then-disagree c = sym (rest_at c.before.before ∙ ap (λ (b : Bool). cond b Parts Accepted) c.if-disagree.true)

pub returns : goal.returns
returns c = sym (rest_at c.before.before ∙ ap (λ (b : Bool). cond b Parts Accepted) c.if-disagree.false)

pub blocks_from-rest-requires : goal.blocks_from-rest-requires
blocks_from-rest-requires c = lists_walk c.args.version c.args.block.now c.requires 2 (lit< tt)

pub block_of-pages-requires : goal.block_of-pages-requires
block_of-pages-requires c = lists_walk c.args.version c.args.block.now
    c.requires 0 (lit< tt)

pub block_of-counts-requires : goal.block_of-counts-requires
block_of-counts-requires c = lists_walk c.args.version
    c.args.block.now
    c.requires 1 (lit< tt)
