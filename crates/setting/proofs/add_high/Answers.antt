-- `add_high` takes a one in hand: in the word that is in hand, or in one behind it once the ones of that are set.
use Rattle.addlaws.proofs.AddLaws.{highs_near, highs_far}
use Rattle.setting.proofs.add_high.Goals as goal

pub returns-then-word-a : goal.returns-then-word-a
returns-then-word-a c q v d bytes l above long =
    let t = c in
    let a = t.args in
    highs_near q v a.a d a.run.now l a.place above long c.if-word-a.true

pub returns : goal.returns
returns c q v d bytes l above long =
    let k = c in
    let a = c.args in
    highs_far q v a.a d a.run.now l a.place above long k.flush.new.run k.if-word-a.false
    bytes k.flush.ensures
