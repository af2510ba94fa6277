-- `ones_ahead` takes the word where reading stands without what lies below.
use Rattle.upto.proofs.OnesLaws.{ahead_inside, ones_begin}
use Rattle.upto.proofs.ones_ahead.Goals as goal

pub run_word-requires : goal.run_word-requires
run_word-requires c =
    let b = c in
    (ahead_inside b.args.block.now b.args.g b.args.w b.requires.0 b.requires.1).1

pub returns : goal.returns
returns c =
    let b = c in
    ones_begin b.args.block.now b.args.g b.args.w b.requires.0 b.requires.1 c.run_word.result
    c.from_bit.result c.run_word.ensures c.from_bit.ensures
