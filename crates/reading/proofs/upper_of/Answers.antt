use native.Mathlib.Omega.{arith}
use Rattle.readlaws.proofs.ReadLaws.{open_reads}
use Rattle.reading.proofs.upper_of.Goals as goal

pub slice_bounds-result-count : goal.slice_bounds-result-count
slice_bounds-result-count c = let r = open_reads c.args.block.now c.args.g c.requires in omega arith

pub slice_bounds-result-start : goal.slice_bounds-result-start
slice_bounds-result-start c = let r = open_reads c.args.block.now c.args.g c.requires in omega arith

pub slice_bounds-result-end : goal.slice_bounds-result-end
slice_bounds-result-end c = let r = open_reads c.args.block.now c.args.g c.requires in omega arith
