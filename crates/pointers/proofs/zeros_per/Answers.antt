use Rattle.rules.specs.List.{bitmap}
use Rattle.listlaws.proofs.RefusalLaws.{version_form}
use Rattle.readlaws.proofs.FormLaws.{other_version}
use Rattle.pointers.proofs.zeros_per.Goals as goal

pub returns-then-block-eq-MAP_VERSION : goal.returns-then-block-eq-MAP_VERSION
returns-then-block-eq-MAP_VERSION c = rw (version_form bitmap c.args.block.now c.if-block-eq-MAP_VERSION.true)

pub returns : goal.returns
returns c = rw (other_version c.args.block.now c.if-block-eq-MAP_VERSION.false)
