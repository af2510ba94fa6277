-- `known` tells whether the version is one from 1 to the last.
use mathlib.Core.Path.{sym}
use native.Mathlib.Omega.{arith}
use borrow.Author.Tests.{le-leb}
use Rattle.rules.specs.Limits.{last_edition, up_to}
use Rattle.laws.proofs.HeadLaws.{up_to_below}
use Rattle.parts.proofs.known.Goals as goal

pub returns-then-version-eq0 : goal.returns-then-version-eq0
returns-then-version-eq0 c = sym (up_to_below last_edition c.args.version (omega (arith, c.if-version-eq0.true)))

pub returns : goal.returns
unfolding up_to
returns c = rw (le-leb 1 c.args.version (omega (arith, c.if-version-eq0.false)))
