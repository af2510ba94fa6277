-- `one_of_byte` reads the table at the byte and j.
use Rattle.std.proofs.Common.{◌≡◌, ◌+◌, ◌*◌, get_or, arith}
use Rattle.fields.specs.Words.{place_of_one}
use Rattle.fields.proofs.WordLaws.{place_le}
use Rattle.selection.proofs.one_of_byte.Lts
use Rattle.selection.proofs.one_of_byte.Reads
use Rattle.selection.proofs.one_of_byte.Goals as goal

abbrev Start : Type 0
Start = Lts.Start Reads.Pre Reads.Post

-- what the table has there
entry : (c : Start) → let a = c.args in get_or a.table.now.rows (a.b * 8 + a.j) 0 ≡ place_of_one 8 a.b a.j
entry c = c.args.table.now.places c.args.b c.args.j (omega arith) (omega arith)

pub overflow_cast-result-3 : goal.overflow_cast-result-3
overflow_cast-result-3 c =
    let a = c.args in
    record { fits = omega (arith, entry c.before.before.before, place_le 8 a.b a.j) }

pub returns : goal.returns
returns c = entry c.before.before.before
