-- `Query::new` makes eight cursors that no seek has moved.
use Rattle.querylaws.specs.Queries.{new_query}
use Rattle.querylaws.proofs.Query.new.Goals as goal

pub returns : goal.returns
unfolding new_query
returns c = rw c.new-cursor.ensures
