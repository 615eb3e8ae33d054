use Rattle.std.proofs.Common.{◌≡◌, ◌++◌, take}
use Rattle.axis_walks.specs.Rows.{rows}
use Rattle.axis_walks.proofs.rows.push_rows.Given as goal

abbrev pub invariant-loop-number : goal.invariant-loop-number
invariant-loop-number l = l.tuples.items ≡ l.initial.tuples.items ++ rows l.extent (take l.number-index l.after) l.places
