use Rattle.std.proofs.Common.{◌≡◌, ◌*◌}
use Rattle.serial_run.specs.TransformedValues.{elements_at, turned_place}
use Rattle.serial_run.proofs.transformed_columns.turned_columns.Given as goal

-- the elements of the columns so far
abbrev pub invariant-loop-column : goal.invariant-loop-column
invariant-loop-column l = l.values.items ≡ elements_at l.elements (turned_place l.n l.turn) 0 (l.column * l.n)
