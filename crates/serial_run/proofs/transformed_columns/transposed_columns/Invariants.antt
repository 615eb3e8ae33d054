use Rattle.std.proofs.Common.{◌≡◌, ◌*◌, [], ◌∷◌}
use Rattle.array_meaning.specs.Transformations.{transposed_place}
use Rattle.serial_run.specs.TransformedValues.{elements_at}
use Rattle.serial_run.proofs.transformed_columns.transposed_columns.Given as goal

-- the elements of the columns so far
abbrev pub invariant-loop-column : goal.invariant-loop-column
invariant-loop-column l = l.values.items ≡ elements_at l.elements (transposed_place (l.m ∷ l.n ∷ [])) 0 (l.column * l.m)
