use Rattle.std.proofs.Common.{◌≡◌, ◌+◌, ◌*◌, ◌++◌}
use Rattle.serial_run.specs.TransformedValues.{elements_at}
use Rattle.serial_run.proofs.transformed_columns.add_steps.Given as goal

-- the elements so far, and the place of the next one
abbrev pub invariant-loop : goal.invariant-loop
invariant-loop l = record {
  made : l.values.items ≡ l.fn.values.items ++ elements_at l.elements (λ t. l.first + l.step * t) 0 l.counter;
  at : l.place ≡ l.first + l.step * l.counter;
}
