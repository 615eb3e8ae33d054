use Rattle.std.proofs.Common.{◌≡◌}
use Rattle.owner_tables.specs.Columns.{weight}
use Rattle.owner_tables.proofs.columns.weight.Given as goal

abbrev pub invariant-loop-faster : goal.invariant-loop-faster
invariant-loop-faster l = l.weight ≡ weight l.grid l.faster
