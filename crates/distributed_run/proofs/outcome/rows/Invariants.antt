use Rattle.std.proofs.Common.{◌≡◌, map}
use Rattle.std.specs.List.{range_with_len}
use Rattle.distributed_run.specs.Values.{row_values}
use Rattle.distributed_run.proofs.outcome.rows.Given as goal

abbrev pub invariant-loop-row : goal.invariant-loop-row
invariant-loop-row l = map (λ a. a.items) l.rows.items ≡ map (row_values l.owners.layouts l.last) (range_with_len 0 l.row)
