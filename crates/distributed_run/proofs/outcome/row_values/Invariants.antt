use Rattle.std.proofs.Common.{◌≡◌, map}
use Rattle.std.specs.List.{range_with_len}
use Rattle.distributed_run.specs.Values.{value_of}
use Rattle.distributed_run.proofs.outcome.row_values.Given as goal

abbrev pub invariant-loop-at : goal.invariant-loop-at
invariant-loop-at l = l.values.items ≡ map (λ at. value_of l.owners.layouts l.last (record { row = l.row; at = at })) (range_with_len 0 l.at)
