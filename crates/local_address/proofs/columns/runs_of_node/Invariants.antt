use Rattle.std.proofs.Common.{◌≡◌, get_or, map, take, []}
use Rattle.local_address.specs.Runs.{run_of}
use Rattle.local_address.proofs.columns.runs_of_node.Given as goal

abbrev pub invariant-loop-column : goal.invariant-loop-column
invariant-loop-column l = l.runs.items ≡ map (λ column. get_or column l.node (run_of [])) (take l.column-index l.columns)
