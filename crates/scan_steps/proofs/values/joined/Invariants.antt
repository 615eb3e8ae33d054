use Rattle.std.proofs.Common.{◌≡◌, Some, drop, map}
use Rattle.std.specs.List.{fold}
use Rattle.machine_steps.specs.Node.{join_all, join_options}
use Rattle.op_tables.specs.Joins.{join}
use Rattle.scan_steps.proofs.values.joined.Given as goal

-- with what is left it is what all of them come to
abbrev pub invariant-loop-value : goal.invariant-loop-value
invariant-loop-value l = fold (join_options (join l.op)) l.so_far.value (map Some (drop l.value-index l.values)) ≡ join_all (join l.op) l.values
