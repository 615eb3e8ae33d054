use Rattle.std.proofs.Common.{◌≡◌, drop}
use Rattle.std.specs.List.{fold}
use Rattle.op_tables.specs.Joins.{join, unit}
use Rattle.whole_machine.proofs.folds.join_all.Given as goal

-- with what is left it is what all of them come to
abbrev pub invariant-loop-value : goal.invariant-loop-value
invariant-loop-value l = fold (join l.op) l.so_far.value (drop l.value-index l.values) ≡ fold (join l.op) (unit l.op) l.values
