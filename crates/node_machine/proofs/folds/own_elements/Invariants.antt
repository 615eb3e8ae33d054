use Rattle.std.proofs.Common.{◌≡◌}
use Rattle.op_tables.specs.Joins.{join}
use Rattle.node_machine.specs.Folds.{own_elements}
use Rattle.node_machine.proofs.folds.own_elements.Given as goal

-- the first elements, joined
abbrev pub invariant-loop-at : goal.invariant-loop-at
invariant-loop-at l = l.fold.value ≡ own_elements l.owners.layouts l.id l.pieces l.owners.nodes (join l.op) l.copy l.at
