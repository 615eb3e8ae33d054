use Rattle.std.proofs.Common.{◌≡◌}
use Rattle.tree_steps.specs.Positions.{positions}
use Rattle.node_machine.specs.Folds.{last_set}
use Rattle.node_machine.proofs.last_values.last_set.Given as goal

-- the last one of the first elements
abbrev pub invariant-loop-at : goal.invariant-loop-at
invariant-loop-at l = positions l.last.value ≡ last_set l.owners.layouts l.id l.pieces l.owners.nodes l.copy l.set l.at
