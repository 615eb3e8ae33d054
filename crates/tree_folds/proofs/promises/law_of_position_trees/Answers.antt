use Rattle.machine_steps.specs.Node.{is_after, positioned_values, values_positioned}
use Rattle.reduction_tree.specs.LastJoins.{values_join}
use Rattle.reduction_tree.specs.LastOrder.{last_order}
use Rattle.tree_folds.proofs.Picked.{keys-up, keys-down}
use Rattle.tree_folds.proofs.Positions.{places-joined, positions-back}
use Rattle.tree_folds.proofs.promises.law_of_position_trees.Goals as goal
use Rattle.tree_folds.specs.Places.{HaveOwnPositions, placed}

pub returns-clause-up : goal.returns-clause-up
returns-clause-up c nodes items own some = keys-up is_after nodes items positioned_values values_positioned positions-back last_order values_join placed HaveOwnPositions
    places-joined own some

pub returns-clause-down : goal.returns-clause-down
returns-clause-down c nodes items own p lt = keys-down is_after nodes items positioned_values values_positioned positions-back last_order values_join placed HaveOwnPositions
    places-joined own p lt
