use Rattle.machine_steps.specs.Machine.{is_before}
use Rattle.machine_steps.specs.Node.{kept_values, values_kept}
use Rattle.code_meaning.specs.FaultValues.{fault_values}
use Rattle.reduction_tree.specs.FaultJoins.{faults_join}
use Rattle.reduction_tree.specs.FaultOrder.{fault_order}
use Rattle.tree_folds.proofs.Faults.{faults-back, keys-joined}
use Rattle.tree_folds.proofs.Picked.{held-item, keys-up, keys-down}
use Rattle.tree_folds.proofs.promises.law_of_fault_trees.Goals as goal
use Rattle.tree_folds.specs.FaultKeys.{HaveOwnKeys, fault_key}

pub returns-clause-held : goal.returns-clause-held
returns-clause-held c nodes items k p lt = held-item is_before nodes items (kept_values fault_values) (values_kept fault_values) faults-back k p lt

pub returns-clause-up : goal.returns-clause-up
returns-clause-up c number nodes items own some = keys-up is_before nodes items (kept_values fault_values) (values_kept fault_values) faults-back fault_order
    faults_join (fault_key number) HaveOwnKeys (keys-joined number) own some

pub returns-clause-down : goal.returns-clause-down
returns-clause-down c number nodes items own p lt = keys-down is_before nodes items (kept_values fault_values) (values_kept fault_values) faults-back fault_order
    faults_join (fault_key number) HaveOwnKeys (keys-joined number) own p lt
