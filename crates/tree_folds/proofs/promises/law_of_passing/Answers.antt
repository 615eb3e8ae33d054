use Rattle.node_run.proofs.TreeActs.{same-levels}
use Rattle.std.proofs.Common.{subst, ◌*◌, ◌≤◌}
use Rattle.tree_folds.proofs.Passing.{fault-spelled, number-spelled, passing-same, position-spelled}
use Rattle.tree_folds.proofs.promises.law_of_passing.Goals as goal

pub returns-clause-rounds : goal.returns-clause-rounds
returns-clause-rounds c joining nodes items spelled k p le lt =
    passing-same joining nodes items spelled k (subst (λ l. k ≤ 2 * l) (same-levels nodes) le) p lt

pub returns-clause-numbers : goal.returns-clause-numbers
returns-clause-numbers c j a = number-spelled j a

pub returns-clause-faults : goal.returns-clause-faults
returns-clause-faults c a = fault-spelled a

pub returns-clause-positions : goal.returns-clause-positions
returns-clause-positions c a = position-spelled a
