use Rattle.op_tables.specs.Joins.{unit}
use Rattle.std.proofs.Common.{None}
use Rattle.tree_folds.proofs.Numbers.{numbers-down, numbers-up, those-joined}
use Rattle.tree_folds.proofs.promises.law_of_number_trees.Goals as goal

pub returns-clause-up : goal.returns-clause-up
returns-clause-up c j nodes items some = numbers-up j nodes items some

pub returns-clause-down : goal.returns-clause-down
returns-clause-down c j nodes items p lt = numbers-down j nodes items p lt

pub returns-clause-reduced : goal.returns-clause-reduced
returns-clause-reduced c j xs = those-joined j (unit j) None xs
