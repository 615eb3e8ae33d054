use Rattle.reduction_tree.proofs.Gathered.{folded-up, folded-down}
use Rattle.reduction_tree.proofs.promises.law_of_trees.Goals as goal

pub returns-clause-up : goal.returns-clause-up
returns-clause-up g c nodes items each = folded-up g.F.Fold.is_value g.F.Fold.joined g.F.Fold.neutral g.met.F.Fold.laws nodes items each

pub returns-clause-down : goal.returns-clause-down
returns-clause-down g c nodes items each = folded-down g.F.Fold.is_value g.F.Fold.joined g.F.Fold.neutral g.met.F.Fold.laws nodes items each
