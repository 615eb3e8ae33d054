use Rattle.std.proofs.Common.{◌≡◌, take}
use Rattle.std.specs.List.{fold}
use Rattle.reduction_tree.proofs.fold.fold_tree.Given as goal

abbrev pub invariant-loop-item : goal.invariant-loop-item
invariant-loop-item g l = l.all ≡ fold g.F.Fold.joined g.F.Fold.neutral (take l.item-index l.items)
