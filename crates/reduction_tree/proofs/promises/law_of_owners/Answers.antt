use Rattle.std.proofs.Common.{arith}
use Rattle.std.specs.List.{range_with_len}
use Rattle.reduction_tree.proofs.Owners.{over-owners, dealt-range}
use Rattle.reduction_tree.proofs.promises.law_of_owners.Goals as goal

pub returns : goal.returns
returns g c owner items nodes count values owners =
    over-owners g.F.Fold.is_value g.F.Fold.joined g.F.Fold.neutral g.met.F.Fold.laws owner items nodes (range_with_len 0 count)
    (dealt-range g.F.Fold.is_value g.F.Fold.joined g.F.Fold.neutral g.met.F.Fold.laws owner items nodes 0 count (λ t lt. values t (omega arith)) (λ t lt. owners t (omega arith)))
