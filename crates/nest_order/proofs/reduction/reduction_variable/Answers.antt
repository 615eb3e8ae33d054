use Rattle.nest_order.proofs.Reducing.{variable_reduced}
use Rattle.nest_order.proofs.reduction.reduction_variable.Goals as goal

pub returns : goal.returns
returns c = variable_reduced
