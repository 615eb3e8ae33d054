use Rattle.axis_products.proofs.Ranks.{before}
use Rattle.axis_products.proofs.promises.passing_before.Goals as goal

pub returns : goal.returns
returns c = before
