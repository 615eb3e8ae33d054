use Rattle.axis_products.proofs.Products.{tuples}
use Rattle.axis_products.proofs.promises.passing_tuples.Goals as goal

pub returns : goal.returns
returns c = tuples
