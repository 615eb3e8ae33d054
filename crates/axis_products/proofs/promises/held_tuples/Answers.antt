use Rattle.axis_products.proofs.Products.{held}
use Rattle.axis_products.proofs.promises.held_tuples.Goals as goal

pub returns : goal.returns
returns c = held
