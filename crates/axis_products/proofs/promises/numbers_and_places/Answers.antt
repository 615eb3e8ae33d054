use Rattle.axis_products.proofs.Products.{number_back}
use Rattle.axis_products.proofs.promises.numbers_and_places.Goals as goal

pub returns : goal.returns
returns c = number_back
