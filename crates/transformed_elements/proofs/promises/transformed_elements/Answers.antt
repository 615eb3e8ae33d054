use Rattle.transformed_elements.proofs.Elements.{transforms-as-elements}
use Rattle.transformed_elements.proofs.promises.transformed_elements.Goals as goal

pub returns : goal.returns
returns c = transforms-as-elements
