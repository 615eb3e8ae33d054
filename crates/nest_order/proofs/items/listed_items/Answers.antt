use Rattle.nest_order.proofs.Touching.{touched_listed}
use Rattle.nest_order.proofs.items.listed_items.Goals as goal

pub returns : goal.returns
returns g c = touched_listed
