use Rattle.nest_order.proofs.Flattening.{items_taken, items_passed}
use Rattle.nest_order.proofs.items.flattened_items.Goals as goal

pub returns-clause-taken : goal.returns-clause-taken
returns-clause-taken g c = items_taken

pub returns-clause-passed : goal.returns-clause-passed
returns-clause-passed g c = items_passed
