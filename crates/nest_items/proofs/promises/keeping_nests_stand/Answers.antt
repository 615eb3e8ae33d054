use Rattle.nest_items.proofs.FormStands.{nest_stands}
use Rattle.nest_items.proofs.promises.keeping_nests_stand.Goals as goal

pub returns : goal.returns
returns c kinds all nest loop block body h s fit known fits = nest_stands kinds all nest loop block body h s fit known fits
