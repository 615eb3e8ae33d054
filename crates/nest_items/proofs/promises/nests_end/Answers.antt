use Rattle.nest_items.proofs.Nests.{nest_ends}
use Rattle.nest_items.proofs.promises.nests_end.Goals as goal

pub returns : goal.returns
returns c kinds all s nest line loop block body h passed start opening = nest_ends kinds all s nest line loop block body h passed start opening
