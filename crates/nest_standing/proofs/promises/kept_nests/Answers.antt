use Rattle.nest_standing.proofs.Whole.{kept_nest}
use Rattle.nest_standing.proofs.promises.kept_nests.Goals as goal

pub returns : goal.returns
returns c = kept_nest
