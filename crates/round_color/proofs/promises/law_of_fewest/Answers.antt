use Rattle.round_color.proofs.Fewest.{degree-few}
use Rattle.round_color.proofs.promises.law_of_fewest.Goals as goal

pub returns : goal.returns
returns c = degree-few
