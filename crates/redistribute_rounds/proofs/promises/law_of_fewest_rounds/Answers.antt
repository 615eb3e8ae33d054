use Rattle.redistribute_rounds.proofs.Fewest.{none-fewer}
use Rattle.redistribute_rounds.proofs.promises.law_of_fewest_rounds.Goals as goal

pub returns : goal.returns
returns c = none-fewer
