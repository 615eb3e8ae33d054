use Rattle.covering_rounds.proofs.Covering.{rounds-cover}
use Rattle.covering_rounds.proofs.promises.rounds_cover.Goals as goal

pub returns : goal.returns
returns c nodes new layouts owned = rounds-cover nodes new layouts owned
