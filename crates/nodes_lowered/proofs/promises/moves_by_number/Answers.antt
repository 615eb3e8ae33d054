use Rattle.nodes_lowered.proofs.NewMappings.{moves-numbered}
use Rattle.nodes_lowered.proofs.promises.moves_by_number.Goals as goal

pub returns : goal.returns
returns c = moves-numbered
