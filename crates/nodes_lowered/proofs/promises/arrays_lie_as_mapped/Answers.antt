use Rattle.nodes_lowered.proofs.StartLaid.{program-laid}
use Rattle.nodes_lowered.proofs.promises.arrays_lie_as_mapped.Goals as goal

pub returns : goal.returns
returns c = program-laid
