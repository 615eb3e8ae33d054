use Rattle.anchor_positions.proofs.Positions.{section-by-positions}
use Rattle.anchor_positions.proofs.promises.triplets_by_positions.Goals as goal

pub returns : goal.returns
returns c = section-by-positions
