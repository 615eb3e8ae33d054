use Rattle.passed_states.proofs.TrailMoves.{trail-moves}
use Rattle.passed_states.proofs.promises.trails_move.Goals as goal

pub returns : goal.returns
returns c = λ maps moves ps entries layouts those. trail-moves maps moves ps entries layouts those
