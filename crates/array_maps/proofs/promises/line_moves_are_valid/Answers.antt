use Rattle.array_maps.proofs.LineMoves.{line-valid}
use Rattle.array_maps.proofs.promises.line_moves_are_valid.Goals as goal

pub returns : goal.returns
returns c = λ nodes maps valid line. line-valid nodes maps.arrays maps.moves line valid.moves
