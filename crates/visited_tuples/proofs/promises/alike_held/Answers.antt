use Rattle.visited_tuples.proofs.Fewer.{alike-held}
use Rattle.visited_tuples.proofs.promises.alike_held.Goals as goal

pub returns : goal.returns
returns c = alike-held
