use Rattle.visited_tuples.proofs.OfParts.{visits}
use Rattle.visited_tuples.proofs.promises.visits_of_part.Goals as goal

pub returns : goal.returns
returns c = visits
