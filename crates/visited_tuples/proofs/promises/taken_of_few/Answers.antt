use Rattle.visited_tuples.proofs.Fewer.{taking-few}
use Rattle.visited_tuples.proofs.promises.taken_of_few.Goals as goal

pub returns : goal.returns
returns c = taking-few
