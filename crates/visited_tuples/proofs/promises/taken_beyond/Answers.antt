use Rattle.visited_tuples.proofs.Taken.{taking-beyond}
use Rattle.visited_tuples.proofs.promises.taken_beyond.Goals as goal

pub returns : goal.returns
returns c = taking-beyond
