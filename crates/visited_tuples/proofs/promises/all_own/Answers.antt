use Rattle.visited_tuples.proofs.Sent.{all-own}
use Rattle.visited_tuples.proofs.promises.all_own.Goals as goal

pub returns : goal.returns
returns c = all-own
