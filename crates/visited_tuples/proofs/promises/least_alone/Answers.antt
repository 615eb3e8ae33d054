use Rattle.visited_tuples.proofs.Sent.{least-alone}
use Rattle.visited_tuples.proofs.promises.least_alone.Goals as goal

pub returns : goal.returns
returns c = least-alone
