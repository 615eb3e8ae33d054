use Rattle.visited_tuples.proofs.Owning.{root-alone}
use Rattle.visited_tuples.proofs.promises.root_own.Goals as goal

pub returns : goal.returns
returns c = root-alone
