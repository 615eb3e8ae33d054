use Rattle.visited_tuples.proofs.Owning.{assigned}
use Rattle.visited_tuples.proofs.promises.assigned_own.Goals as goal

pub returns : goal.returns
returns c = assigned
