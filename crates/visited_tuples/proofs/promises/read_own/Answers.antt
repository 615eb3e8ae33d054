use Rattle.visited_tuples.proofs.Owning.{read}
use Rattle.visited_tuples.proofs.promises.read_own.Goals as goal

pub returns : goal.returns
returns c = read
