use Rattle.visited_tuples.proofs.Owning.{unread}
use Rattle.visited_tuples.proofs.promises.unread_own.Goals as goal

pub returns : goal.returns
returns c = unread
