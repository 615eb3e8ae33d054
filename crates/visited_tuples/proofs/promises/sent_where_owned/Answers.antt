use Rattle.visited_tuples.proofs.Sent.{own-listed}
use Rattle.visited_tuples.proofs.promises.sent_where_owned.Goals as goal

pub returns : goal.returns
returns c = own-listed
