use Rattle.visited_tuples.proofs.Sent.{own-beyond}
use Rattle.visited_tuples.proofs.promises.sent_beyond.Goals as goal

pub returns : goal.returns
returns c = own-beyond
