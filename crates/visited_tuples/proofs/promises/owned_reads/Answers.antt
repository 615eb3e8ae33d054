use Rattle.visited_tuples.proofs.Reading.{own-all}
use Rattle.visited_tuples.proofs.promises.owned_reads.Goals as goal

pub returns : goal.returns
returns c = own-all
