use Rattle.visited_tuples.proofs.Fewer.{sending-few}
use Rattle.visited_tuples.proofs.promises.sent_of_few.Goals as goal

pub returns : goal.returns
returns c computes nodes layouts ns rs few id ts suffice = sending-few computes layouts ns rs few id ts suffice nodes
