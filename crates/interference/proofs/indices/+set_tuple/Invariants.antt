use Rattle.std.proofs.Common.{length}
use Rattle.interference.proofs.indices.+set_tuple.Given as goal

abbrev pub decreases-set_tuple : goal.decreases-set_tuple
decreases-set_tuple l = length l.indices.now
