use Rattle.std.proofs.Common.{length}
use Rattle.interference.proofs.indices.+set_back.Given as goal

abbrev pub decreases-set_back : goal.decreases-set_back
decreases-set_back l = length l.indices.now
