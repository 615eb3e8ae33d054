use Rattle.std.proofs.Common.{length}
use Rattle.message_lines.proofs.elements.+scalar_of.Given as goal

abbrev pub decreases-scalar_of : goal.decreases-scalar_of
decreases-scalar_of l = length l.copies.now
