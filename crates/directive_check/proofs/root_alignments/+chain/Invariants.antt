use Rattle.std.proofs.Common.{◌+◌, ◌*◌}
use Rattle.directive_check.proofs.root_alignments.+chain.Given as goal

abbrev pub decreases-wide_chain : goal.decreases-wide_chain
decreases-wide_chain l = 2 * l.steps

abbrev pub decreases-next_of : goal.decreases-next_of
decreases-next_of l = 2 * l.steps + 1
