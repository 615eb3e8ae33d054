use Rattle.node_core.proofs.PhaseSteps.{Letters}
use Rattle.node_core.proofs.cores.Core.letters.Given as goal

abbrev pub invariant-loop-node : goal.invariant-loop-node
invariant-loop-node g l = Letters g.N.PhasedNode.steps l.number l.initial.self l.self

abbrev pub decreases-loop-node : goal.decreases-loop-node
decreases-loop-node g l = l.self.left
