use Rattle.node_law.specs.Reached.{RunsTo}
use Rattle.node_core.specs.CoreView.{state, IsReady}
use Rattle.node_core.proofs.cores.Core.run_lockstep.Given as goal

abbrev pub invariant-loop-self : goal.invariant-loop-self
invariant-loop-self g l = IsReady g.N.PhasedNode.steps l.self × RunsTo g.N.PhasedNode.steps (state l.initial.self) (state l.self)

abbrev pub decreases-loop-self : goal.decreases-loop-self
decreases-loop-self g l = l.self.left
