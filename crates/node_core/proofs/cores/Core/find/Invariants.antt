use Rattle.std.proofs.Common.{ℕ, ◌<◌}
use Rattle.node_core.specs.CoreView.{state}
use Rattle.node_core.specs.Stage.{CanStep}
use Rattle.node_core.proofs.cores.Core.find.Given as goal

abbrev pub invariant-loop-index : goal.invariant-loop-index
invariant-loop-index g l = (k : ℕ) → k < l.index → ¬ CanStep g.N.PhasedNode.steps l.number l.stage (state l.self) k
