use Rattle.std.proofs.Common.{◌≢◌, ℕ, ◌<◌, get_or}
use Rattle.node_law.specs.declared.act.Act.TheVariants.{Done}
use Rattle.node_law.specs.Phases.{next_number}
use Rattle.node_core.proofs.cores.Core.number_before.Given as goal

abbrev pub invariant-loop-node : goal.invariant-loop-node
invariant-loop-node g l =
    (k : ℕ) (d : g.row.N.Denot) → k < l.node-index → g.N.PhasedNode.steps.act (get_or l.node-items k d) ≢ Done
    → next_number (g.N.PhasedNode.steps.phase (get_or l.node-items k d)) ≢ l.first
