use Rattle.std.proofs.Common.{◌≡◌, length, map, take}
use Rattle.hpf_base.specs.declared.node.NodeId.{NodeId}
use Rattle.node_law.specs.Cores.{core_run}
use Rattle.node_core.specs.CoreView.{state}
use Rattle.node_core.proofs.cores.Core.run_choices.Given as goal

abbrev pub invariant-loop-node : goal.invariant-loop-node
invariant-loop-node g l =
    ((state l.self) ≡ core_run g.N.PhasedNode.steps (state l.initial.self) (map (λ (n : NodeId). n.0) (take l.node-index l.choices)))
    × (length l.self.lists.nodes ≡ length l.initial.self.lists.nodes)
