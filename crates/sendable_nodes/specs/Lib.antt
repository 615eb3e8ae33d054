pub use Rattle.node_machine.specs.contracts.node.NodePhasedNode
