use Rattle.sendable_nodes.proofs.NodeSent.{node_sent}
use Rattle.sendable_nodes.proofs.promises.nodes_may_be_sent.Goals as goal

pub returns : goal.returns
returns c = node_sent
