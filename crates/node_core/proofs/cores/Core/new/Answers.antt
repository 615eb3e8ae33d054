use Rattle.node_law.proofs.OneMovesLeft.{left-made}
use Rattle.node_core.proofs.Rounds.{new-reached}
use Rattle.node_core.proofs.cores.Core.new.Goals as goal

pub invariant_of-result : goal.invariant_of-result
invariant_of-result g c = (left-made g.N.PhasedNode.steps _ (new-reached g.N.PhasedNode.steps c.args.nodes.items c.loop.queues.items c.loop.invariant.1 c.requires.phased), tt)
