use Rattle.node_machine.proofs.Instructions.{local-done}
use Rattle.node_machine.proofs.node.Node.finish_phase.Goals as goal

pub returns-in-Local-clause-ok : goal.returns-in-Local-clause-ok
returns-in-Local-clause-ok c = local-done c.args.self.now.nodes c.args.self.now c.in-Local.ensures.is
