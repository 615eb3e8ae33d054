use Rattle.node_law.proofs.Passing.{chosen-next}
use Rattle.node_core.proofs.cores.Core.next_phase.Goals as goal

pub returns-clause-next : goal.returns-clause-next
returns-clause-next g c =
    chosen-next g.N.PhasedNode.steps c.args.self.now.lists.nodes c.requires.phased c.first_number.result c.number_before.result c.first_number.ensures c.number_before.ensures
