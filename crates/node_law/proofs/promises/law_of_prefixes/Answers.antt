use Rattle.node_law.proofs.LawOfPrefixes.{law_of_prefixes}
use Rattle.node_law.proofs.promises.law_of_prefixes.Goals as goal

pub returns : goal.returns
returns g c = law_of_prefixes g.N.PhasedNode.steps
