use Rattle.node_law.specs.Phases.{all_moves}
use Rattle.node_law.proofs.Prefixes.{done-whole_at}
use Rattle.node_law.proofs.LawOfPrefixes.{law_of_prefixes}
use Rattle.node_law.proofs.NextMove.{run-made}
use Rattle.node_law.proofs.promises.law_of_ends.Goals as goal

pub returns : goal.returns
returns g c ns run made are first p done =
    let S = g.N.PhasedNode.steps in
    done-whole_at S (ns p) (made p) (all_moves run.phases run.last p) (are p) (run-made S run.phases run.number run.last ns run.run p) done
    (law_of_prefixes S ns run made are first p)
