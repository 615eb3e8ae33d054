use Rattle.node_law.specs.Cores.{start, core_run, made_in}
use Rattle.node_law.proofs.History.{history-reached}
use Rattle.node_law.proofs.NeverStuck.{confluence}
use Rattle.node_law.proofs.promises.confluence.Goals as goal

pub returns : goal.returns
returns g c ns run choices =
    let S = g.N.PhasedNode.steps in
    let history = history-reached S ns choices in
    (confluence S ns run (core_run S (start ns) choices) (made_in S (start ns) choices) history, history.now, history.letters)
