use Rattle.node_law.specs.Cores.{start, core_run, made_in}
use Rattle.node_law.proofs.History.{history-reached}
use Rattle.node_law.proofs.ToOthers.{sends-to_others, takes-of_others, own-empty}
use Rattle.node_law.proofs.promises.letters_to_others.Goals as goal

pub returns-clause-sends : goal.returns-clause-sends
returns-clause-sends g c ns run choices p q acts =
    let S = g.N.PhasedNode.steps in
    sends-to_others S ns run (core_run S (start ns) choices) (made_in S (start ns) choices) (history-reached S ns choices) p acts.0 q acts.1 acts.2

pub returns-clause-takes : goal.returns-clause-takes
returns-clause-takes g c ns run choices p q acts =
    let S = g.N.PhasedNode.steps in
    takes-of_others S ns run (core_run S (start ns) choices) (made_in S (start ns) choices) (history-reached S ns choices) p acts.0 q acts.1 acts.2

pub returns-clause-empty : goal.returns-clause-empty
returns-clause-empty g c ns run choices p =
    let S = g.N.PhasedNode.steps in
    own-empty S ns run (core_run S (start ns) choices) (made_in S (start ns) choices) (history-reached S ns choices) p
