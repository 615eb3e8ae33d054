use Rattle.std.proofs.Common.{◌≡◌, OnOk, subst}
use Rattle.node_machine.proofs.TreeSteps.{second-begun}
use Rattle.node_machine.proofs.node.Node.begin_reduce_verdict.Goals as goal

pub returns-clause-ok : goal.returns-clause-ok
returns-clause-ok c =
    let a = c.args.self.now in
    let r = c.requires.is in
    subst (λ x. OnOk c.verdict_round.result (c.verdict_round.new.self ≡ x)) (second-begun a.nodes a _ r.tuples r.op r.slot r.is _ r.second c.in_ok-numbers.ensures) c.verdict_round.ensures.ok
