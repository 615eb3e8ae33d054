use Rattle.std.proofs.Common.{◌≡◌, OnOk, subst}
use Rattle.node_machine.proofs.TreeSteps.{third-begun}
use Rattle.node_machine.proofs.node.Node.begin_reduce_tree.Goals as goal

pub returns-clause-ok : goal.returns-clause-ok
returns-clause-ok c =
    let a = c.args.self.now in
    let r = c.requires.is in
    subst (λ x. OnOk c.reduce_round.result (c.reduce_round.new.self ≡ x))
    (third-begun a.nodes a _ r.tuples c.args.reduction.op c.args.reduction.slot r.is _ r.third c.in_ok-numbers.ensures) c.reduce_round.ensures.ok
