use Rattle.std.proofs.Common.{◌≡◌, OnOk, subst}
use Rattle.node_machine.proofs.TreeSteps.{fold-begun}
use Rattle.node_machine.proofs.node.Node.begin_fold.Goals as goal

pub returns-clause-ok : goal.returns-clause-ok
returns-clause-ok c =
    let a = c.args.self.now in
    let f = c.args.folding in
    subst (λ x. OnOk c.fold_round.result (c.fold_round.new.self ≡ x)) (fold-begun a.nodes a _ f.copy f.op f.slot c.requires.is _ c.in_ok-numbers.ensures) c.fold_round.ensures.ok
