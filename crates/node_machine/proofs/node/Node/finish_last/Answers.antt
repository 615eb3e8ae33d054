use Rattle.std.proofs.Common.{◌≡◌, OnOk, subst}
use Rattle.node_machine.proofs.TreeSteps.{last-done}
use Rattle.node_machine.proofs.node.Node.finish_last.Goals as goal

pub returns-clause-ok : goal.returns-clause-ok
returns-clause-ok c =
    let a = c.args.self.now in
    let l = c.args.last in
    subst (λ x. OnOk c.last_round.result (c.last_round.new.self ≡ x)) (last-done a.nodes a _ l.copy l.set l.slot c.requires.is _ _ c.in_ok-round.ensures c.in_ok-numbers.ensures) c.last_round.ensures.ok
