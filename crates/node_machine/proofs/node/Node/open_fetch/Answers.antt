use Rattle.std.proofs.Common.{◌∙◌}
use Rattle.machine_steps.specs.Node.{settled}
use Rattle.node_machine.proofs.node.Node.open_fetch.Goals as goal

pub returns-clause-ok : goal.returns-clause-ok
returns-clause-ok c =
    let a = c.args.self.now in
    c.open.ensures ∙ (λ i. settled (record a { received = c.in_ok-received.ensures.items i }) (c.in_ok-outbox.ensures.items i) (c.in_ok-inbox.ensures.items i))
