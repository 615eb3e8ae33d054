use Rattle.std.proofs.Common.{◌∙◌, ap}
use Rattle.machine_steps.specs.Node.{settled}
use Rattle.remap_steps.specs.Redistributions.{round_outbox}
use Rattle.node_machine.proofs.node.Node.later_round.Goals as goal

pub returns-clause-ok : goal.returns-clause-ok
returns-clause-ok c =
    let pieces = c.deref.ensures.value ∙ (λ i. (c.self.view_is i).pieces) in
    let outbox = c.in_ok-outbox.ensures.parcels ∙ ap (round_outbox c.args.moving c.args.round) pieces in
    c.hold.ensures ∙ c.reopen.ensures ∙ (λ i. settled (c.to_round.ensures i) (outbox i) (c.in_ok-inbox.ensures.sources i))
