use Rattle.std.proofs.Common.{◌∙◌, ap}
use Rattle.machine_steps.specs.Node.{settled}
use Rattle.remap_steps.specs.Redistributions.{round_outbox}
use Rattle.node_machine.proofs.node.Node.first_round.Goals as goal

pub returns-clause-ok : goal.returns-clause-ok
returns-clause-ok c =
    let pieces = c.deref.ensures.value ∙ (λ i. (c.self.view_is i).pieces) in
    let outbox = c.in_ok-outbox.ensures.parcels ∙ ap (round_outbox c.args.moving 0) pieces in
    c.hold.ensures ∙ c.open.ensures ∙ (λ i. settled (record (c.to_round.ensures i) { received = c.requires.room i }) (outbox i) (c.in_ok-inbox.ensures.sources i))
