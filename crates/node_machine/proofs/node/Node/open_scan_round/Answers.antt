use Rattle.std.proofs.Common.{map, ◌∙◌}
use Rattle.std.specs.List.{filter, range_with_len}
use Rattle.machine_steps.specs.Node.{no_values, parcel, settled}
use Rattle.machine_steps.specs.Tree.{scan_sends}
use Rattle.node_machine.proofs.node.Node.open_scan_round.Goals as goal

pub returns-clause-ok : goal.returns-clause-ok
returns-clause-ok c =
    let a = c.args.self.now in
    let sends = scan_sends c.args.round in
    c.open.ensures
    ∙ (λ i. settled (record (c.set_scan.ensures i) { received = c.in_ok-received.ensures.items i }) (c.in_ok-outbox.ensures.items i) (c.in_ok-inbox.ensures.items i))
    ∙ (λ i. settled (record a { round = c.args.round; folded = c.args.folded.items; joined = c.args.taken; received = no_values a.nodes })
    (map (parcel (λ q. c.deref.ensures.value i)) (filter (sends a.id) (range_with_len 0 a.nodes))) (filter (λ p. sends p a.id) (range_with_len 0 a.nodes)))
