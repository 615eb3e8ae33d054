use Rattle.std.proofs.Common.{◌≡◌, ◌∙◌}
use Rattle.part_steps.specs.Openings.{inbox_on, outbox_on}
use Rattle.part_steps.specs.Parts.{PartView, part_of}
use Rattle.part_steps.specs.Views.{part_view}
use Rattle.tuple_values.specs.Views.{statement as statement_of}
use Rattle.part_steps.proofs.Instructions.{opened-is}
use Rattle.node_machine.specs.Exchanges.{part_on}
use Rattle.node_machine.proofs.ExchangeLaws.{exchange-at}
use Rattle.node_machine.proofs.node.Node.opening_of.Goals as goal

pub outbox-requires-clause-exchange : goal.outbox-requires-clause-exchange
outbox-requires-clause-exchange c =
    let a = c.args.self.now in
    let is = c.self.view_is in
    let w = statement_of c.args.statement.now in
    let same : part_view c.new-part.result ≡ part_on a c.args.who w = c.new-part.ensures
    ∙ (λ i. record { who = c.args.who; nodes = (c.self.invariant.owners ∙ (λ j. (is j).nodes)) i; layouts = (is i).layouts; statement = w }) in
    exchange-at (part_view c.new-part.result) (part_on a c.args.who w) c.self.inside.id a.id c.args.exchange.now same (λ i. (is i).id) c.requires

pub inbox-requires-clause-exchange : goal.inbox-requires-clause-exchange
inbox-requires-clause-exchange c =
    let a = c.args.self.now in
    let is = c.self.view_is in
    let w = statement_of c.args.statement.now in
    let same : part_view c.new-part.result ≡ part_on a c.args.who w = c.new-part.ensures
    ∙ (λ i. record { who = c.args.who; nodes = (c.self.invariant.owners ∙ (λ j. (is j).nodes)) i; layouts = (is i).layouts; statement = w }) in
    exchange-at (part_view c.new-part.result) (part_on a c.args.who w) c.self.inside.id a.id c.args.exchange.now same (λ i. (is i).id) c.requires

pub returns-clause-is : goal.returns-clause-is
returns-clause-is c p e =
    let a = c.args.self.now in
    let is = c.self.view_is in
    let V : PartView = part_on a c.args.who (statement_of c.args.statement.now) in
    let same : part_view c.new-part.result ≡ V = c.new-part.ensures
    ∙ (λ i. record { who = c.args.who; nodes = (c.self.invariant.owners ∙ (λ j. (is j).nodes)) i; layouts = (is i).layouts; statement = statement_of c.args.statement.now }) in
    opened-is a.nodes a V p e _ _
    (c.in_ok-outbox.ensures.parcels ∙ (λ i. outbox_on (same i).nodes (same i).layouts (part_of (same i)) (is i).id ((c.deref.ensures.value ∙ (λ j. (is j).pieces)) i)))
    (c.in_ok-inbox.ensures.sources ∙ (λ i. inbox_on (same i).nodes (same i).layouts (part_of (same i)) (is i).id))
