use Rattle.std.proofs.Common.{◌≡◌, refl, ◌∙◌, subst, rules}
use Rattle.std.specs.Arc.{arc_value}
use Rattle.machine_steps.specs.Node.{settled}
use Rattle.part_steps.specs.Parts.{part_of}
use Rattle.tuple_values.specs.Views.{statement as statement_of}
use Rattle.node_machine.specs.Exchanges.{IsExchangeBy, part_on}
use Rattle.node_machine.proofs.ExchangeLaws.{exchange-by, exchange-lists}
use Rattle.node_machine.proofs.node.Node.part_phase.Goals as goal

pub opening_of-requires : goal.opening_of-requires
opening_of-requires c =
    let a = c.args.self.now in
    let w = statement_of c.args.statement.now in
    let e : arc_value c.in_ok-found.found.exchange ≡ c.deref-exchange.result.now = search rules in
    subst (IsExchangeBy a c.args.who w) e (exchange-by a _ w c.args.who (arc_value c.in_ok-found.found.exchange) c.requires.opens.is c.in_ok-found.ensures)

pub returns : goal.returns
returns c =
    let a = c.args.self.now in
    let w = statement_of c.args.statement.now in
    let e = arc_value c.in_ok-found.found.exchange in
    let o = c.in_ok-opening.opening in
    record {
      opened = (λ i. settled (record a { received = c.in_ok-received.ensures.items i }) o.outbox.items o.inbox.items)
          ∙ c.in_ok-opening.ensures.is (part_of (part_on a c.args.who w)) refl ∙ c.requires.opens.opened;
      targets = c.in_ok-opening.ensures.targets;
      sources = c.in_ok-opening.ensures.sources;
      exchange = c.in_ok-found.ensures;
      lists = exchange-lists (part_on a c.args.who w) a.id e (exchange-by a _ w c.args.who e c.requires.opens.is c.in_ok-found.ensures);
    }
