use Rattle.std.proofs.Common.{◌≡◌, ◌∙◌, sym}
use Rattle.part_steps.specs.Views.{part_view}
use Rattle.tuple_values.specs.Views.{statement as statement_of}
use Rattle.node_machine.specs.Exchanges.{part_on}
use Rattle.node_machine.proofs.ExchangeLaws.{exchange-at}
use Rattle.node_machine.proofs.node.Node.exchange_by.Goals as goal

pub returns : goal.returns
returns c =
    let a = c.args.self.now in
    let is = c.self.view_is in
    let w = statement_of c.args.statement.now in
    let same : part_view c.new-part.result ≡ part_on a c.args.who w = c.new-part.ensures
    ∙ (λ i. record { who = c.args.who; nodes = (c.self.invariant.owners ∙ (λ j. (is j).nodes)) i; layouts = (is i).layouts; statement = w }) in
    exchange-at (part_on a c.args.who w) (part_view c.new-part.result) a.id c.self.inside.id c.in_ok-exchange.exchange (sym same) (sym (λ i. (is i).id)) c.in_ok-exchange.ensures
