use Rattle.tuple_values.specs.Views.{statement as statement_of}
use Rattle.node_machine.proofs.ExchangeLaws.{exchange-of}
use Rattle.node_machine.proofs.node.Node.made_exchange.Goals as goal

pub returns : goal.returns
returns c = exchange-of c.args.self.now _ (statement_of c.args.statement.now) c.args.who c.in_ok-exchange.exchange c.requires c.in_ok-exchange.ensures
