use Rattle.tuple_values.specs.Views.{statement as statement_of}
use Rattle.node_machine.proofs.ExchangeLaws.{reduction-opens}
use Rattle.node_machine.proofs.node.Node.reduce_phase.Goals as goal

pub part_phase-requires-clause-opens : goal.part_phase-requires-clause-opens
part_phase-requires-clause-opens c = reduction-opens c.args.self.now (statement_of c.in_ok-statement.statement) c.args.r.reduction.join c.requires.first c.in_ok-statement.ensures
