use Rattle.tuple_values.specs.Views.{statement as statement_of}
use Rattle.node_machine.proofs.ExchangeLaws.{par-opens}
use Rattle.node_machine.proofs.node.Node.par_phase.Goals as goal

pub part_phase-requires-clause-opens : goal.part_phase-requires-clause-opens
part_phase-requires-clause-opens c = par-opens c.args.self.now (statement_of c.in_ok-statement.statement) c.in_ok-statement.ensures
