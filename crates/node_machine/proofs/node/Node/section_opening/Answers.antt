use Rattle.machine_steps.specs.Message.{gather_part}
use Rattle.tuple_values.specs.Views.{statement as statement_of}
use Rattle.part_steps.proofs.Instructions.{gather-is}
use Rattle.node_machine.proofs.node.Node.section_opening.Goals as goal

pub returns-clause-is : goal.returns-clause-is
returns-clause-is c =
    let a = c.args.self.now in
    let s = c.in_ok-statement.ensures in
    record {
      prints = s.prints;
      opening = c.in_ok-opening.ensures.is (gather_part s.prints.count s.prints.element a.control.slots)
          (gather-is a.nodes a.layouts (statement_of c.in_ok-statement.statement) a.control.slots s.prints.count s.prints.element s.tuples s.reads);
    }
