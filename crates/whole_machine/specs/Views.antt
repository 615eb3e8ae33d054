-- Of a promise.
-- What contracts see of the machine with whole arrays.
use Rattle.std.specs.Prelude.{◌≡◌}
use Rattle.std.specs.Arc.{arc_value}
use Rattle.array_meaning.specs.Faults.{Fault}
use Rattle.machine_steps.specs.Machine.{Machine}
use Rattle.code_meaning.specs.ProgramText.{Text}
use Rattle.slot_values.specs.Controls.{control_of}
use Rattle.slot_values.specs.KeptFaults.{kepts}
use Rattle.node_program.specs.Fits.{FitsRows}
use Rattle.node_program.specs.Programs.{code_of}
use Rattle.whole_machine.specs.declared.machine.WholeMachine.TheInside.{Inside}

abbrev pub machine_of : Inside → Machine Text Fault
machine_of m = record {
  code = code_of (arc_value m.program);
  control = control_of m.control;
  substep = m.substep;
  rows = m.rows.items;
  layouts = m.owners.layouts;
  kept = kepts m.kept;
  parts = m.parts;
  joined = m.joined;
  line = m.line.items;
  printed = m.printed.items;
}

-- its rows lie on the nodes for which the program is, which fits them
pub record IsMachine (m : Inside) : Type 0 where
  pub nodes : m.owners.nodes ≡ (arc_value m.program).nodes
  pub fits : FitsRows (arc_value m.program) m.owners.layouts
