-- Of a promise.
-- What contracts see of a compiled program.
use Rattle.std.specs.Arc.{arc_value}
use Rattle.array_meaning.specs.Faults.{Fault}
use Rattle.machine_steps.specs.Machine.{Machine}
use Rattle.code_meaning.specs.ProgramText.{Text}
use Rattle.node_program.specs.Openings.{opening_machine}
use Rattle.node_program.specs.Programs.{code_of}
use Rattle.compiled_program.specs.declared.compile.CompiledProgram.{CompiledProgram}

-- the machine with whole arrays before the first of its instructions
abbrev pub opening_of : CompiledProgram → Machine Text Fault
opening_of c = opening_machine (code_of (arc_value c.text)) c.slots.items c.owners.layouts c.values.items
