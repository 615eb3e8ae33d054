-- Of a promise.
-- The instructions that touch no array.
use Rattle.std.specs.Prelude.{Bool, true, false, List, []}
use Rattle.expression_rules.specs.declared.dims.Dim.{Dim}
use Rattle.array_meaning.specs.Faults.{Fault}
use Rattle.machine_steps.specs.Instr.{Control, Instr, Local}
use Rattle.node_code.specs.Instructions.{Instruction}
use Rattle.code_meaning.specs.Instructions.{meaning_of}
use Rattle.code_meaning.specs.ProgramText.{table_on}

abbrev pub control_by : Instr Fault → Control Fault → Control Fault
control_by (Local f) c = f c
control_by instr c = c

abbrev pub is_local_instr : Instr Fault → Bool
is_local_instr (Local f) = true
is_local_instr instr = false

-- what such an instruction does says nothing of copies, so any number of nodes serves
abbrev pub is_local : Instruction → Bool
is_local i = is_local_instr (meaning_of (table_on 1 [] []) i)

-- what such an instruction does; any other one does nothing here
abbrev pub local_control : List (List Dim) → Instruction → Control Fault → Control Fault
local_control shapes i c = control_by (meaning_of (table_on 1 [] shapes) i) c
