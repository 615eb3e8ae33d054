-- Of a promise.
-- The part that an instruction is, by the slots.
use Rattle.std.specs.Prelude.{ℕ, List, ℤ, Option, Some, None}
use Rattle.array_meaning.specs.Faults.{Fault}
use Rattle.machine_steps.specs.Instr.{Instr, Par, Reduce}
use Rattle.machine_steps.specs.Layout.{Layout}
use Rattle.machine_steps.specs.Message.{Part, par_part, reduce_part}

-- of a parallel statement or a reduction
abbrev pub instruction_part : ℕ → List Layout → List ℤ → Instr Fault → Option Part
instruction_part nodes layouts slots (Par tuples left) = Some (par_part layouts tuples left slots)
instruction_part nodes layouts slots (Reduce tuples fold slot) = Some (reduce_part nodes layouts tuples slots)
instruction_part nodes layouts slots i = None
