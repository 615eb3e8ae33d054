-- Of a promise.
-- The place of the next instruction, the slots, and how a run stands, apart from where they lie in memory.
use Rattle.array_meaning.specs.Faults.{Fault}
use Rattle.machine_steps.specs.Instr.{Status, Running, Finished, Faulted, Control}
use Rattle.term_values.specs.Faults.{fault}
use Rattle.slot_values.specs.declared.control.Control.{Control as HeldControl}
use Rattle.slot_values.specs.declared.control.Status.{Status as HeldStatus}
use Rattle.slot_values.specs.declared.control.Status.TheVariants as held

abbrev pub status_of : HeldStatus → Status Fault
status_of held.Running = Running
status_of held.Finished = Finished
status_of (held.Faulted f) = Faulted (fault f)

abbrev pub control_of : HeldControl → Control Fault
control_of c = record { at = c.at; slots = c.slots.items; status = status_of c.status }
