use Rattle.std.proofs.Common.{◌≡◌, drop}
use Rattle.term_values.specs.States.{state_of}
use Rattle.serial_run.specs.SectionStores.{stored_each}
use Rattle.serial_run.proofs.section_assignments.store_each.Given as goal

-- what is left to store from here is all
abbrev pub invariant-loop-st : goal.invariant-loop-st
invariant-loop-st l = stored_each (state_of l.fn.s) l.fn.array l.stores ≡ stored_each (state_of l.s) l.fn.array (drop l.st-index l.stores)
