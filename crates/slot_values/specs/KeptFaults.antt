-- Of a promise.
-- Faults that are kept.
use Rattle.std.specs.Prelude.{Option, option_map}
use Rattle.array_meaning.specs.Faults.{Fault}
use Rattle.machine_steps.specs.Machine.{Kept}
use Rattle.term_values.specs.Faults.{fault}
use Rattle.slot_values.specs.declared.kept.Kept.{Kept as HeldKept}

abbrev pub kept_view : HeldKept → Kept Fault
kept_view k = record { tuple = k.tuple; part = k.part; fault = fault k.fault }

abbrev pub kepts : Option HeldKept → Option (Kept Fault)
kepts = option_map kept_view
