use Rattle.std.proofs.Common.{◌≡◌, drop, map}
use Rattle.array_meaning.specs.Execution.{all_item_bytes}
use Rattle.resolved_program.specs.Resolved.{item}
use Rattle.term_values.specs.States.{state_of}
use Rattle.term_values.proofs.InOrder.{prefixed}
use Rattle.serial_run.proofs.print.all_item_bytes.Given as goal

-- the bytes so far, before those of the items that are left
abbrev pub invariant-loop-item : goal.invariant-loop-item
invariant-loop-item l = all_item_bytes (state_of l.s) (map item l.item-items) ≡ prefixed l.bytes.items (all_item_bytes (state_of l.s) (map item (drop l.item-index l.item-items)))
