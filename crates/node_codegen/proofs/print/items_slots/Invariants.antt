use Rattle.std.proofs.Common.{◌≡◌, ◌+◌, drop, map}
use Rattle.resolved_program.specs.Resolved.{item}
use Rattle.program_code.specs.StatementCode.{items_slots}
use Rattle.node_codegen.proofs.print.items_slots.Given as goal

-- the slots so far, and those of the items that are left, are all
abbrev pub invariant-loop-i : goal.invariant-loop-i
invariant-loop-i l = l.sum + items_slots (map item (drop l.i-index l.items)) ≡ items_slots (map item l.items)
