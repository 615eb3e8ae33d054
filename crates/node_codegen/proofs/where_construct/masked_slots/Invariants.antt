use Rattle.std.proofs.Common.{◌≡◌, drop, map, max}
use Rattle.resolved_program.specs.Resolved.{section_assignment}
use Rattle.program_code.specs.StatementCode.{masked_slots}
use Rattle.node_codegen.proofs.where_construct.masked_slots.Given as goal

-- the most so far, or of the assignments that are left, is the most of all
abbrev pub invariant-loop-x : goal.invariant-loop-x
invariant-loop-x l = max l.most (masked_slots (map section_assignment (drop l.x-index l.body))) ≡ masked_slots (map section_assignment l.body)
