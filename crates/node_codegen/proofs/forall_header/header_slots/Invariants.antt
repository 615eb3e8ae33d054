use Rattle.std.proofs.Common.{◌≡◌, ◌+◌, drop, map}
use Rattle.resolved_program.specs.Resolved.{control}
use Rattle.program_code.specs.ExpressionCode.{subscripts_slots}
use Rattle.program_code.specs.StatementCode.{triplets}
use Rattle.node_codegen.proofs.forall_header.header_slots.Given as goal

-- the slots so far, and those of the indices that are left, are all
abbrev pub invariant-loop-c : goal.invariant-loop-c
invariant-loop-c l = l.sum + subscripts_slots (triplets (map control (drop l.c-index l.controls))) ≡ subscripts_slots (triplets (map control l.controls))
