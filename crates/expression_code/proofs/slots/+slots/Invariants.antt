use Rattle.std.proofs.Common.{◌≡◌, ◌+◌, drop}
use Rattle.program_code.specs.ExpressionCode.{all_parts_slots, all_slots_of, subscripts_slots}
use Rattle.resolved_program.specs.Resolved.{subscripts_of, terms_of}
use Rattle.expression_code.proofs.slots.+slots.Given as goal

-- the slots so far, and those of the rest, are all
abbrev pub invariant-all_slots_of-loop-t : goal.invariant-all_slots_of-loop-t
invariant-all_slots_of-loop-t l = l.sum + all_slots_of (terms_of (drop l.t-index l.terms)) ≡ all_slots_of (terms_of l.terms)

abbrev pub invariant-subscripts_slots-loop-d : goal.invariant-subscripts_slots-loop-d
invariant-subscripts_slots-loop-d l = l.sum + subscripts_slots (subscripts_of (drop l.d-index l.subscripts)) ≡ subscripts_slots (subscripts_of l.subscripts)

abbrev pub invariant-all_parts_slots-loop-t : goal.invariant-all_parts_slots-loop-t
invariant-all_parts_slots-loop-t l = l.sum + all_parts_slots (terms_of (drop l.t-index l.terms)) ≡ all_parts_slots (terms_of l.terms)
