use Rattle.std.proofs.Common.{◌≡◌, ◌+◌, drop}
use Rattle.array_meaning.specs.Resolution.{whole}
use Rattle.program_code.specs.ExpressionCode.{subscripts_slots}
use Rattle.node_codegen.proofs.array_bounds.bounds_slots.Given as goal

-- the slots so far, and those of the dimensions that are left, are all
abbrev pub invariant-loop-d : goal.invariant-loop-d
invariant-loop-d l = l.sum + subscripts_slots (whole (drop l._d-index l.dims)) ≡ subscripts_slots (whole l.dims)
