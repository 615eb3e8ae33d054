use Rattle.std.proofs.Common.{◌≡◌, ◌++◌, drop, map}
use Rattle.code_meaning.specs.NestChecks.{without_elements}
use Rattle.slot_values.proofs.nest_checks.without_elements.Given as goal

-- the arrays so far, before those that are left
abbrev pub invariant-loop-dims : goal.invariant-loop-dims
invariant-loop-dims l = l.arrays.items ++ map without_elements (drop l.dims-index l.shapes) ≡ map without_elements l.shapes
