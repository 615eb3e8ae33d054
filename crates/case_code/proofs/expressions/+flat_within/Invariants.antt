use Rattle.std.proofs.Common.{◌≤◌}
use Rattle.case_code.proofs.expressions.+flat_within.Given as goal

abbrev pub decreases-flat_within : goal.decreases-flat_within
decreases-flat_within l = l.depth

-- there is room for an operand
abbrev pub invariant-loop : goal.invariant-loop
invariant-loop l = 1 ≤ l.depth
