use Rattle.std.proofs.Common.{◌≤◌}
use Rattle.case_code.proofs.expressions.+form_within.Given as goal

abbrev pub decreases-form_within : goal.decreases-form_within
decreases-form_within l = l.depth

-- there is room for an operand
abbrev pub invariant-loop : goal.invariant-loop
invariant-loop l = 1 ≤ l.depth
