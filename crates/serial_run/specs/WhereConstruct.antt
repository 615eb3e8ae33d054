-- Of private clauses.
-- The parts of a WHERE.
use Rattle.std.specs.Prelude.{List, [], Result}
use Rattle.array_meaning.specs.Terms.{Term}
use Rattle.array_meaning.specs.Statements.{SectionAssignment}
use Rattle.array_meaning.specs.Faults.{Cause, ◌>>=◌}
use Rattle.array_meaning.specs.State.{State}
use Rattle.array_meaning.specs.Runs.{Run, then_do}
use Rattle.array_meaning.specs.Elementals.{ArrayValue, array_value}
use Rattle.array_meaning.specs.Expressions.{elemental}
use Rattle.array_meaning.specs.ArrayAssignments.{assign_all_where, mask_of, negated_mask}

abbrev pub mask_value : Term → State → Result ArrayValue Cause
mask_value mask s = elemental [] s mask >>= array_value s

-- once the mask is evaluated
abbrev pub run_branches : ArrayValue → List SectionAssignment → List SectionAssignment → State → Run
run_branches m body others s =
    then_do (assign_all_where m.extents (mask_of m.elements) body s) (assign_all_where m.extents (negated_mask m.elements) others)
