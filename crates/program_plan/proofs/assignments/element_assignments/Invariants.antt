use Rattle.std.proofs.Common.{◌≡◌, ◌++◌, drop, map}
use Rattle.syntax_tree.specs.Statement.{assignments_of}
use Rattle.array_meaning.specs.Resolution.{element_assignments}
use Rattle.resolved_program.specs.Resolved.{element_assignment}
use Rattle.program_plan.proofs.assignments.element_assignments.Given as goal

-- what is made so far, before what the rest makes, is all
abbrev pub invariant-loop-stmt : goal.invariant-loop-stmt
invariant-loop-stmt l =
    map element_assignment l.assignments.items ++ element_assignments l.names l.indices (assignments_of (drop l.stmt-index l.stmts)) ≡ element_assignments l.names l.indices (assignments_of l.stmts)
