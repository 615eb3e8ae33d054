use Rattle.std.proofs.Common.{◌≡◌, ◌++◌, drop, map}
use Rattle.syntax_tree.specs.Statement.{assignments_of}
use Rattle.array_meaning.specs.Resolution.{section_assignments}
use Rattle.resolved_program.specs.Resolved.{section_assignment}
use Rattle.program_plan.proofs.assignments.section_assignments.Given as goal

-- what is made so far, before what the rest makes, is all
abbrev pub invariant-loop-stmt : goal.invariant-loop-stmt
invariant-loop-stmt l =
    map section_assignment l.assignments.items ++ section_assignments l.names (assignments_of (drop l.stmt-index l.stmts)) ≡ section_assignments l.names (assignments_of l.stmts)
