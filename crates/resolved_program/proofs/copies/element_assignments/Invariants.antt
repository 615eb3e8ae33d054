use Rattle.std.proofs.Common.{◌≡◌, ◌++◌, drop, map}
use Rattle.resolved_program.specs.Resolved.{element_assignment}
use Rattle.resolved_program.proofs.copies.element_assignments.Given as goal

-- what is made so far, before what is left, is all
abbrev pub invariant-loop-a : goal.invariant-loop-a
invariant-loop-a l = map element_assignment l.made.items ++ map element_assignment (drop l.a-index l.body) ≡ map element_assignment l.body
