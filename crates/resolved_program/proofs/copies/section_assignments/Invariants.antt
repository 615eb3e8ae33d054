use Rattle.std.proofs.Common.{◌≡◌, ◌++◌, drop, map}
use Rattle.resolved_program.specs.Resolved.{section_assignment}
use Rattle.resolved_program.proofs.copies.section_assignments.Given as goal

-- what is made so far, before what is left, is all
abbrev pub invariant-loop-a : goal.invariant-loop-a
invariant-loop-a l = map section_assignment l.made.items ++ map section_assignment (drop l.a-index l.body) ≡ map section_assignment l.body
