use Rattle.std.proofs.Common.{◌≡◌}
use Rattle.part_steps.specs.After.{elements_below}
use Rattle.part_steps.specs.Gathered.{after_of}
use Rattle.part_steps.proofs.sections.section_values.Given as goal

-- those of the first tuples
abbrev pub invariant-loop-tuple : goal.invariant-loop-tuple
invariant-loop-tuple l = l.values.items ≡ elements_below (after_of l.gathered) l.tuple
