use Rattle.std.proofs.Common.{◌≡◌, Some, drop}
use Rattle.part_steps.specs.Strips.{joined_values}
use Rattle.part_steps.proofs.reductions.joined_by.Given as goal

-- with what is left of the values, it is what all come to
abbrev pub invariant-loop-value : goal.invariant-loop-value
invariant-loop-value l = joined_values l.op (drop l.value-index l.values) (Some l.so_far) ≡ joined_values l.op l.values (Some l.first)
