use Rattle.std.proofs.Common.{◌≡◌, ◌++◌, drop, map}
use Rattle.alignment_rules.specs.TargetParts.{full_value}
use Rattle.alignment_rules.proofs.target_parts.full_values.Given as goal

abbrev pub invariant-loop-dim : goal.invariant-loop-dim
invariant-loop-dim l = l.values.items ++ map full_value (drop l.dim-index l.bounds) ≡ map full_value l.bounds
