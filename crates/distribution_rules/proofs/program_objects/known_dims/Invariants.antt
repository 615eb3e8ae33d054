use Rattle.std.proofs.Common.{◌≡◌, ◌++◌, drop, map, Some}
use Rattle.distribution_rules.proofs.program_objects.known_dims.Given as goal

abbrev pub invariant-loop-dim : goal.invariant-loop-dim
invariant-loop-dim l = l.known.items ++ map Some (drop l.dim-index l.dims) ≡ map Some l.dims
