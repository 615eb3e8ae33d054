use Rattle.std.proofs.Common.{◌≡◌, ◌*◌, drop}
use Rattle.expression_rules.specs.Dims.{elements}
use Rattle.expression_rules.proofs.dims.size.Given as goal

-- the elements of the dimensions so far, times those of the rest, are all
abbrev pub invariant-loop-dim : goal.invariant-loop-dim
invariant-loop-dim l = l.size * elements (drop l.dim-index l.dims) ≡ elements l.dims
