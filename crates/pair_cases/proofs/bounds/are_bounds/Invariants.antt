use Rattle.std.proofs.Common.{All, take}
use Rattle.expression_rules.specs.Dims.{IsDim}
use Rattle.pair_cases.proofs.bounds.are_bounds.Given as goal

abbrev pub invariant-loop-dim : goal.invariant-loop-dim
invariant-loop-dim l = All IsDim (take l.dim-index l.dims)
