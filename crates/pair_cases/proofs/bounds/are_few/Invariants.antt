use Rattle.std.proofs.Common.{◌≡◌, ◌≤◌, ◌*◌, drop}
use Rattle.expression_rules.specs.Dims.{elements}
use Rattle.hpf_base.specs.declared.limits.TheConstants.{MAX_ELEMENTS}
use Rattle.pair_cases.proofs.bounds.are_few.Given as goal

-- the elements of the dimensions so far, times those of the rest, are all
abbrev pub invariant-loop-dim : goal.invariant-loop-dim
invariant-loop-dim l = (elements l.dims ≡ l.count * elements (drop l.dim-index l.dims)) × (l.count ≤ MAX_ELEMENTS)
