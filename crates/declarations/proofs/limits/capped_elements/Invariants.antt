use Rattle.std.proofs.Common.{◌≡◌, ◌+◌, ◌*◌, ◌≤◌, drop, min}
use Rattle.hpf_base.specs.declared.limits.TheConstants.{MAX_ELEMENTS}
use Rattle.expression_rules.specs.Dims.{elements}
use Rattle.declarations.specs.Declaring.{capped_elements}
use Rattle.declarations.proofs.limits.capped_elements.Given as goal

-- the elements of the dimensions so far, times those of the rest, are all, as far as the limit
abbrev pub invariant-loop-dim : goal.invariant-loop-dim
invariant-loop-dim l = (min (l.elements * elements (drop l.dim-index l.dims)) (MAX_ELEMENTS + 1) ≡ capped_elements l.dims) × (l.elements ≤ MAX_ELEMENTS + 1)
