use Rattle.std.proofs.Common.{◌≡◌, drop}
use Rattle.distribution_rules.specs.Dimensions.{extents}
use Rattle.distribution_rules.specs.ProgramObjects.{and_extents}
use Rattle.distribution_rules.proofs.processors.extents.Given as goal

-- the extents so far, and those of the rest after them, are all
abbrev pub invariant-loop-dim : goal.invariant-loop-dim
invariant-loop-dim l = and_extents l.extents (extents (drop l.dim-index l.dims)) ≡ extents l.dims
