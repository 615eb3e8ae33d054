use Rattle.std.proofs.Common.{◌≡◌, drop}
use Rattle.std.specs.List.{flat_map}
use Rattle.mappings.specs.declared.limits.TheConstants.{MAX_BLOCK}
use Rattle.declarations.specs.Declaring.{least_reason, lesser}
use Rattle.distribution_rules.specs.DistributionRules.{size_reasons}
use Rattle.distribution_rules.proofs.distributions.sizes_reason.Given as goal

abbrev pub invariant-loop-size : goal.invariant-loop-size
invariant-loop-size l =
    lesser l.least (least_reason (flat_map (size_reasons 0 MAX_BLOCK) (drop l.size-index l.sizes))) ≡ least_reason (flat_map (size_reasons 0 MAX_BLOCK) l.sizes)
