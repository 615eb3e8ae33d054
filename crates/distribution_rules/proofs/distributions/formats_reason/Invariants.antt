use Rattle.std.proofs.Common.{◌≡◌, drop}
use Rattle.std.specs.List.{flat_map}
use Rattle.declarations.specs.Declaring.{least_reason, lesser}
use Rattle.distribution_rules.specs.DistributionRules.{format_reasons}
use Rattle.distribution_rules.proofs.distributions.formats_reason.Given as goal

abbrev pub invariant-loop-format : goal.invariant-loop-format
invariant-loop-format l = lesser l.least (least_reason (flat_map format_reasons (drop l.format-index l.formats))) ≡ least_reason (flat_map format_reasons l.formats)
