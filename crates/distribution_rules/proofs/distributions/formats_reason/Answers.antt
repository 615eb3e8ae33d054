use Rattle.std.specs.List.{flat_map}
use Rattle.declarations.specs.Declaring.{least_reason}
use Rattle.declarations.proofs.LeastReasons.{least_reason_append, lesser_next}
use Rattle.distribution_rules.specs.DistributionRules.{format_reasons}
use Rattle.distribution_rules.proofs.distributions.formats_reason.Goals as goal

pub loop-format-preserved : goal.loop-format-preserved
loop-format-preserved c =
    lesser_next (λ fs. least_reason (flat_map format_reasons fs)) (λ f. least_reason (format_reasons f))
    (λ f fs. least_reason_append (format_reasons f) (flat_map format_reasons fs))
    c.args.formats.now c.loop-format.format-index c.format-item.result c.loop-format.least c.format_reason.result c.lesser-least.result
    c.loop-format-test.true c.format-item.is c.format_reason.ensures c.lesser-least.ensures c.loop-format.invariant
