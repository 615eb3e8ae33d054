use Rattle.std.specs.List.{flat_map}
use Rattle.mappings.specs.declared.limits.TheConstants.{MAX_BLOCK}
use Rattle.declarations.specs.Declaring.{least_reason}
use Rattle.declarations.proofs.LeastReasons.{least_reason_append}
use Rattle.distribution_rules.proofs.LeastReasons.{lesser_turn}
use Rattle.distribution_rules.specs.DistributionRules.{size_reasons}
use Rattle.distribution_rules.proofs.distributions.sizes_reason.Goals as goal

pub loop-size-preserved : goal.loop-size-preserved
loop-size-preserved c =
    lesser_turn (λ vs. least_reason (flat_map (size_reasons 0 MAX_BLOCK) vs)) (λ v. least_reason (size_reasons 0 MAX_BLOCK v))
    (λ v vs. least_reason_append (size_reasons 0 MAX_BLOCK v) (flat_map (size_reasons 0 MAX_BLOCK) vs))
    c.args.sizes.now c.loop-size.size-index _ c.loop-size.least c.size_reason.result c.lesser-least.result
    c.loop-size-test.true c.size_reason.ensures c.lesser-least.ensures c.loop-size.invariant
