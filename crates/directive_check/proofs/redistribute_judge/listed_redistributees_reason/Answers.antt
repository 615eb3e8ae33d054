use Rattle.std.specs.List.{flat_map}
use Rattle.declarations.specs.Declaring.{least_reason}
use Rattle.declarations.proofs.LeastReasons.{least_reason_append, lesser_next}
use Rattle.directive_check.specs.MappedSteps.{mapped}
use Rattle.directive_check.specs.MappingRules.{redistributee_reasons}
use Rattle.directive_check.proofs.redistribute_judge.listed_redistributees_reason.Goals as goal

pub loop-name-preserved : goal.loop-name-preserved
loop-name-preserved c =
    let reasons = redistributee_reasons (mapped c.args.objects.now) c.args.dynamic.now in
    lesser_next (λ xs. least_reason (flat_map reasons xs)) (λ x. least_reason (reasons x)) (λ x xs. least_reason_append (reasons x) (flat_map reasons xs))
    c.args.names.now c.loop-name.name-index c.name-item.result c.loop-name.least c.redistributee_reason.result c.lesser-least.result c.loop-name-test.true c.name-item.is
    c.redistributee_reason.ensures c.lesser-least.ensures c.loop-name.invariant
