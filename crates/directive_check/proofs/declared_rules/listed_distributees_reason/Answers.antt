use Rattle.std.proofs.Common.{List, ap, ◌∙◌}
use Rattle.std.specs.List.{flat_map}
use Rattle.hpf_base.specs.declared.refusal.Reason.{Reason}
use Rattle.expression_rules.specs.Symbols.{Name}
use Rattle.declarations.specs.Declaring.{least_reason}
use Rattle.declarations.proofs.LeastReasons.{least_reason_append, lesser_next}
use Rattle.distribution_rules.specs.DistributionRules.{distributee_reasons}
use Rattle.distribution_rules.specs.Setting.{object}
use Rattle.directive_check.proofs.declared_rules.listed_distributees_reason.Goals as goal

pub loop-name-preserved : goal.loop-name-preserved
loop-name-preserved c =
    let reasons : Name → List Reason = λ x. distributee_reasons c.args.values.now (object c.args.setting.now x) in
    lesser_next (λ xs. least_reason (flat_map reasons xs)) (λ x. least_reason (reasons x)) (λ x xs. least_reason_append (reasons x) (flat_map reasons xs))
    c.args.names.now c.loop-name.name-index c.name-item.result c.loop-name.least c.bad_distributee.result c.lesser-least.result c.loop-name-test.true c.name-item.is
    (c.bad_distributee.ensures ∙ ap (λ o. least_reason (distributee_reasons c.args.values.now o)) c.object.ensures) c.lesser-least.ensures c.loop-name.invariant
