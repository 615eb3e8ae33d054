use Rattle.std.specs.List.{flat_map}
use Rattle.syntax_tree.specs.Directive.{alignment}
use Rattle.declarations.specs.Declaring.{least_reason}
use Rattle.declarations.proofs.LeastReasons.{least_reason_append, lesser_next}
use Rattle.alignment_rules.specs.AlignmentRules.{alignee_reasons}
use Rattle.directive_check.proofs.declared_rules.listed_alignees_reason.Goals as goal

pub loop-name-preserved : goal.loop-name-preserved
loop-name-preserved c =
    let reasons = alignee_reasons c.args.setting.now (alignment c.args.spec.now) in
    lesser_next (λ xs. least_reason (flat_map reasons xs)) (λ x. least_reason (reasons x)) (λ x xs. least_reason_append (reasons x) (flat_map reasons xs))
    c.args.names.now c.loop-name.name-index c.name-item.result c.loop-name.least c.in_ok-found.found c.lesser-least.result c.loop-name-test.true c.name-item.is
    c.in_ok-found.ensures c.lesser-least.ensures c.loop-name.invariant
