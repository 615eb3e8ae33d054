use Rattle.std.proofs.Common.{[], ◌∷◌, map, refl, ap, ◌∙◌}
use Rattle.directive_check.specs.MappedSteps.{dynamic, dynamic_at}
use Rattle.directive_check.proofs.ListTurns.{push_item}
use Rattle.directive_check.proofs.MappedTurns.{dynamic_append}
use Rattle.directive_check.proofs.dynamic_names.push_names.Goals as goal

pub loop-name-preserved : goal.loop-name-preserved
loop-name-preserved c =
    push_item (map (dynamic_at c.args.line)) (λ x. dynamic_at c.args.line x ∷ []) (λ x xs. refl) c.args.listed.now c.loop-name.name-index c.name-item.result
    (dynamic c.loop-name.names.items) (dynamic c.push.new.self.items) _ c.loop-name-test.true c.name-item.is
    (ap dynamic c.in_ok-push.ensures.items ∙ dynamic_append c.loop-name.names.items _) c.loop-name.invariant
