use Rattle.std.proofs.Common.{ap, refl, ◌∙◌}
use Rattle.hpf_base.specs.FirstBreach.{least}
use Rattle.hpf_base.specs.declared.refusal.Reason.TheVariants.{BadDirective}
use Rattle.expression_rules.specs.Symbols.{is_among}
use Rattle.declarations.specs.Reasons.{at, when}
use Rattle.directive_check.specs.MappedObjects.{mapped_twice}
use Rattle.directive_check.specs.MappedSteps.{mapped}
use Rattle.directive_check.proofs.MappedTurns.{again_next, twice_respects}
use Rattle.directive_check.proofs.dynamic_names.first_mapped_twice.Goals as goal

pub loop-object-preserved : goal.loop-object-preserved
loop-object-preserved c =
    let m = c.object-item.result in
    again_next (λ seen ms. mapped_twice seen (mapped ms)) (λ seen m. at m.line (when (is_among m.name.now seen) BadDirective)) (λ m. m.name.now)
    (λ seen m ms. refl) (λ a b same ms. twice_respects a b same (mapped ms))
    c.args.objects.now c.loop-object.object-index m c.loop-object.seen.items c.add_name.new.names.items c.loop-object.first c.refused_if.result c.earlier-first.result
    c.loop-object-test.true c.object-item.is
    (c.refused_if.ensures ∙ ap (λ b. least (at m.line (when b BadDirective))) c.in_ok-again.ensures.again)
    c.earlier-first.ensures c.in_ok-again.ensures.added c.loop-object.invariant
