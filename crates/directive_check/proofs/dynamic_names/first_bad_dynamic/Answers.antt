use Rattle.std.proofs.Common.{ap, refl, ◌∙◌}
use Rattle.std.specs.Prelude.{◌||◌, not}
use Rattle.hpf_base.specs.FirstBreach.{least}
use Rattle.hpf_base.specs.declared.refusal.Reason.TheVariants.{BadDirective}
use Rattle.expression_rules.specs.Symbols.{is_among}
use Rattle.declarations.specs.Reasons.{at, when}
use Rattle.distribution_rules.specs.Setting.{has_kind, is_mapped_kind, object}
use Rattle.directive_check.specs.MappedObjects.{dynamic_breaches}
use Rattle.directive_check.specs.MappedSteps.{dynamic}
use Rattle.directive_check.proofs.MappedTurns.{again_next, dynamic_respects}
use Rattle.directive_check.proofs.dynamic_names.first_bad_dynamic.Goals as goal

pub loop-one-preserved : goal.loop-one-preserved
loop-one-preserved c =
    let s = c.args.setting.now in
    let d = c.one-item.result in
    again_next (λ seen ds. dynamic_breaches s seen (dynamic ds))
    (λ seen d. at d.line (when (not (has_kind is_mapped_kind (object s d.name)) || is_among d.name seen) BadDirective)) (λ d. d.name)
    (λ seen d ds. refl) (λ a b same ds. dynamic_respects s a b same (dynamic ds))
    c.args.names.now c.loop-one.one-index d c.loop-one.seen.items c.add_name.new.names.items c.loop-one.first c.refused_if.result c.earlier-first.result
    c.loop-one-test.true c.one-item.is
    (c.refused_if.ensures ∙ ap (λ b. least (at d.line (when b BadDirective)))
    (c.is_bad_name-bad.ensures ∙ ap (λ a. not (has_kind is_mapped_kind (object s d.name)) || a) c.in_ok-again.ensures.again))
    c.earlier-first.ensures c.in_ok-again.ensures.added c.loop-one.invariant
