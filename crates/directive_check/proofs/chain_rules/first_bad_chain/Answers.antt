use Rattle.std.proofs.Common.{[], ◌∷◌, refl}
use Rattle.declarations.specs.Reasons.{at}
use Rattle.expression_rules.proofs.Turns.{first_next}
use Rattle.directive_check.specs.MappedSteps.{mapped, mapped_of}
use Rattle.directive_check.specs.MappingRules.{chain_reasons}
use Rattle.directive_check.proofs.MappingBreaches.{first_of_line}
use Rattle.directive_check.proofs.chain_rules.first_bad_chain.Goals as goal

pub loop-object-preserved : goal.loop-object-preserved
loop-object-preserved c =
    let reasons = chain_reasons c.args.setting.now (mapped c.args.firsts.now) in
    let m = c.object-item.result in
    first_next (λ m. at m.line (reasons m.name)) mapped (λ m. mapped_of m ∷ []) (λ m ms. refl)
    c.args.objects.now c.loop-object.object-index m c.loop-object.first c.at_line.result c.earlier-first.result c.loop-object-test.true c.object-item.is
    (first_of_line m.line (reasons m.name.now) c.in_ok-reason.reason c.at_line.result c.in_ok-reason.ensures c.at_line.ensures) c.earlier-first.ensures c.loop-object.invariant
