use Rattle.std.proofs.Common.{map, refl}
use Rattle.directive_check.specs.MappedSteps.{dynamic}
use Rattle.directive_check.proofs.MappedTurns.{distinct_next}
use Rattle.directive_check.proofs.dynamic_names.distinct_names.Goals as goal

pub loop-one-preserved : goal.loop-one-preserved
loop-one-preserved c =
    distinct_next (λ ds. map (λ d. d.name) (dynamic ds)) (λ d. d.name) (λ d ds. refl) c.args.names.now c.loop-one.one-index c.one-item.result
    c.loop-one.distinct.items c.add_name.new.names.items c.loop-one-test.true c.one-item.is c.in_ok-add_name.ensures.added c.loop-one.invariant
