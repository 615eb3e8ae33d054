use Rattle.directive_check.specs.MappedSteps.{mapped}
use Rattle.directive_check.proofs.FewNames.{few_at}
use Rattle.directive_check.proofs.MapTurns.{start_next}
use Rattle.directive_check.proofs.program_maps.start_maps.Goals as goal

pub push_start-requires-clause-dims : goal.push_start-requires-clause-dims
push_start-requires-clause-dims c = few_at c.args.names.now c.loop-place.place c.in-Some.entry.now c.requires.dims c.in-Some.ensures

pub loop-place-preserved : goal.loop-place-preserved
loop-place-preserved c =
    start_next c.args.setting.now (mapped c.args.objects.now) c.args.names.now c.loop-place.place c.in-Some.entry.now c.loop-place.maps.items
    c.push_start.new.maps.items _ c.in-Some.ensures c.in_ok-push_start-in-Some.ensures c.loop-place.invariant
