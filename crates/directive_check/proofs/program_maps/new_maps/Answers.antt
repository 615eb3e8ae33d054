use Rattle.syntax_tree.specs.Directive.{distribution}
use Rattle.directive_check.specs.MappedSteps.{mapped}
use Rattle.directive_check.proofs.MapTurns.{moved_next}
use Rattle.directive_check.proofs.program_maps.new_maps.Goals as goal

pub loop-place-preserved : goal.loop-place-preserved
loop-place-preserved c =
    moved_next c.args.setting.now (mapped c.args.objects.now) (distribution c.args.spec.now) c.args.names.now c.loop-place.place c.loop-place.number c.in_ok-number-in-Some.number
    c.in-Some.entry.now c.loop-place.maps.items c.push_moved.new.maps.items _
    c.in-Some.ensures c.in_ok-push_moved-in-Some.ensures c.in_ok-number-in-Some.ensures c.loop-place.invariant
