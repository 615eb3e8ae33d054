use Rattle.directive_check.proofs.MappedTurns.{firsts_next}
use Rattle.directive_check.proofs.mapped_objects.firsts_of.Goals as goal

pub loop-object-preserved : goal.loop-object-preserved
loop-object-preserved c =
    firsts_next c.args.objects.now c.loop-object.object-index c.object-item.result c.loop-object.firsts.items c.add_first.new.firsts.items
    c.loop-object-test.true c.object-item.is c.in_ok-add_first.ensures c.loop-object.invariant
