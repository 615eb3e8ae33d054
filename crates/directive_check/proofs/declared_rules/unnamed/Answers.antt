use Rattle.directive_check.proofs.Unnamed.{unnamed_next}
use Rattle.directive_check.proofs.declared_rules.unnamed.Goals as goal

pub loop-name-preserved : goal.loop-name-preserved
loop-name-preserved c = unnamed_next c.args.names.now c.loop-name.name-index c.name-item.result c.loop-name-test.true c.name-item.is c.bytes.ensures.valid c.loop-name.invariant
