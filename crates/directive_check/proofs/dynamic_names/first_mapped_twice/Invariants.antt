use Rattle.std.proofs.Common.{◌≡◌, [], drop}
use Rattle.hpf_base.specs.FirstBreach.{earlier, least}
use Rattle.directive_check.specs.MappedObjects.{mapped_twice}
use Rattle.directive_check.specs.MappedSteps.{mapped}
use Rattle.directive_check.proofs.dynamic_names.first_mapped_twice.Given as goal

abbrev pub invariant-loop-object : goal.invariant-loop-object
invariant-loop-object l = earlier l.first (least (mapped_twice l.seen.items (mapped (drop l.object-index l.objects)))) ≡ least (mapped_twice [] (mapped l.objects))
