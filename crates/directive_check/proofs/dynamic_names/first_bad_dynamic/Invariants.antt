use Rattle.std.proofs.Common.{◌≡◌, [], drop}
use Rattle.hpf_base.specs.FirstBreach.{earlier, least}
use Rattle.directive_check.specs.MappedObjects.{dynamic_breaches}
use Rattle.directive_check.specs.MappedSteps.{dynamic}
use Rattle.directive_check.proofs.dynamic_names.first_bad_dynamic.Given as goal

abbrev pub invariant-loop-one : goal.invariant-loop-one
invariant-loop-one l =
    earlier l.first (least (dynamic_breaches l.setting l.seen.items (dynamic (drop l.one-index l.names)))) ≡ least (dynamic_breaches l.setting [] (dynamic l.names))
