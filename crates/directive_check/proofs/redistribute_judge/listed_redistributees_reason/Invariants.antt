use Rattle.std.proofs.Common.{◌≡◌, drop}
use Rattle.std.specs.List.{flat_map}
use Rattle.declarations.specs.Declaring.{least_reason, lesser}
use Rattle.directive_check.specs.MappedSteps.{mapped}
use Rattle.directive_check.specs.MappingRules.{redistributee_reasons}
use Rattle.directive_check.proofs.redistribute_judge.listed_redistributees_reason.Given as goal

abbrev pub invariant-loop-name : goal.invariant-loop-name
invariant-loop-name l =
    lesser l.least (least_reason (flat_map (redistributee_reasons (mapped l.objects) l.dynamic) (drop l.name-index l.names)))
    ≡ least_reason (flat_map (redistributee_reasons (mapped l.objects) l.dynamic) l.names)
