use Rattle.std.proofs.Common.{◌≡◌, ◌++◌, drop, map}
use Rattle.directive_check.specs.MappedObjects.{mapped_object}
use Rattle.directive_check.specs.MappedSteps.{how_of, mapped}
use Rattle.directive_check.proofs.mapped_objects.push_names.Given as goal

abbrev pub invariant-loop-name : goal.invariant-loop-name
invariant-loop-name l =
    mapped l.objects.items ++ map (mapped_object l.line (how_of l.directive)) (drop l.name-index l.names)
    ≡ mapped l.fn.objects.items ++ map (mapped_object l.line (how_of l.directive)) l.names
