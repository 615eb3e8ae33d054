use Rattle.std.proofs.Common.{◌≡◌, ◌++◌, drop}
use Rattle.expression_rules.specs.Symbols.{Name}
use Rattle.directive_check.specs.MappedObjects.{how_mapped}
use Rattle.directive_check.specs.MappedSteps.{mapped}
use Rattle.directive_check.proofs.mapped_objects.firsts_of.Given as goal

abbrev pub invariant-loop-object : goal.invariant-loop-object
invariant-loop-object l =
    (x : Name) → how_mapped (mapped (l.firsts.items ++ drop l.object-index l.objects)) x ≡ how_mapped (mapped l.objects) x
