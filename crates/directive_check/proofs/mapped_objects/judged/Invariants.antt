use Rattle.std.proofs.Common.{◌≡◌, ◌++◌, All, drop}
use Rattle.directive_check.specs.ChainSteps.{IsJudged}
use Rattle.directive_check.specs.MappedSteps.{mapped}
use Rattle.directive_check.proofs.mapped_objects.judged.Given as goal

abbrev pub invariant-loop-object : goal.invariant-loop-object
invariant-loop-object l = (mapped l.noted.items ++ mapped (drop l.object-index l.objects) ≡ mapped l.objects) × All (IsJudged l.setting) l.noted.items
