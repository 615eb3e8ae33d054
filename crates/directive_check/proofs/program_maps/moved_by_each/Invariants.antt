use Rattle.std.proofs.Common.{◌≡◌, ◌++◌, drop, map}
use Rattle.distribution_rules.specs.Setting.{arrays}
use Rattle.directive_check.specs.MappedSteps.{mapped}
use Rattle.directive_check.specs.ProgramMaps.{redistribution}
use Rattle.directive_check.specs.Redistributes.{said}
use Rattle.directive_check.proofs.program_maps.moved_by_each.Given as goal

abbrev pub invariant-loop-one : goal.invariant-loop-one
invariant-loop-one l =
    l.entries.items ++ map (λ d. redistribution l.setting (mapped l.objects) (arrays l.names) d.0 d.1) (said (drop l.one-index l.found))
    ≡ map (λ d. redistribution l.setting (mapped l.objects) (arrays l.names) d.0 d.1) (said l.found)
