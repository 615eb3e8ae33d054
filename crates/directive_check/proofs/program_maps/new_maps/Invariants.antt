use Rattle.std.proofs.Common.{◌≡◌, ◌++◌, drop}
use Rattle.syntax_tree.specs.Directive.{distribution}
use Rattle.distribution_rules.specs.Setting.{arrays}
use Rattle.directive_check.specs.MappedSteps.{mapped}
use Rattle.directive_check.specs.ProgramMaps.{new_maps_from}
use Rattle.directive_check.proofs.program_maps.new_maps.Given as goal

abbrev pub invariant-loop-place : goal.invariant-loop-place
invariant-loop-place l =
    l.maps.items ++ new_maps_from l.setting (mapped l.objects) (distribution l.spec) l.number (arrays (drop l.place l.names))
    ≡ new_maps_from l.setting (mapped l.objects) (distribution l.spec) 0 (arrays l.names)
