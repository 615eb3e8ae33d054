use Rattle.std.proofs.Common.{◌≡◌, ◌++◌, drop}
use Rattle.directive_check.specs.MappedSteps.{mapped}
use Rattle.directive_check.specs.ProgramMaps.{start_maps_in}
use Rattle.directive_check.proofs.program_maps.start_maps.Given as goal

abbrev pub invariant-loop-place : goal.invariant-loop-place
invariant-loop-place l =
    l.maps.items ++ start_maps_in l.setting (mapped l.objects) (drop l.place l.names) ≡ start_maps_in l.setting (mapped l.objects) l.names
