-- The mappings of a program's arrays, from how each name is mapped first.
use Rattle.std.proofs.Common.{◌≡◌, List, map, sym, ◌∙◌}
use Rattle.std.specs.List.{flat_map}
use Rattle.array_maps.specs.declared.maps.ArrayMap.{ArrayMap}
use Rattle.array_maps.specs.declared.maps.Maps.{Maps}
use Rattle.array_maps.specs.declared.maps.Redistribution.{Redistribution}
use Rattle.name_table.specs.declared.names.Entry.{Entry}
use Rattle.statement_walk.specs.Heads.{PlacedHead}
use Rattle.distribution_rules.specs.Setting.{Setting, arrays}
use Rattle.directive_check.specs.MappedObjects.{MappedObject}
use Rattle.directive_check.specs.ProgramMaps.{moves_of, redistribution, start_maps_in}
use Rattle.directive_check.specs.Redistributes.{redistributes}
use Rattle.directive_check.proofs.MapTurns.{all_moves}
use Rattle.directive_check.proofs.SameMapped.{MapSame, new_maps_same, start_maps_same}

pub arrays_as : (s t : Setting) (firsts objects ms : List MappedObject) (es fs : List Entry) (made : List ArrayMap) → s ≡ t → MapSame firsts objects → objects ≡ ms →
    es ≡ fs → made ≡ start_maps_in s firsts es → made ≡ start_maps_in t ms fs
arrays_as s t firsts objects ms es fs made setting same is names found =
    found ∙ start_maps_same s firsts objects same es ∙ (λ i. start_maps_in (setting i) (is i) (names i))

pub moves_as : (s t : Setting) (firsts objects ms : List MappedObject) (es fs : List Entry) (hs : List PlacedHead) (made : List Redistribution) → s ≡ t →
    MapSame firsts objects → objects ≡ ms → es ≡ fs →
    made ≡ map (λ d. redistribution s firsts (arrays es) d.0 d.1) (redistributes hs) → made ≡ flat_map (λ h. moves_of t ms (arrays fs) h.line h.what) hs
moves_as s t firsts objects ms es fs hs made setting same is names found =
    found
    ∙ (λ i. map (λ d. record { line = d.0; maps = new_maps_same s firsts objects same d.1 0 (arrays es) i }) (redistributes hs))
    ∙ (λ i. map (λ d. redistribution (setting i) (is i) (arrays (names i)) d.0 d.1) (redistributes hs))
    ∙ all_moves t ms (arrays fs) hs

-- maps are the arrays and the moves in them
pub same_maps : (made : Maps) (arrays : List ArrayMap) (moves : List Redistribution) → made.arrays ≡ arrays → made.moves ≡ moves →
    record { arrays = arrays; moves = moves } ≡ made
same_maps made arrays moves a m = λ i. record { arrays = sym a i; moves = sym m i }
