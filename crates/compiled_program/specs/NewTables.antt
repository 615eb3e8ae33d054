-- Of private clauses.
-- No public clause cites this file. The tables of the mappings that arrays get.
use Rattle.std.specs.Prelude.{ℕ, List, [], map, slice_index_or}
use Rattle.std.specs.List.{flat_map}
use Rattle.hpf_base.specs.declared.index.Shape.{Shape}
use Rattle.array_maps.specs.declared.maps.ArrayMap.{ArrayMap}
use Rattle.array_maps.specs.declared.maps.NewMap.{NewMap}
use Rattle.array_maps.specs.declared.maps.Redistribution.{Redistribution}
use Rattle.owner_tables.specs.Views.{TableView}

-- the shape of what isn't there
abbrev pub no_shape : Shape
no_shape = record { lower = []; extent = [] }

-- the shape of the array that gets the mapping, which is one of these
abbrev pub moved_shape : List ArrayMap → NewMap → Shape
moved_shape arrays new = slice_index_or (map (λ a. a.shape) arrays) new.array.0 no_shape

-- the table of the array with its new mapping, on so many nodes
abbrev pub new_table : ℕ → List ArrayMap → NewMap → TableView
new_table nodes arrays new = record { layout = record { shape = moved_shape arrays new; mapping = new.map }; nodes = nodes }

-- those of all new mappings of these redistributions, in order
abbrev pub new_tables : ℕ → List ArrayMap → List Redistribution → List TableView
new_tables nodes arrays moves = map (new_table nodes arrays) (flat_map (λ r. r.maps) moves)
