-- Of the claim.
-- What the redistributions of a line do. A directive line holds one directive, and so a redistribution is known by its line (HPF 2.0, 8.3).
use Rattle.std.specs.Prelude.{ℕ, nat_eq, List, [], if◌then◌else◌}
use Rattle.std.specs.List.{flat_map}
use Rattle.array_maps.specs.declared.maps.NewMap.{NewMap}
use Rattle.array_maps.specs.declared.maps.Redistribution.{Redistribution}

-- the new mappings of a redistribution, if it stands in that line
abbrev pub moves_of_line : Redistribution → ℕ → List NewMap
moves_of_line r line = if nat_eq r.line line then r.maps else []

-- the new mappings of all redistributions of a line, in order
abbrev pub moves_at : List Redistribution → ℕ → List NewMap
moves_at moves line = flat_map (λ r. moves_of_line r line) moves
