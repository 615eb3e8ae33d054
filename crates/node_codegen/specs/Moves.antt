-- Of a promise.
-- What the REDISTRIBUTEs of each line move. A directive line holds one directive, and so a REDISTRIBUTE is known by its line (HPF 2.0, 8.3).
use Rattle.std.specs.Prelude.{ℕ, nat_eq, List, [], map, if◌then◌else◌}
use Rattle.std.specs.List.{flat_map}
use Rattle.node_code.specs.Instructions.{NewMapping}
use Rattle.node_code.specs.Texts.{new_mapping}
use Rattle.node_codegen.specs.declared.moves.LineMoves.{LineMoves}

-- the new mappings of an entry, if it is of that line
abbrev pub moves_of_line : LineMoves → ℕ → List NewMapping
moves_of_line m line = if nat_eq m.line line then map new_mapping m.maps.items else []

-- those of all entries of a line, in order
abbrev pub moves_by : List LineMoves → ℕ → List NewMapping
moves_by moves line = flat_map (λ m. moves_of_line m line) moves
