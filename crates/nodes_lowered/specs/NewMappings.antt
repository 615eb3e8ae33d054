-- Of the claim.
-- The mappings that a program gives arrays while it runs (HPF 2.0, 8.3), by their numbers. Instructions name arrays by the places of their
-- names, and mappings by these numbers.
use Rattle.std.specs.Prelude.{ℕ, suc, ◌+◌, nat_eq, List, [], ◌∷◌, ◌++◌, length, map, slice_index_or, if◌then◌else◌}
use Rattle.std.specs.List.{flat_map}
use Rattle.mappings.specs.declared.mapping.Mapping.{Mapping}
use Rattle.syntax_tree.specs.MainProgram.{MainProgram}
use Rattle.name_table.specs.Entries.{entries}
use Rattle.name_table.specs.declared.names.Entry.{Entry}
use Rattle.name_table.specs.declared.names.What.{What}
use Rattle.name_table.specs.declared.names.What.TheVariants as what
use Rattle.array_maps.specs.declared.maps.NewMap.{NewMap}
use Rattle.array_maps.specs.declared.maps.Redistribution.{Redistribution}
use Rattle.directive_check.specs.ProgramMaps.{program_moves}
use Rattle.machine_steps.specs.Instr.{Remapping}
use Rattle.node_code.specs.Instructions.{NewMapping}

-- ---- arrays by the places of their names

-- the places of the arrays among declared names, the first of which has this place
abbrev pub with_place : ℕ → What → List ℕ → List ℕ
with_place at (what.Array ds v) places = at ∷ places
with_place at w places = places

abbrev pub array_places : ℕ → List Entry → List ℕ
array_places at [] = []
array_places at (e ∷ es) = with_place at e.what (array_places (suc at) es)

-- the place of the array with this number, where the arrays have these places
abbrev pub array_place : List ℕ → ℕ → ℕ
array_place places n = slice_index_or places n 0

-- an array moves: its row is the place of its name
abbrev pub remapping : List ℕ → NewMap → Remapping
remapping places new = record { row = array_place places new.array.0; mapping = new.map }

-- ---- mappings by their numbers

-- all new mappings of these redistributions, in order; the number of one is its place here
abbrev pub new_mappings : List Redistribution → List Mapping
new_mappings moves = map (λ new. new.map) (flat_map (λ r. r.maps) moves)

-- where the arrays have these places, these move, each to the next mapping, the first of them to the one with this number
abbrev pub numbered : List ℕ → ℕ → List NewMap → List NewMapping
numbered places number [] = []
numbered places number (new ∷ news) = record { array = array_place places new.array.0; map = number } ∷ numbered places (suc number) news

-- what a redistribution moves, if it stands in that line, where its first new mapping has this number
abbrev pub numbered_of_line : List ℕ → ℕ → Redistribution → ℕ → List NewMapping
numbered_of_line places number r line = if nat_eq r.line line then numbered places number r.maps else []

-- what a line moves, where the first new mapping of these redistributions has this number
abbrev pub numbered_at : List ℕ → ℕ → List Redistribution → ℕ → List NewMapping
numbered_at places number [] line = []
numbered_at places number (r ∷ rs) line = numbered_of_line places number r line ++ numbered_at places (number + length r.maps) rs line

-- ---- those of a program

-- the mappings that the REDISTRIBUTEs of a program give on a grid of these extents
abbrev pub program_mappings : List ℕ → MainProgram → List Mapping
program_mappings grid p = new_mappings (program_moves grid p)

-- which of them the arrays get that a line moves
abbrev pub program_remaps : List ℕ → MainProgram → ℕ → List NewMapping
program_remaps grid p = numbered_at (array_places 0 (entries p)) 0 (program_moves grid p)
