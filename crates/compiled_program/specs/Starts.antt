-- Of private clauses.
-- No public clause cites this file.
-- What a run begins with.
use Rattle.std.specs.Prelude.{ℕ, List, [], ◌∷◌, ℤ, pos}
use Rattle.name_table.specs.declared.names.What.{What}
use Rattle.name_table.specs.declared.names.What.TheVariants as what
use Rattle.array_maps.specs.declared.maps.ArrayMap.{ArrayMap}
use Rattle.machine_steps.specs.Layout.{Layout}
use Rattle.nodes_lowered.specs.ProgramLayouts.{empty_layout}

-- the value of an array's elements
abbrev pub start_of : What → ℤ
start_of (what.Array ds v) = v
start_of w = pos 0

-- how an array lies with the first of these mappings
abbrev pub first_layout : ℕ → List ArrayMap → Layout
first_layout nodes [] = empty_layout nodes
first_layout nodes (m ∷ maps) = record { shape = m.shape; mapping = m.start }
