-- Of private clauses.
-- How a copy lies beside a row.
use Rattle.std.specs.Prelude.{ℕ, List, map, Option, Some, None, if◌then◌else◌}
use Rattle.mappings.specs.declared.mapping.AlignDim.{AlignDim}
use Rattle.mappings.specs.declared.mapping.Mapping.{Mapping}
use Rattle.mappings.specs.Alignment.{composed}
use Rattle.machine_steps.specs.Layout.{Layout}
use Rattle.aligned_copies.specs.Beside.{beside, is_good, settled}
use Rattle.owner_tables.specs.declared.copies.CopyLayout.{CopyLayout}

-- a shape and a mapping, as a layout
abbrev pub laid_out : CopyLayout → Layout
laid_out copy = record { shape = copy.shape; mapping = copy.mapping }

-- where the subscripts are good, the mapping of a copy with these extents
abbrev pub good_mapping : Layout → List ℕ → List AlignDim → Option Mapping
good_mapping layout ns xs = if is_good layout.shape ns xs then Some (composed layout.mapping (map (settled ns) xs)) else None

-- and its layout
abbrev pub good_layout : Layout → List ℕ → List AlignDim → Option Layout
good_layout layout ns xs = if is_good layout.shape ns xs then Some (beside layout ns xs) else None

-- beside the row of an anchor, where there is one
abbrev pub good_beside : List ℕ → List AlignDim → Option Layout → Option Layout
good_beside ns xs None = None
good_beside ns xs (Some layout) = good_layout layout ns xs
