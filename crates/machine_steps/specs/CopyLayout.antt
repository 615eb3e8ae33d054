-- Of the claim.
-- How the elements of a copy lie on the nodes.
use Rattle.std.specs.Prelude.{ℕ, ◌==◌, pos, List, [], ◌∷◌, length, map, slice_index_or, if◌then◌else◌}
use Rattle.hpf_base.specs.declared.index.Shape.{Shape}
use Rattle.mappings.specs.declared.mapping.AlignDim.TheVariants.{Linear}
use Rattle.mappings.specs.declared.mapping.MapDim.{MapDim}
use Rattle.mappings.specs.declared.mapping.Mapping.{Mapping}
use Rattle.mappings.specs.Owner.{block_line}
use Rattle.machine_steps.specs.Layout.{Layout}
use Rattle.machine_steps.specs.Space.{space_count}

-- the extents that a copy has: all are 0 where its space is empty
abbrev pub copy_extents : List ℕ → List ℕ
copy_extents extents = if space_count extents == 0 then map (λ extent. 0) extents else extents

-- its lower bounds are 1
abbrev pub copy_shape : List ℕ → Shape
copy_shape extents = record { lower = map (λ extent. pos 1) extents; extent = map pos extents }

-- its last index lies in blocks over all nodes; where it has no dimensions every node owns it
abbrev pub copy_dims : ℕ → List ℕ → List MapDim
copy_dims nodes [] = []
copy_dims nodes (extent ∷ extents) = record {
  line = block_line (slice_index_or (extent ∷ extents) (length extents) 0) nodes;
  grid_dim = 0;
  align = Linear (length extents) (pos 1) (pos 0);
} ∷ []

abbrev pub copy_mapping : ℕ → List ℕ → Mapping
copy_mapping nodes extents = record { grid = nodes ∷ []; dims = copy_dims nodes extents }

-- with these extents on so many nodes, each of which has one block of its last index, of max 1 (ceil(extent / nodes)) positions
abbrev pub layout_of : (nodes : ℕ) → (extents : List ℕ) → Layout
layout_of nodes extents = record { shape = copy_shape extents; mapping = copy_mapping nodes extents }

-- a copy with a value for each tuple of a space of these extents
abbrev pub copy_layout : (nodes : ℕ) → (extents : List ℕ) → Layout
copy_layout nodes extents = layout_of nodes (copy_extents extents)
