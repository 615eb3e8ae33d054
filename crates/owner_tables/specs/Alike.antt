-- Of private clauses.
-- Nodes that own the same elements.
use Rattle.std.specs.Prelude.{ℕ, ◌==◌, Bool, true, List, filter, slice_index}
use Rattle.std.specs.List.{list_all, range_with_len}
use Rattle.mappings.specs.declared.mapping.AlignDim.{AlignDim}
use Rattle.mappings.specs.declared.mapping.AlignDim.TheVariants.{Linear, At, Every}
use Rattle.mappings.specs.declared.mapping.MapDim.{MapDim}
use Rattle.mappings.specs.declared.mapping.Mapping.{Mapping}
use Rattle.hpf_base.specs.Grid.{node_coordinates}
use Rattle.machine_steps.specs.Layout.{first}

-- two coordinates in a dimension of the template own the same positions; where the array is replicated over it any two do
abbrev pub is_alike_at : AlignDim → ℕ → ℕ → Bool
is_alike_at (Linear dim a b) one other = one == other
is_alike_at (At v) one other = one == other
is_alike_at Every one other = true

abbrev pub is_alike_in : List ℕ → List ℕ → MapDim → Bool
is_alike_in one other entry = is_alike_at entry.align (slice_index one entry.grid_dim) (slice_index other entry.grid_dim)

-- the two nodes own the same elements
abbrev pub is_alike : Mapping → ℕ → ℕ → Bool
is_alike mapping one other = list_all (is_alike_in (node_coordinates mapping.grid one) (node_coordinates mapping.grid other)) mapping.dims

-- of so many nodes those that own what the node owns, ascending
abbrev pub alike_nodes : Mapping → ℕ → ℕ → List ℕ
alike_nodes mapping nodes node = filter (is_alike mapping node) (range_with_len 0 nodes)

-- the first of them
abbrev pub leader : Mapping → ℕ → ℕ → ℕ
leader mapping nodes node = first (is_alike mapping node) 0 nodes
