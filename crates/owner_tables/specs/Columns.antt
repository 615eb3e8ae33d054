-- Of private clauses.
-- What the dimensions of an array say of its elements: the number of the least owner, and the local address.
use Rattle.std.specs.Prelude.{◌≡◌, ℕ, ◌+◌, ◌*◌, ◌/◌, ◌%◌, ◌<◌, ◌≤◌, ◌==◌, ℤ, pos, ◌+ℤ◌, unsigned_abs, List, [], ◌∷◌, map, filter, take, length, slice_index_or, Option, Some, None}
use Rattle.std.specs.List.{range_with_len}
use Rattle.mappings.specs.declared.mapping.AlignDim.{AlignDim}
use Rattle.mappings.specs.declared.mapping.Line.{Line}
use Rattle.mappings.specs.declared.mapping.MapDim.{MapDim}
use Rattle.mappings.specs.declared.mapping.Mapping.{Mapping}
use Rattle.mappings.specs.Alignment.{position_at}
use Rattle.mappings.specs.Owner.{coordinate}
use Rattle.hpf_base.specs.ElementOrder.{product}
use Rattle.hpf_base.specs.Grid.{node_coordinates}
use Rattle.local_address.specs.declared.axes.Axis.{Axis}
use Rattle.local_address.specs.Runs.{axis_along, coordinate_on, own_on}
use Rattle.periodic_runs.specs.Runs.{no_place}
use Rattle.periodic_runs.specs.declared.runs.Place.{Place}

-- the coordinate in a dimension of the template at which a subscript stands; 0 where it is `*`
abbrev pub asked : Line → Option ℤ → ℕ
asked line None = 0
asked line (Some subscript) = coordinate line (unsigned_abs (position_at line subscript))

-- by how much two nodes differ whose coordinates in a dimension of the grid differ by one
abbrev pub weight : List ℕ → ℕ → ℕ
weight grid dim = product (take dim grid)

-- the least node of the grid that has the coordinates which these entries ask for
abbrev pub asked_number : List ℕ → (AlignDim → Option ℤ) → List MapDim → ℕ
asked_number grid given [] = 0
asked_number grid given (entry ∷ entries) = asked entry.line (given entry.align) * weight grid entry.grid_dim + asked_number grid given entries

abbrev pub weight_on : List ℕ → Option Axis → ℕ
weight_on grid None = 0
weight_on grid (Some axis) = weight grid axis.grid_dim

-- how many of the first places of a dimension have a coordinate on an axis
abbrev pub count_on : Option Axis → ℤ → ℕ → ℕ → ℕ
count_on axis lower places c = length (filter (λ place. coordinate_on axis (lower +ℤ pos place) == c) (range_with_len 0 places))

-- what a place adds to the number of the least owner, and how many lesser places have its coordinate
abbrev pub place_on : Option Axis → ℕ → ℤ → ℕ → Place
place_on axis weight lower place = record {
  part = coordinate_on axis (lower +ℤ pos place) * weight;
  rank = count_on axis lower place (coordinate_on axis (lower +ℤ pos place));
}

-- a dimension of an array: its extent, its places, and of each node how far apart in its piece two elements lie between whose places on the
-- dimension the node owns no other
pub record ColumnView : Type 0 where
  pub extent : ℕ
  pub places : List Place
  pub strides : List ℕ

-- each place and each node has an entry
pub record IsFilled (nodes : ℕ) (column : ColumnView) : Type 0 where
  pub some : 1 ≤ column.extent
  pub places : length column.places ≡ column.extent
  pub strides : length column.strides ≡ nodes

-- a place by its number
abbrev pub place_of : List Place → ℕ → Place
place_of places number = slice_index_or places number no_place

-- where two places add the same and their ranks differ by as much as they lie apart, all places between them have their coordinate: each adds the
-- same, and has the next rank
abbrev pub AreRanked : List Place → Type 0
AreRanked places = (number apart k : ℕ) → number + apart < length places
    → (place_of places (number + apart)).part ≡ (place_of places number).part
    → (place_of places (number + apart)).rank ≡ (place_of places number).rank + apart
    → k ≤ apart
    → ((place_of places (number + k)).part ≡ (place_of places number).part) × ((place_of places (number + k)).rank ≡ (place_of places number).rank + k)

-- the extents of dimensions
abbrev pub extents_along : List ColumnView → List ℕ
extents_along [] = []
extents_along (column ∷ columns) = column.extent ∷ extents_along columns

-- what a place adds to the number of the least owner
abbrev pub part_in : ColumnView → ℕ → ℕ
part_in column place = (slice_index_or column.places place no_place).part

-- what the places of an element add to the number of its least owner
abbrev pub parts_at : List ColumnView → ℕ → ℕ
parts_at [] at = 0
parts_at (column ∷ columns) at = part_in column (at % column.extent) + parts_at columns (at / column.extent)

-- and to its local address on a node
abbrev pub address_at : ℕ → List ColumnView → ℕ → ℕ
address_at node [] at = 0
address_at node (column ∷ columns) at =
    (slice_index_or column.places (at % column.extent) no_place).rank * slice_index_or column.strides node 0 + address_at node columns (at / column.extent)

-- a dimension that begins at lower
abbrev pub column_of : Mapping → ℤ → ℕ → ℕ → List ℕ → ColumnView
column_of mapping lower dim extent strides = record {
  extent = extent;
  places = map (place_on (axis_along dim mapping.dims) (weight_on mapping.grid (axis_along dim mapping.dims)) lower) (range_with_len 0 extent);
  strides = strides;
}

-- the strides of the next
abbrev pub next_strides : Mapping → ℤ → ℕ → ℕ → List ℕ → List ℕ
next_strides mapping lower dim extent strides =
    map (λ node. slice_index_or strides node 0 * count_on (axis_along dim mapping.dims) lower extent (own_on (node_coordinates mapping.grid node) (axis_along dim mapping.dims)))
    (range_with_len 0 (product mapping.grid))

-- the dimensions from one on, where the lower bounds are those of all dimensions
abbrev pub columns_of : Mapping → List ℤ → ℕ → List ℕ → List ℕ → List ColumnView
columns_of mapping lower dim [] strides = []
columns_of mapping lower dim (extent ∷ extents) strides =
    column_of mapping (slice_index_or lower dim (pos 0)) dim extent strides ∷ columns_of mapping lower (dim + 1) extents (next_strides mapping (slice_index_or lower dim (pos 0)) dim extent strides)

-- how many tuples of places each node owns
abbrev pub totals_of : Mapping → List ℤ → ℕ → List ℕ → List ℕ → List ℕ
totals_of mapping lower dim [] strides = strides
totals_of mapping lower dim (extent ∷ extents) strides = totals_of mapping lower (dim + 1) extents (next_strides mapping (slice_index_or lower dim (pos 0)) dim extent strides)
