-- Of a promise.
-- What a node owns along one dimension of an array.
use Rattle.std.specs.Prelude.{◌≡◌, ◌≢◌, ℕ, ◌+◌, ◌<◌, ℤ, pos, ◌+ℤ◌, ◌*ℤ◌, unsigned_abs, Bool, ◌&&◌, ◌==◌, not, cond, List, [], ◌∷◌, length, map, filter, slice_get, slice_index, Option, Some, None}
use Rattle.std.specs.List.{flat_map, range_with_len}
use Rattle.std.specs.Ordering.{int_eq}
use Rattle.mappings.specs.declared.mapping.AlignDim.{AlignDim}
use Rattle.mappings.specs.declared.mapping.AlignDim.TheVariants.{Linear, At, Every}
use Rattle.mappings.specs.declared.mapping.MapDim.{MapDim}
use Rattle.mappings.specs.declared.mapping.Mapping.{Mapping}
use Rattle.mappings.specs.Alignment.{agrees_at, position_at}
use Rattle.hpf_base.specs.ElementOrder.{product}
use Rattle.hpf_base.specs.Grid.{node_coordinates}
use Rattle.mappings.specs.Mapping.{InLine, IsLine}
use Rattle.mappings.specs.Owner.{coordinate}
use Rattle.local_address.specs.declared.axes.Axis.{Axis}
use Rattle.local_address.specs.declared.runs.Run.{Run}
use Rattle.local_address.specs.Spans.{last_of}

-- how many numbers, the first and the last; zeros where there are none
abbrev pub run_of : List ℤ → Run
run_of [] = record { count = 0; first = pos 0; last = pos 0 }
run_of (x ∷ xs) = record { count = length (x ∷ xs); first = x; last = last_of x xs }

-- all tuples of one of each list, the first fastest
abbrev pub tuples : List (List ℤ) → List (List ℤ)
tuples [] = [] ∷ []
tuples (xs ∷ xss) = flat_map (λ t. map (λ x. x ∷ t) xs) (tuples xss)

-- the subscripts of a dimension, ascending
abbrev pub subscripts : ℤ → ℕ → List ℤ
subscripts lower extent = map (λ place. lower +ℤ pos place) (range_with_len 0 extent)

-- an entry as an axis, where it moves along the dimension
abbrev pub axis_by : ℕ → MapDim → AlignDim → Option Axis
axis_by dim entry (Linear d a b) =
    cond (not (int_eq a (pos 0)) && (d == dim)) (Some record { line = entry.line; grid_dim = entry.grid_dim; factor = a; offset = b }) None
axis_by dim entry (At v) = None
axis_by dim entry Every = None

abbrev pub axis_or : Option Axis → Option Axis → Option Axis
axis_or None other = other
axis_or (Some axis) other = Some axis

-- the first entry that moves along the dimension
abbrev pub axis_along : ℕ → List MapDim → Option Axis
axis_along dim [] = None
axis_along dim (entry ∷ entries) = axis_or (axis_by dim entry entry.align) (axis_along dim entries)

-- the coordinate on an axis of what has the subscript i; 0 without one
abbrev pub coordinate_on : Option Axis → ℤ → ℕ
coordinate_on None i = 0
coordinate_on (Some axis) i = coordinate axis.line (unsigned_abs (position_at axis.line ((axis.factor *ℤ i) +ℤ axis.offset)))

-- the coordinate on an axis of a node of these coordinates; 0 without one
abbrev pub own_on : List ℕ → Option Axis → ℕ
own_on coordinates None = 0
own_on coordinates (Some axis) = slice_index coordinates axis.grid_dim

-- how many coordinates there are on an axis
abbrev pub procs_on : Option Axis → ℕ
procs_on None = 1
procs_on (Some axis) = axis.line.procs

-- as far as the dimension tells a node owns what has the subscript i there
abbrev pub along : Mapping → ℕ → ℕ → ℤ → Bool
along mapping node dim i =
    coordinate_on (axis_along dim mapping.dims) i == own_on (node_coordinates mapping.grid node) (axis_along dim mapping.dims)

-- the axis has a valid line, and is one of the grid
abbrev pub HasLine : Option Axis → Type 0
HasLine None = Unit {0}
HasLine (Some axis) = IsLine axis.line

abbrev pub IsOfGrid : List ℕ → Option Axis → Type 0
IsOfGrid grid None = Unit {0}
IsOfGrid grid (Some axis) = slice_get grid axis.grid_dim ≡ Some axis.line.procs

-- what has another subscript stands elsewhere on the axis
abbrev pub IsMoving : Option Axis → Type 0
IsMoving None = Unit {0}
IsMoving (Some axis) = axis.factor ≢ pos 0

-- what has the subscript i lies inside the axis's line
abbrev pub InAxis : Option Axis → ℤ → Type 0
InAxis None i = Unit {0}
InAxis (Some axis) i = InLine axis.line (Some ((axis.factor *ℤ i) +ℤ axis.offset))

-- the subscript that an entry gives all elements alike
abbrev pub fixed_subscript : AlignDim → Option ℤ
fixed_subscript (Linear d a b) = cond (int_eq a (pos 0)) (Some b) None
fixed_subscript (At v) = Some v
fixed_subscript Every = None

abbrev pub fixed_agrees : List ℕ → MapDim → Bool
fixed_agrees coordinates entry = agrees_at entry.line (slice_index coordinates entry.grid_dim) (fixed_subscript entry.align)

-- for each coordinate on an axis, which of the first subscripts of a dimension have it
pub record IsTable (axis : Option Axis) (lower : ℤ) (extent : ℕ) (runs : List Run) : Type 0 where
  pub count : length runs ≡ procs_on axis
  pub at : (c : ℕ) → c < procs_on axis → slice_get runs c ≡ Some (run_of (filter (λ i. coordinate_on axis i == c) (subscripts lower extent)))

-- what each node owns along a dimension
abbrev pub column_of : Mapping → ℕ → ℤ → ℕ → List Run
column_of mapping dim lower extent = map (λ node. run_of (filter (along mapping node dim) (subscripts lower extent))) (range_with_len 0 (product mapping.grid))

abbrev pub columns_of : Mapping → ℕ → List ℤ → List ℕ → List (List Run)
columns_of mapping dim [] extents = []
columns_of mapping dim (lower ∷ lowers) [] = []
columns_of mapping dim (lower ∷ lowers) (extent ∷ extents) = column_of mapping dim lower extent ∷ columns_of mapping (dim + 1) lowers extents
