-- Of the claim.
-- Which lines, shapes and mappings are valid, and which subscripts a mapping takes.
use Rattle.std.specs.Prelude.{◌≡◌, ◌≢◌, ℕ, ◌*◌, ◌≤◌, ◌<◌, ℤ, pos, ◌≤ℤ◌, FitsSigned, unsigned_abs, cond, ⊤, List, length, map, sum, All, AllPairs, slice_get, Option, Some, None}
use Rattle.std.specs.Int.{w64}
use Rattle.std.specs.Ordering.{int_eq}
use Rattle.hpf_base.specs.declared.limits.TheConstants.{MAX_BOUND, MAX_NODES}
use Rattle.mappings.specs.declared.limits.TheConstants.{MAX_BLOCK, MAX_CYCLIC, MAX_TEMPLATE_EXTENT}
use Rattle.mappings.specs.declared.mapping.AlignDim.{AlignDim}
use Rattle.mappings.specs.declared.mapping.AlignDim.TheVariants.{Linear, At, Every}
use Rattle.mappings.specs.declared.mapping.Form.{Form}
use Rattle.mappings.specs.declared.mapping.Form.TheVariants.{Whole, Block, Cyclic, Gen}
use Rattle.mappings.specs.declared.mapping.Line.{Line}
use Rattle.mappings.specs.declared.mapping.MapDim.{MapDim}
use Rattle.mappings.specs.declared.mapping.Mapping.{Mapping}
use Rattle.mappings.specs.Alignment.{aligned, position_at}

-- a format that deals out so many positions to so many processors (HPF 2.0, DISTRIBUTE)
abbrev pub IsForm : Form → ℕ → ℕ → Type 0
IsForm Whole extent procs = procs ≡ 1
IsForm (Block m) extent procs = (1 ≤ m) × (m ≤ MAX_BLOCK) × (extent ≤ m * procs)
IsForm (Cyclic k) extent procs = (1 ≤ k) × (k ≤ MAX_CYCLIC)
IsForm (Gen sizes) extent procs = (length sizes ≡ procs) × All (λ n. n ≤ MAX_BLOCK) sizes × (extent ≤ sum sizes)

pub record IsLine (line : Line) : Type 0 where
  pub some : 1 ≤ line.procs
  pub few : line.procs ≤ MAX_NODES
  pub extent : line.extent ≤ MAX_TEMPLATE_EXTENT
  pub lower : unsigned_abs line.lower ≤ MAX_BOUND
  pub form : IsForm line.form line.extent line.procs

-- an alignment of an array of so many dimensions
abbrev pub IsAlign : ℕ → AlignDim → Type 0
IsAlign rank (Linear dim a b) = dim < rank
IsAlign rank (At v) = ⊤
IsAlign rank Every = ⊤

-- the dimension of the array along which the subscript moves
abbrev pub moves_along : AlignDim → Option ℕ
moves_along (Linear dim a b) = cond (int_eq a (pos 0)) None (Some dim)
moves_along (At v) = None
moves_along Every = None

-- the two don't move along one dimension
abbrev pub MoveApart : AlignDim → AlignDim → Type 0
MoveApart x y = (dim : ℕ) → moves_along x ≡ Some dim → moves_along y ≡ Some dim → ⊥

-- a distributed dimension of a mapping onto this grid, of an array of so many dimensions
pub record IsMapDim (grid : List ℕ) (rank : ℕ) (entry : MapDim) : Type 0 where
  pub line : IsLine entry.line
  pub distributed : entry.line.form ≢ Whole
  pub procs : slice_get grid entry.grid_dim ≡ Some entry.line.procs
  pub align : IsAlign rank entry.align

-- a mapping of an array of so many dimensions
pub record IsMapping (rank : ℕ) (mapping : Mapping) : Type 0 where
  pub entries : All (IsMapDim mapping.grid rank) mapping.dims
  pub grid_dims : AllPairs (λ x y. x.grid_dim ≢ y.grid_dim) mapping.dims
  pub apart : AllPairs (λ x y. MoveApart x.align y.align) mapping.dims

-- the subscript stands inside the line; `*` does
abbrev pub InLine : Line → Option ℤ → Type 0
InLine line None = ⊤
InLine line (Some subscript) = (pos 1 ≤ℤ position_at line subscript) × (position_at line subscript ≤ℤ pos line.extent)

-- the element with these subscripts maps inside every line
abbrev pub MapsInside : Mapping → List ℤ → Type 0
MapsInside mapping index = All (λ entry. InLine entry.line (aligned entry.align (map Some index))) mapping.dims

-- the numbers of an alignment fit 64 bits
abbrev pub FitsAlign : AlignDim → Type 0
FitsAlign (Linear dim a b) = FitsSigned w64 a × FitsSigned w64 b
FitsAlign (At v) = FitsSigned w64 v
FitsAlign Every = ⊤
