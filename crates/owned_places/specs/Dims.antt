-- Of a promise.
-- No public clause cites this file.
-- Tests of one dimension of an array.
use Rattle.std.specs.Prelude.{◌≡◌, ℕ, ◌+◌, ◌<◌, ◌≤◌, ◌==◌, Bool, true, false, ◌&&◌, cond, ⊤, List, [], ◌∷◌, length, slice_index_or, All, ℤ, ◌+ℤ◌, ◌*ℤ◌, Option, Some, None}
use Rattle.mappings.specs.declared.mapping.AlignDim.{AlignDim}
use Rattle.mappings.specs.declared.mapping.AlignDim.TheVariants.{Linear, At, Every}
use Rattle.mappings.specs.declared.mapping.MapDim.{MapDim}
use Rattle.mappings.specs.declared.mapping.Mapping.{Mapping}
use Rattle.mappings.specs.Mapping.{IsMapping, MapsInside}
use Rattle.hpf_base.specs.ElementOrder.{elements, extents_of, product}
use Rattle.hpf_base.specs.Grid.{node_coordinates}
use Rattle.hpf_base.specs.Shape.{IsShape}
use Rattle.expression_rules.specs.declared.dims.Dim.{Dim}
use Rattle.courses.specs.AxisTables.{subscript_on}
use Rattle.courses.specs.Courses.{Course, Fixed, Moving}
use Rattle.courses.specs.Subscripts.{along_dims, in_dim, shape_of_dims}

-- what has the subscript i in a dimension is in bounds there, and the node's as far as the dimension tells
abbrev pub held_dim : List Dim → Mapping → ℕ → ℕ → ℤ → Bool
held_dim ds mapping node k i = in_dim ds k i && along_dims (node_coordinates mapping.grid node) mapping.dims k i

-- an array of these dimensions has an element, and all its elements lie inside the template
pub record LieInside (ds : List Dim) (m : Mapping) : Type 0 where
  pub shape : IsShape (shape_of_dims ds)
  pub mapping : IsMapping (length ds) m
  pub some : 1 ≤ product (extents_of (shape_of_dims ds))
  pub inside : All (MapsInside m) (elements (shape_of_dims ds))

-- what an entry of a mapping gives a subscript of a dimension, if it moves along that dimension
abbrev pub given_along : ℕ → ℤ → AlignDim → Option ℤ
given_along k i (Linear dim a b) = cond (dim == k) (Some ((a *ℤ i) +ℤ b)) None
given_along k i (At v) = None
given_along k i Every = None

-- an entry asks a dimension
abbrev pub asks_dim : ℕ → AlignDim → Bool
asks_dim k (Linear dim a b) = dim == k
asks_dim k (At v) = false
asks_dim k Every = false

-- how many entries do
abbrev pub entries_asking : ℕ → List MapDim → ℕ
entries_asking k [] = 0
entries_asking k (e ∷ es) = cond (asks_dim k e.align) 1 0 + entries_asking k es

-- what an entry gives all elements, if it moves along none
abbrev pub given_alone : AlignDim → Option ℤ
given_alone (Linear dim a b) = None
given_alone (At v) = Some v
given_alone Every = None

-- a subscript is in bounds at all places of its axis
abbrev pub IsInsideDim : List Dim → List ℕ → ℕ → Course → Type 0
IsInsideDim ds extents k (Fixed i) = in_dim ds k i ≡ true
IsInsideDim ds extents k (Moving axis first step) = (place : ℕ) → place < slice_index_or extents axis 0 → in_dim ds k (subscript_on first step place) ≡ true

-- the subscripts from a dimension on are
abbrev pub AreInsideFrom : List Dim → List ℕ → ℕ → List Course → Type 0
AreInsideFrom ds extents k [] = ⊤
AreInsideFrom ds extents k (c ∷ cs) = IsInsideDim ds extents k c × AreInsideFrom ds extents (k + 1) cs
