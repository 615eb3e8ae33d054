-- Of a promise.
-- Tests of subscripts, a dimension at a time, as tests of places, an axis at a time.
use Rattle.std.specs.Prelude.{ℕ, ◌+◌, ◌<◌, ◌==◌, Bool, true, ◌&&◌, ◌||◌, not, List, [], ◌∷◌, slice_index, slice_index_or, map, ℤ, pos, ◌+ℤ◌, ◌*ℤ◌, ⊤, Some}
use Rattle.std.specs.List.{list_all}
use Rattle.std.specs.Option.{is_some}
use Rattle.mappings.specs.declared.mapping.AlignDim.{AlignDim}
use Rattle.mappings.specs.declared.mapping.AlignDim.TheVariants.{Linear, At, Every}
use Rattle.mappings.specs.declared.mapping.Line.{Line}
use Rattle.mappings.specs.declared.mapping.MapDim.{MapDim}
use Rattle.hpf_base.specs.declared.index.Shape.{Shape}
use Rattle.mappings.specs.Alignment.{agrees_at}
use Rattle.expression_rules.specs.declared.dims.Dim.{Dim}
use Rattle.expression_rules.specs.Dims.{extent}
use Rattle.array_meaning.specs.State.{offset}
use Rattle.courses.specs.Courses.{Course, Fixed, Moving}

-- each passes the test of its dimension
abbrev pub dims_pass : (ℕ → ℤ → Bool) → ℕ → List ℤ → Bool
dims_pass test k [] = true
dims_pass test k (i ∷ is) = test k i && dims_pass test (k + 1) is

-- the subscripts that are the same at each tuple do
abbrev pub fixed_pass : (ℕ → ℤ → Bool) → ℕ → List Course → Bool
fixed_pass test k [] = true
fixed_pass test k (Fixed i ∷ cs) = test k i && fixed_pass test (k + 1) cs
fixed_pass test k (Moving axis first step ∷ cs) = fixed_pass test (k + 1) cs

-- those that move along an axis do, at a place on it
abbrev pub axis_pass : (ℕ → ℤ → Bool) → ℕ → List Course → ℕ → ℕ → Bool
axis_pass test k [] axis place = true
axis_pass test k (Fixed i ∷ cs) axis place = axis_pass test (k + 1) cs axis place
axis_pass test k (Moving a first step ∷ cs) axis place = (not (a == axis) || test k (first +ℤ (step *ℤ pos place))) && axis_pass test (k + 1) cs axis place

-- all axes are among the first
abbrev pub AxisBelow : ℕ → Course → Type 0
AxisBelow n (Fixed i) = ⊤
AxisBelow n (Moving axis first step) = axis < n

abbrev pub AxesBelow : ℕ → List Course → Type 0
AxesBelow n [] = ⊤
AxesBelow n (c ∷ cs) = AxisBelow n c × AxesBelow n cs

-- ---- bounds

abbrev pub no_dim : Dim
no_dim = record { lower = pos 1; upper = pos 0 }

abbrev pub in_dim : List Dim → ℕ → ℤ → Bool
in_dim ds k i = is_some (offset (slice_index_or ds k no_dim) i)

-- the shape of these dimensions
abbrev pub shape_of_dims : List Dim → Shape
shape_of_dims ds = record { lower = map (λ d. d.lower) ds; extent = map (λ d. pos (extent d)) ds }

-- ---- owners

-- an entry of a mapping asks no dimension of the array
abbrev pub agrees_alone : Line → ℕ → AlignDim → Bool
agrees_alone line own (Linear dim a b) = true
agrees_alone line own (At v) = agrees_at line own (Some v)
agrees_alone line own Every = true

-- it asks one dimension of the array
abbrev pub agrees_along : Line → ℕ → AlignDim → ℕ → ℤ → Bool
agrees_along line own (Linear dim a b) k i = not (dim == k) || agrees_at line own (Some ((a *ℤ i) +ℤ b))
agrees_along line own (At v) k i = true
agrees_along line own Every k i = true

abbrev pub alone : List ℕ → List MapDim → Bool
alone coordinates entries = list_all (λ e. agrees_alone e.line (slice_index coordinates e.grid_dim) e.align) entries

abbrev pub along_dims : List ℕ → List MapDim → ℕ → ℤ → Bool
along_dims coordinates [] k i = true
along_dims coordinates (e ∷ es) k i = agrees_along e.line (slice_index coordinates e.grid_dim) e.align k i && along_dims coordinates es k i
