-- Of the claim.
-- How a copy lies: beside the element that is assigned at its position, where that is good, and else in blocks over all nodes.
use Rattle.std.specs.Prelude.{ℕ, ◌==◌, nat_le, nat_lt, int_le, int_lt, not, List, [], ◌∷◌, length, map, slice_get, slice_index_or, ℤ, pos, ◌+ℤ◌, ◌*ℤ◌, Bool, true, false, ◌&&◌, Option, Some, None, if◌then◌else◌}
use Rattle.std.specs.List.{list_all}
use Rattle.hpf_base.specs.declared.index.Shape.{Shape}
use Rattle.mappings.specs.declared.mapping.AlignDim.{AlignDim}
use Rattle.mappings.specs.declared.mapping.AlignDim.TheVariants.{Linear, At, Every}
use Rattle.mappings.specs.Alignment.{composed}
use Rattle.mappings.specs.Mapping.{moves_along}
use Rattle.machine_steps.specs.CopyLayout.{copy_extents, copy_shape, layout_of}
use Rattle.machine_steps.specs.Layout.{Layout}
use Rattle.machine_steps.specs.Space.{space_count}

-- what is assigned at a tuple of a space: the row of an array, and each of its subscripts by the tuple's positions, which count from 1
pub record Anchor : Type 0 where
  pub row : ℕ
  pub subscripts : List AlignDim

-- ---- when it is good

-- the subscript is in bounds (Fortran 95, 6.2.2)
abbrev pub is_in : ℤ → ℤ → ℤ → Bool
is_in lower extent i = int_le lower i && int_lt i (lower +ℤ extent)

-- it is so at the first position of its axis and at the last one, and so at all
abbrev pub is_inside : List ℕ → ℤ → ℤ → AlignDim → Bool
is_inside ns lower extent (Linear axis a b) =
    nat_lt axis (length ns) && (is_in lower extent ((a *ℤ pos 1) +ℤ b) && is_in lower extent ((a *ℤ pos (slice_index_or ns axis 0)) +ℤ b))
is_inside ns lower extent (At v) = is_in lower extent v
is_inside ns lower extent Every = false

-- all are, one for each dimension
abbrev pub are_inside : List ℕ → List ℤ → List ℤ → List AlignDim → Bool
are_inside ns [] [] [] = true
are_inside ns (l ∷ ls) (e ∷ es) (x ∷ xs) = is_inside ns l e x && are_inside ns ls es xs
are_inside ns ls es xs = false

-- two subscripts move along one axis
abbrev pub is_one_axis : Option ℕ → Option ℕ → Bool
is_one_axis (Some k) (Some j) = k == j
is_one_axis k j = false

-- no two of them do
abbrev pub are_apart : List AlignDim → Bool
are_apart [] = true
are_apart (x ∷ xs) = list_all (λ y. not (is_one_axis (moves_along x) (moves_along y))) xs && are_apart xs

-- in an array of this shape, over a space of these extents: the space isn't empty, all subscripts are in bounds at every position, and each
-- axis moves at most one of them
abbrev pub is_good : Shape → List ℕ → List AlignDim → Bool
is_good shape ns xs = not (space_count ns == 0) && (are_inside ns shape.lower shape.extent xs && are_apart xs)

-- ---- the layout

-- on an axis with one position nothing moves
abbrev pub settled : List ℕ → AlignDim → AlignDim
settled ns (Linear axis a b) = if nat_le (slice_index_or ns axis 0) 1 then At ((a *ℤ pos 1) +ℤ b) else Linear axis a b
settled ns (At v) = At v
settled ns Every = Every

-- a copy with these extents is aligned with an array that lies so (HPF 2.0, ALIGN)
abbrev pub beside : Layout → List ℕ → List AlignDim → Layout
beside layout ns xs = record { shape = copy_shape ns; mapping = composed layout.mapping (map (settled ns) xs) }

-- where there is such an array and its subscripts are good; else it lies in blocks
abbrev pub lies_by : ℕ → List ℕ → List AlignDim → Option Layout → Layout
lies_by nodes ns xs None = layout_of nodes ns
lies_by nodes ns xs (Some layout) = if is_good layout.shape ns xs then beside layout ns xs else layout_of nodes ns

-- a copy with these extents on so many nodes, by how all rows lie now
abbrev pub aligned_layout_of : (nodes : ℕ) → List Layout → Option Anchor → (extents : List ℕ) → Layout
aligned_layout_of nodes layouts None extents = layout_of nodes extents
aligned_layout_of nodes layouts (Some anchor) extents = lies_by nodes extents anchor.subscripts (slice_get layouts anchor.row)

-- a copy with a value for each tuple of a space of these extents
abbrev pub aligned_layout : (nodes : ℕ) → List Layout → Option Anchor → (extents : List ℕ) → Layout
aligned_layout nodes layouts anchor extents = aligned_layout_of nodes layouts anchor (copy_extents extents)

-- ---- what that means

-- the subscript at these positions
abbrev pub subscript_by : List ℤ → AlignDim → ℤ
subscript_by positions (Linear axis a b) = (a *ℤ slice_index_or positions axis (pos 0)) +ℤ b
subscript_by positions (At v) = v
subscript_by positions Every = pos 0
