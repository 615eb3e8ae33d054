-- Of private clauses.
-- No public clause cites this file. Subscripts of what copies lie beside, one by one.
use Rattle.std.specs.Prelude.{ℕ, suc, List, ◌++◌, ℤ, ◌-ℤ◌, Option, Some, None, if◌then◌else◌}
use Rattle.op_tables.specs.Operators.{is_zero}
use Rattle.mappings.specs.declared.mapping.AlignDim.{AlignDim}
use Rattle.mappings.specs.declared.mapping.AlignDim.TheVariants.{Linear}
use Rattle.aligned_copies.specs.Beside.{Anchor}
use Rattle.array_meaning.specs.declared.sections.Sequence.{Sequence}
use Rattle.node_code.specs.Anchors.{AnchorSub, AnchorAt, AnchorAlong}
use Rattle.code_meaning.specs.Anchors.{AnchorValue, LinearValue, TripletValue, by_linear, by_positions, have_strides}

-- a triplet along this axis, where its stride isn't 0
abbrev pub triplet_along : (axis : ℕ) → (first stride : ℤ) → Option AlignDim
triplet_along axis first stride = if is_zero stride then None else Some (Linear axis stride (first -ℤ stride))

-- a subscript, where a triplet goes along this axis
abbrev pub subscript_of : List Sequence → (axis : ℕ) → AnchorValue → Option AlignDim
subscript_of axes axis (LinearValue x) = Some (by_linear axes x.index x.factor x.offset)
subscript_of axes axis (TripletValue first stride) = triplet_along axis first stride

-- the axis of the next triplet
abbrev pub axis_after : ℕ → AnchorSub → ℕ
axis_after axis (AnchorAt f) = axis
axis_after axis (AnchorAlong first stride) = suc axis

-- an array by its row, with these subscripts and those that come to these values, the first triplet of which goes along this axis
abbrev pub anchor_from : (row : ℕ) → List Sequence → List AlignDim → (axis : ℕ) → List AnchorValue → Option Anchor
anchor_from row axes made axis xs = if have_strides xs then Some (record { row = row; subscripts = made ++ by_positions axes axis xs }) else None
