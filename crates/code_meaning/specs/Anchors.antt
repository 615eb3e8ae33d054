-- Of the claim.
-- What copies lie beside, by the slots: the subscripts of what is assigned, by the positions of a tuple.
use Rattle.std.specs.Prelude.{ℕ, suc, List, [], ◌∷◌, map, slice_index_or, ℤ, pos, ◌+ℤ◌, ◌-ℤ◌, ◌*ℤ◌, Bool, true, ◌&&◌, not, Option, Some, None, if◌then◌else◌}
use Rattle.op_tables.specs.Operators.{is_zero}
use Rattle.mappings.specs.declared.mapping.AlignDim.{AlignDim}
use Rattle.mappings.specs.declared.mapping.AlignDim.TheVariants.{Linear as LinearDim, At as AtDim}
use Rattle.aligned_copies.specs.Beside.{Anchor}
use Rattle.node_code.specs.Forall.{Linear, linear}
use Rattle.node_code.specs.Sequence.{Sequence}
use Rattle.node_code.specs.Forms.{Sub}
use Rattle.node_code.specs.Anchors.{AnchorSub, AnchorAt, AnchorAlong, FlatAnchor}
use Rattle.code_meaning.specs.Flat.{slots_value}
use Rattle.code_meaning.specs.Forms.{selections_in}
use Rattle.code_meaning.specs.ForallLimits.{term_of, slots_state, sequences_of}

-- what a subscript comes to, once for all tuples: a value that is linear in one index at most, or a triplet by its first value and its stride
pub data AnchorValue : Type 0 where
  LinearValue : Linear → AnchorValue
  TripletValue : (first stride : ℤ) → AnchorValue

-- ---- by the positions of a tuple, which count from 1

-- an index that takes these values has at position x the value `first + (x - 1) * step`
abbrev pub by_index : Sequence → (axis : ℕ) → (factor offset : ℤ) → AlignDim
by_index p axis factor offset = LinearDim axis (factor *ℤ p.step) ((factor *ℤ (p.first -ℤ p.step)) +ℤ offset)

abbrev pub none_taken : Sequence
none_taken = record { first = pos 0; step = pos 0; count = 0 }

-- where the indices take these values
abbrev pub by_linear : List Sequence → Option ℕ → (factor offset : ℤ) → AlignDim
by_linear axes None factor offset = AtDim offset
by_linear axes (Some k) factor offset = by_index (slice_index_or axes k none_taken) k factor offset

-- each triplet goes along the next axis
abbrev pub by_positions : List Sequence → (axis : ℕ) → List AnchorValue → List AlignDim
by_positions axes axis [] = []
by_positions axes axis (LinearValue x ∷ xs) = by_linear axes x.index x.factor x.offset ∷ by_positions axes axis xs
by_positions axes axis (TripletValue first stride ∷ xs) = LinearDim axis stride (first -ℤ stride) ∷ by_positions axes (suc axis) xs

-- no stride is 0
abbrev pub have_strides : List AnchorValue → Bool
have_strides [] = true
have_strides (LinearValue x ∷ xs) = have_strides xs
have_strides (TripletValue first stride ∷ xs) = not (is_zero stride) && have_strides xs

-- in an array by its row, with subscripts that come to these values, over indices that take those; a triplet with a stride of 0 has no values
abbrev pub anchor_by : (row : ℕ) → List Sequence → List AnchorValue → Option Anchor
anchor_by row axes xs = if have_strides xs then Some (record { row = row; subscripts = by_positions axes 0 xs }) else None

-- ---- by the slots

abbrev pub anchor_value : List ℤ → AnchorSub → AnchorValue
anchor_value slots (AnchorAt f) = LinearValue (linear (slots_state slots) (term_of f))
anchor_value slots (AnchorAlong first stride) = TripletValue (slots_value slots first) (slots_value slots stride)

-- over the space of these subscripts
abbrev pub anchor_in : List ℤ → (over : List Sub) → Option FlatAnchor → Option Anchor
anchor_in slots over None = None
anchor_in slots over (Some a) = anchor_by a.array (sequences_of (selections_in slots over)) (map (anchor_value slots) a.subscripts)
