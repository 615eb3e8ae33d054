-- Of a promise.
-- Subscripts of an anchor by the positions of a tuple, as alignments.
use Rattle.std.specs.Prelude.{ℕ, ℤ, ◌-ℤ◌, Option, Some, None}
use Rattle.mappings.specs.declared.mapping.AlignDim.{AlignDim}
use Rattle.mappings.specs.declared.mapping.AlignDim.TheVariants.{Linear, At}
use Rattle.copy_anchors.specs.declared.anchor.Subscript.{Subscript}

-- a subscript that is `first` at position 1 of its axis, and by `step` more at each next one
abbrev pub along : Option ℕ → ℤ → ℤ → AlignDim
along None first step = At first
along (Some axis) first step = Linear axis step (first -ℤ step)

abbrev pub align_of : Subscript → AlignDim
align_of s = along s.axis s.first s.step
