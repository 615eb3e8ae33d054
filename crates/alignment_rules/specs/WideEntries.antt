-- Of private clauses.
-- What private contracts see of the entries of alignments, whose numbers are wide until they are within the limits. No public clause cites
-- this file.
use Rattle.std.specs.Prelude.{◌+◌, ◌^◌, ◌≤ℤ◌, ⊤, pos, neg_ℤ, ◌∷◌, [], ◌++◌, Option, Some, None, if◌then◌else◌}
use Rattle.mappings.specs.declared.mapping.AlignDim.{AlignDim}
use Rattle.mappings.specs.declared.mapping.AlignDim.TheVariants as align
use Rattle.alignment_rules.specs.declared.alignment_values.Alignment.{Alignment}
use Rattle.alignment_rules.specs.declared.alignment_values.Alignment.TheVariants.{Known, PastLimits, Unknown}
use Rattle.alignment_rules.specs.declared.entries.WideAlign.{WideAlign}
use Rattle.alignment_rules.specs.declared.entries.WideAlign.TheVariants.{Linear, At, Every}
use Rattle.alignment_rules.specs.AlignmentEntries.{is_past_limits}

abbrev pub align_dim : WideAlign → AlignDim
align_dim (Linear dim a b) = align.Linear dim a b
align_dim (At v) = align.At v
align_dim Every = align.Every

-- b is as small as the numbers of a triplet make it
abbrev pub IsNear : WideAlign → Type 0
IsNear (Linear dim a b) = (neg_ℤ (pos (2 ^ 126 + 2 ^ 63)) ≤ℤ b) × (b ≤ℤ pos (2 ^ 126 + 2 ^ 63))
IsNear (At v) = ⊤
IsNear Every = ⊤

-- the alignment of one dimension, and of two rows of dimensions together
abbrev pub single : Option AlignDim → Alignment
single None = Unknown
single (Some e) = if is_past_limits e then PastLimits else Known (e ∷ [])

abbrev pub joined : Alignment → Alignment → Alignment
joined Unknown b = Unknown
joined PastLimits Unknown = Unknown
joined PastLimits PastLimits = PastLimits
joined PastLimits (Known ys) = PastLimits
joined (Known xs) Unknown = Unknown
joined (Known xs) PastLimits = PastLimits
joined (Known xs) (Known ys) = Known (xs ++ ys)
