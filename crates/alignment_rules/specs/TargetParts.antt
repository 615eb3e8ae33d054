-- Of private clauses.
-- What private contracts see of align targets. No public clause cites this file.
use Rattle.std.specs.Prelude.{pos, Option, Some}
use Rattle.expression_rules.specs.declared.dims.Dim.{Dim}
use Rattle.alignment_rules.specs.declared.alignment_values.TargetValue.{TargetValue}
use Rattle.alignment_rules.specs.declared.alignment_values.TargetValue.TheVariants.{Triplet}
use Rattle.alignment_rules.specs.AlignmentValues.{lower_of, upper_of}

-- what `:` stands for in a dimension of the target of these bounds
abbrev pub full_value : Option Dim → TargetValue
full_value b = Triplet (lower_of b) (upper_of b) (Some (pos 1))
