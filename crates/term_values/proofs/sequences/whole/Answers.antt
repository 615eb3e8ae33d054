use Rattle.std.proofs.Common.{◌∙◌, ap, arith}
use Rattle.std.specs.Prelude.{unsigned_abs}
use Rattle.std.proofs.lemmas.Int.{ints, to_z-of_z}
use mir.Syntax.{w128}
use Rattle.term_values.proofs.Counts.{abs_is, none_is}
use Rattle.term_values.proofs.sequences.whole.Goals as goal

pub returns-then-z-lt0 : goal.returns-then-z-lt0
returns-then-z-lt0 c = none_is c.args.z (grind (arith, ints))

pub returns-else-z-lt0 : goal.returns-else-z-lt0
returns-else-z-lt0 c = ap unsigned_abs (to_z-of_z w128 c.args.z c.ranges.z) ∙ abs_is c.args.z (grind (arith, ints))
