use Rattle.std.proofs.Common.{rules, w64, ◌∙◌}
use Rattle.std.proofs.lemmas.Int.{to_z-of_z}
use Rattle.op_tables.proofs.Wrapping.{wrapping_div_is}
use Rattle.scalar_values.proofs.operators.wrapping_quotient.Goals as goal

pub returns : goal.returns
returns c =
    to_z-of_z w64 _ (search rules)
    ∙ simp (to_z-of_z w64 c.args.a c.ranges.a, to_z-of_z w64 c.args.b c.ranges.b) at c.wrapping_div.ensures
    ∙ wrapping_div_is c.args.a c.args.b c.ranges.a
