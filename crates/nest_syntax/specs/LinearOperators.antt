-- Of the claim.
-- The operators of subscripts and bounds.
use Rattle.std.specs.Prelude.{Bool, true, false}
use Rattle.op_tables.specs.declared.op.Op.{Op}
use Rattle.op_tables.specs.declared.op.Op.TheVariants as op

-- signs, sums and products, none of which has a fault
abbrev pub is_linear_operator : Op → Bool
is_linear_operator op.Neg = true
is_linear_operator op.Plus = true
is_linear_operator op.Add = true
is_linear_operator op.Sub = true
is_linear_operator op.Mul = true
is_linear_operator o = false
