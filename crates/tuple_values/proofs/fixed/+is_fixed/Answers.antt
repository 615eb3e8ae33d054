use Rattle.std.proofs.Common.{◌∙◌, ap}
use Rattle.tuple_values.specs.Fixed.{is_fixed}
use Rattle.tuple_values.proofs.Operands.{operated_is}
use Rattle.tuple_values.proofs.fixed.+is_fixed.Goals as goal

pub is_fixed-returns-in-Operated : goal.is_fixed-returns-in-Operated
is_fixed-returns-in-Operated t c = c.are_fixed.ensures ∙ ap is_fixed (operated_is c.args.f.now c.in-Operated.field-0 c.in-Operated.fs c.in-Operated.is)
