-- Of private clauses.
-- What private contracts see of a subscript that is taken apart. No public clause cites this file.
use Rattle.std.specs.Prelude.{Bool, true, false, bytes_eq, List, [], ◌∷◌, Option, Some, None, if◌then◌else◌}
use Rattle.std.specs.List.{list_all}
use Rattle.op_tables.specs.declared.op.Op.{Op}
use Rattle.op_tables.specs.declared.op.Op.TheVariants as op
use Rattle.expression_rules.specs.Symbols.{Name}
use Rattle.body_forms.specs.declared.linear_forms.Linearity.{Linearity}
use Rattle.body_forms.specs.declared.linear_forms.Linearity.TheVariants.{Nonlinear, Constant, LinearIn}

-- the form of an expression that names these indices
abbrev pub form_of : Option (List Name) → Linearity
form_of None = Nonlinear
form_of (Some []) = Constant
form_of (Some (x ∷ xs)) = if list_all (bytes_eq x) xs then LinearIn x else Nonlinear

abbrev pub is_linear_form : Linearity → Bool
is_linear_form Nonlinear = false
is_linear_form f = true

abbrev pub is_constant_form : Linearity → Bool
is_constant_form Constant = true
is_constant_form f = false

-- of a sum, a product and any operation
abbrev pub sum : Linearity → Linearity → Linearity
sum Nonlinear b = Nonlinear
sum Constant b = b
sum (LinearIn x) Nonlinear = Nonlinear
sum (LinearIn x) Constant = LinearIn x
sum (LinearIn x) (LinearIn y) = if bytes_eq x y then LinearIn x else Nonlinear

abbrev pub product : Linearity → Linearity → Linearity
product Nonlinear b = Nonlinear
product Constant b = b
product (LinearIn x) Nonlinear = Nonlinear
product (LinearIn x) Constant = LinearIn x
product (LinearIn x) (LinearIn y) = Nonlinear

abbrev pub operation : Op → Linearity → Linearity → Linearity
operation op.Add a b = sum a b
operation op.Sub a b = sum a b
operation op.Mul a b = product a b
operation o a b = Nonlinear
