-- Of the claim.
-- What the names in a body stand for.
use Rattle.std.specs.Prelude.{Bool, true, false, ◌||◌, ◌&&◌, not, List, Option, Some}
use Rattle.expression_rules.specs.Symbols.{Name, is_among}
use Rattle.name_table.specs.Entries.{declared_as}
use Rattle.name_table.specs.declared.names.Entry.{Entry}
use Rattle.name_table.specs.declared.names.What.{What}
use Rattle.name_table.specs.declared.names.What.TheVariants.{Scalar, Constant}

-- the names that a body may use: the declared ones, its indices, and the scalars that it assigns
pub record BodyNames : Type 0 where
  pub declared : List Entry
  pub indices : List Name
  pub assigned : List Name

abbrev pub is_constant : Option What → Bool
is_constant (Some (Constant n)) = true
is_constant w = false

abbrev pub is_scalar : Option What → Bool
is_scalar (Some (Scalar n)) = true
is_scalar w = false

-- it keeps its value in the body: a constant, or a scalar that the body doesn't assign
abbrev pub is_fixed : BodyNames → Name → Bool
is_fixed b x = is_constant (declared_as b.declared x) || (is_scalar (declared_as b.declared x) && not (is_among x b.assigned))
