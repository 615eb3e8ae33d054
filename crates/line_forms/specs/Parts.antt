-- Of the claim.
-- The parts that several forms share.
use Rattle.std.specs.Prelude.{map, Option, Some, None, option_map}
use Rattle.syntax_tree.specs.declared.decl.Bound.{Bound}
use Rattle.syntax_tree.specs.declared.expr.Expr.{Expr as Tree}
use Rattle.syntax_tree.specs.declared.expr.Ref.{Ref}
use Rattle.syntax_tree.specs.declared.stmt.Item.{Item}
use Rattle.syntax_tree.specs.declared.stmt.Item.TheVariants as item
use Rattle.syntax_tree.specs.Expression.{expression, subscript}
use Rattle.line_forms.specs.Marks.{opening, closing, colon}
use Rattle.line_forms.specs.Grammar.{Grammar, Value, Output, Shown, Characters, Identifier, Expr, Subscript, Prefixed, Suffixed, Sequence, Optional, CommaList}

-- `( list )`
abbrev pub enclosed : Grammar → Grammar
enclosed g = Prefixed opening (Suffixed (CommaList g) closing)

-- `[( list )]`
abbrev pub optional_enclosed : Grammar → Grammar
optional_enclosed g = Optional opening (Suffixed (CommaList g) closing)

-- expr [: expr], of which the first is the lower bound where a second one stands (Fortran 95, R513)
abbrev pub bound : Grammar
bound = Sequence Expr (Optional colon Expr)

abbrev bounds_of : Option Tree → Tree → Value bound
bounds_of None upper = (expression upper, None)
bounds_of (Some lower) upper = (expression lower, Some (expression upper))

abbrev pub bound_of : Bound → Value bound
bound_of b = bounds_of b.lower b.upper

-- an item of a PRINT
abbrev pub output_of : Item → Output
output_of (item.Value e) = Shown (expression e)
output_of (item.Text bytes) = Characters bytes

-- name [( subscript list )], which is assigned to (Fortran 95, R601)
abbrev pub variable : Grammar
variable = Sequence Identifier (optional_enclosed Subscript)

abbrev pub variable_of : Ref → Value variable
variable_of r = (r.name, option_map (λ v. map subscript v.items) r.subs)
