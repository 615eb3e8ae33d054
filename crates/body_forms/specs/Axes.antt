-- Of a promise.
-- What private contracts see of the bounds and the step of an index. Of public clauses only that of `axis_passes` cites this file.
use Rattle.std.specs.Prelude.{[], Option, option_map}
use Rattle.syntax_tree.specs.declared.expr.Expr.{Expr}
use Rattle.syntax_tree.specs.Expression.{expression}
use Rattle.syntax_tree.specs.Statement.{Axis}

-- an axis, where its index says nothing
abbrev pub axis_of : Expr → Expr → Option Expr → Axis
axis_of first last step = record { index = []; first = expression first; last = expression last; step = option_map expression step }
