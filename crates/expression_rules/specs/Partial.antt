-- Of private clauses.
-- What private contracts see of an optional expression, and of values that are put together one after the other. No public
-- clause cites this file.
use Rattle.std.specs.Prelude.{List, [], ◌∷◌, ◌++◌, ℤ, Option, Some, None}
use Rattle.syntax_tree.specs.declared.expr.Expr.{Expr}
use Rattle.syntax_tree.specs.Expression.{Maybe, Absent, Present, expression}
use Rattle.expression_rules.specs.declared.evaluated.Evaluated.{Evaluated}
use Rattle.expression_rules.specs.declared.evaluated.Evaluated.TheVariants.{Invalid, Unknown, Known}

-- an expression that may be there
abbrev pub maybe_of : Option Expr → Maybe
maybe_of None = Absent
maybe_of (Some e) = Present (expression e)

-- one value more
abbrev pub and_one : Evaluated (List ℤ) → Evaluated ℤ → Evaluated (List ℤ)
and_one Invalid f = Invalid
and_one Unknown Invalid = Invalid
and_one Unknown f = Unknown
and_one (Known ns) Invalid = Invalid
and_one (Known ns) Unknown = Unknown
and_one (Known ns) (Known n) = Known (ns ++ n ∷ [])

-- and more values
abbrev pub and_all : Evaluated (List ℤ) → Evaluated (List ℤ) → Evaluated (List ℤ)
and_all Invalid f = Invalid
and_all Unknown Invalid = Invalid
and_all Unknown f = Unknown
and_all (Known ns) Invalid = Invalid
and_all (Known ns) Unknown = Unknown
and_all (Known ns) (Known more) = Known (ns ++ more)
