-- The left side of an assignment, as a variable and as an expression.
use Rattle.std.specs.Prelude.{◌≡◌, ℕ, List, refl}
use Rattle.syntax_tree.specs.declared.expr.Ref.{Ref}
use Rattle.syntax_tree.specs.declared.expr.Expr.TheVariants as expr
use Rattle.syntax_tree.specs.declared.expr.Expr.TheBlock.{Held-Ref-subs, Ref-subs-None', Ref-subs-Some', back-Ref-subs}
use Rattle.syntax_tree.specs.Expression.{expression, reference}
use Rattle.syntax_tree.specs.Statement.{designator, variable, subscripts_of}

named : (x : List ℕ) (s : Held-Ref-subs) → designator (record { name = x; subscripts = subscripts_of s }) ≡ reference x s
named x Ref-subs-None' = refl
named x (Ref-subs-Some' shape row) = refl

pub designated : (r : Ref) → designator (variable r) ≡ expression (expr.Ref r)
designated r = named r.name (back-Ref-subs r.subs)
