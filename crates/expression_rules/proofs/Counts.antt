-- How many parts a list has.
use Rattle.std.proofs.Common.{◌≡◌, suc, List, [], ◌∷◌, length, refl, ap}
use Rattle.syntax_tree.specs.declared.expr.Expr.{Expr}
use Rattle.syntax_tree.specs.declared.expr.Subscript.{Subscript}
use Rattle.syntax_tree.specs.Expression.{arguments_of, parts_of}
use Rattle.expression_rules.specs.Types.{count_of}

pub argument_count : (es : List Expr) → length es ≡ count_of (arguments_of es)
argument_count [] = refl
argument_count (e ∷ es) = ap suc (argument_count es)

pub part_count : (ss : List Subscript) → length ss ≡ count_of (parts_of ss)
part_count [] = refl
part_count (s ∷ ss) = ap suc (part_count ss)
