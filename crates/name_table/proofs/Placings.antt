-- The expressions at the places of a statement.
use Rattle.std.proofs.Common.{◌≡◌, Bool, List, [], ◌∷◌, ◌++◌, Option, map, refl, ap, ◌∙◌}
use Rattle.std.specs.Prelude.{◌&&◌}
use Rattle.std.specs.List.{list_all}
use Rattle.syntax_tree.specs.Expression.{Expression}
use Rattle.expression_rules.proofs.Folds.{all_append}
use Rattle.name_table.specs.Places.{Requirement, IntegerScalar, LogicalScalar, place, integer_scalars}
use Rattle.expression_rules.specs.Inner.{present}

pub same_expressions : (r : Requirement) (es : List Expression) → map (λ p. p.expression) (map (place r) es) ≡ es
same_expressions r [] = refl
same_expressions r (e ∷ es) = ap (λ l. e ∷ l) (same_expressions r es)

map_append : {X Y : Type 0} (f : X → Y) (xs ys : List X) → map f (xs ++ ys) ≡ map f xs ++ map f ys
map_append f [] ys = refl
map_append f (x ∷ xs) ys = ap (λ l. f x ∷ l) (map_append f xs ys)

-- those of the header of a FORALL
pub header_expressions : (test : Expression → Bool) (es : List Expression) (mask : Option Expression) →
    list_all test (map (λ p. p.expression) (integer_scalars es ++ map (place LogicalScalar) (present mask))) ≡ (list_all test es && list_all test (present mask))
header_expressions test es mask =
    ap (list_all test) (map_append (λ p. p.expression) (integer_scalars es) (map (place LogicalScalar) (present mask))
    ∙ (λ i. same_expressions IntegerScalar es i ++ same_expressions LogicalScalar (present mask) i))
    ∙ all_append test es (present mask)
