-- Expressions that all meet one requirement.
use Rattle.std.proofs.Common.{◌≡◌, List, [], ◌∷◌, ◌++◌, Option, map, refl, ap, ◌∙◌}
use Rattle.std.specs.Prelude.{◌&&◌}
use Rattle.std.specs.List.{list_all}
use Rattle.syntax_tree.specs.Expression.{Expression}
use Rattle.expression_rules.specs.Symbols.{SymbolTable}
use Rattle.expression_rules.specs.declared.types.Context.{Context}
use Rattle.expression_rules.proofs.Folds.{all_append}
use Rattle.name_table.specs.Places.{Requirement, IntegerScalar, LogicalScalar, place, integer_scalars, meets, all_meet}
use Rattle.expression_rules.specs.Inner.{present}

-- each at a place of one kind
pub all_alike : (c : Context) (t : SymbolTable) (r : Requirement) (es : List Expression) → all_meet c t (map (place r) es) ≡ list_all (meets c t r) es
all_alike c t r [] = refl
all_alike c t r (e ∷ es) = ap (λ b. meets c t r e && b) (all_alike c t r es)

-- the header of a FORALL
pub header_meets : (c : Context) (t : SymbolTable) (es : List Expression) (mask : Option Expression) →
    all_meet c t (integer_scalars es ++ map (place LogicalScalar) (present mask)) ≡ (list_all (meets c t IntegerScalar) es && list_all (meets c t LogicalScalar) (present mask))
header_meets c t es mask =
    all_append (λ p. meets c t p.requirement p.expression) (integer_scalars es) (map (place LogicalScalar) (present mask))
    ∙ (λ i. all_alike c t IntegerScalar es i && all_alike c t LogicalScalar (present mask) i)
