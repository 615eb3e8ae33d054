-- Of the claim.
-- The rules of names and constants in declarations (Fortran 95, 5 and 7.1.6): what each item breaks of them, with its line and
-- the reason.
use Rattle.std.specs.Prelude.{Bool, true, false, ◌&&◌, not, nat_lt, nat_le, List, [], ◌∷◌, ◌++◌, length, ℤ, Option, Some, None}
use Rattle.std.specs.List.{list_any, list_all, flat_map}
use Rattle.hpf_base.specs.declared.limits.TheConstants.{MAX_RANK}
use Rattle.declarations.specs.declared.limits.TheConstants.{MAX_NAMES}
use Rattle.hpf_base.specs.declared.refusal.Reason.{Reason}
use Rattle.hpf_base.specs.declared.refusal.Reason.TheVariants as reason
use Rattle.hpf_base.specs.declared.refusal.Refusal.{Refusal}
use Rattle.syntax_tree.specs.Expression.{Expression}
use Rattle.syntax_tree.specs.Directive.{Bound}
use Rattle.expression_rules.specs.Symbols.{Name, SymbolTable, find, is_declared, satisfies, is_uninitialized}
use Rattle.expression_rules.specs.declared.evaluated.Evaluated.{Evaluated}
use Rattle.expression_rules.specs.declared.evaluated.Evaluated.TheVariants.{Invalid}
use Rattle.expression_rules.specs.Constants.{value}
use Rattle.expression_rules.specs.Operands.{are_operands}
use Rattle.expression_rules.specs.Inner.{present, bound_expressions}
use Rattle.declarations.specs.Reasons.{at, when}
use Rattle.declarations.specs.Declarations.{Item, DimensionAttribute, TypedEntity, Definition, TemplateEntity, ArrangementEntity, PlacedItem, after, bounds_of, is_past_limits, rank_in_text}

-- the expressions that must be constant where they stand; those of a directive may name what comes later
abbrev pub constants_of : Item → List Expression
constants_of (DimensionAttribute bs) = flat_map bound_expressions bs
constants_of (TypedEntity constant bs e) = flat_map bound_expressions (bounds_of bs) ++ present e.start
constants_of (Definition c) = c.value ∷ []
constants_of i = []

abbrev pub is_invalid : Evaluated ℤ → Bool
is_invalid Invalid = true
is_invalid v = false

-- a name that is declared twice, or is one too many
abbrev pub declared_again : SymbolTable → Name → List Reason
declared_again t x = when (is_declared x t) reason.BadName ++ when (nat_le MAX_NAMES (length t) && not (is_declared x t)) reason.Limit

-- an array past its limits
abbrev pub past_limits : SymbolTable → Bool → Option (List Bound) → Bool
past_limits t false (Some bs) = is_past_limits t bs
past_limits t constant bs = false

-- what is wrong with the name itself
abbrev pub own_reasons : SymbolTable → Item → List Reason
own_reasons t (DimensionAttribute bs) = []
own_reasons t (TypedEntity constant bs e) = declared_again t e.name ++ when (past_limits t constant bs) reason.Limit
own_reasons t (Definition c) = when (not (satisfies is_uninitialized (find c.name t))) reason.BadName
own_reasons t (TemplateEntity e) = declared_again t e.name ++ when (nat_lt MAX_RANK (rank_in_text e)) reason.Limit
own_reasons t (ArrangementEntity e) = declared_again t e.name ++ when (nat_lt MAX_RANK (rank_in_text e)) reason.Limit

-- what is wrong with an item, where these names are declared before it: also a name in an expression that isn't declared or
-- stands for no number, and an expression that isn't constant or divides by zero
abbrev pub item_reasons : SymbolTable → Item → List Reason
item_reasons t i =
    own_reasons t i
    ++ when (not (list_all (are_operands t) (constants_of i))) reason.BadName
    ++ when (list_any (λ e. is_invalid (value None t e)) (constants_of i)) reason.BadConstant

-- one item after the other
abbrev pub item_breaches : SymbolTable → List PlacedItem → List Refusal
item_breaches t [] = []
item_breaches t (i ∷ is) = at i.line (item_reasons t i.what) ++ item_breaches (after t i.what) is
