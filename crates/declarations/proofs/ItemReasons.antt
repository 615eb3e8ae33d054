-- The least of the reasons of one item.
use Rattle.std.proofs.Common.{◌≡◌, Bool, List, [], ◌∷◌, ◌++◌, nat_lt, Option, None, ap, ◌∙◌}
use Rattle.std.specs.Prelude.{not}
use Rattle.std.specs.List.{flat_map, list_all, list_any}
use Rattle.hpf_base.specs.declared.limits.TheConstants.{MAX_RANK}
use Rattle.hpf_base.specs.declared.refusal.Reason.{Reason}
use Rattle.hpf_base.specs.declared.refusal.Reason.TheVariants as reason
use Rattle.syntax_tree.specs.Directive.{Bound, Entity}
use Rattle.syntax_tree.specs.MainProgram.{NamedConstant}
use Rattle.expression_rules.specs.Symbols.{SymbolTable, find, is_uninitialized, satisfies}
use Rattle.expression_rules.specs.Constants.{value}
use Rattle.expression_rules.specs.Operands.{are_operands}
use Rattle.declarations.specs.declared.declared_items.Space.{Space}
use Rattle.declarations.specs.declared.declared_items.Space.TheVariants.{Template, Arrangement}
use Rattle.declarations.specs.Declarations.{Item, Definition, TypedEntity, bounds_of, rank_in_text}
use Rattle.declarations.specs.Declaring.{constant_reason, least_reason, lesser, reason_if, space_item}
use Rattle.declarations.specs.DeclarationRules.{constants_of, declared_again, is_invalid, item_reasons, own_reasons, past_limits}
use Rattle.declarations.specs.Reasons.{when}
use Rattle.expression_rules.specs.Inner.{bound_expressions, present}
use Rattle.declarations.proofs.ConstantLists.{constant_append}
use Rattle.declarations.proofs.LeastReasons.{least_reason_append, least_reason_when, lesser_assoc, lesser_none}

-- what is wrong with a list of reasons, and with one more that a test gives
more_reason : (whys : List Reason) (test : Bool) (why : Reason) → least_reason (whys ++ when test why) ≡ lesser (least_reason whys) (reason_if test why)
more_reason whys test why = least_reason_append whys (when test why) ∙ ap (lesser (least_reason whys)) (least_reason_when test why)

-- what is wrong with an item: its name, and its expressions
pub item_reason : (t : SymbolTable) (i : Item) → least_reason (item_reasons t i) ≡ lesser (least_reason (own_reasons t i)) (constant_reason t (constants_of i))
item_reason t i =
    let named = not (list_all (are_operands t) (constants_of i)) in
    let invalid = list_any (λ e. is_invalid (value None t e)) (constants_of i) in
    more_reason (own_reasons t i ++ when named reason.BadName) invalid reason.BadConstant
    ∙ ap (λ r. lesser r (reason_if invalid reason.BadConstant)) (more_reason (own_reasons t i) named reason.BadName)
    ∙ lesser_assoc (least_reason (own_reasons t i)) (reason_if named reason.BadName) (reason_if invalid reason.BadConstant)

-- a template or an arrangement
pub space_reason : (t : SymbolTable) (s : Space) (e : Entity) →
    least_reason (item_reasons t (space_item s e)) ≡ lesser (least_reason (declared_again t e.name)) (reason_if (nat_lt MAX_RANK (rank_in_text e)) reason.Limit)
space_reason t Template e = item_reason t (space_item Template e) ∙ lesser_none _ ∙ more_reason (declared_again t e.name) (nat_lt MAX_RANK (rank_in_text e)) reason.Limit
space_reason t Arrangement e = item_reason t (space_item Arrangement e) ∙ lesser_none _ ∙ more_reason (declared_again t e.name) (nat_lt MAX_RANK (rank_in_text e)) reason.Limit

-- a constant of a PARAMETER statement
pub definition_by_tests : (t : SymbolTable) (c : NamedConstant) →
    least_reason (item_reasons t (Definition c)) ≡ lesser (reason_if (not (satisfies is_uninitialized (find c.name t))) reason.BadName) (constant_reason t (c.value ∷ []))
definition_by_tests t c = item_reason t (Definition c) ∙ ap (λ r. lesser r (constant_reason t (c.value ∷ [])))
    (least_reason_when (not (satisfies is_uninitialized (find c.name t))) reason.BadName)

-- an entity of INTEGER
pub typed_by_tests : (t : SymbolTable) (constant : Bool) (bs : Option (List Bound)) (e : Entity) →
    least_reason (item_reasons t (TypedEntity constant bs e))
    ≡ lesser (lesser (least_reason (declared_again t e.name)) (reason_if (past_limits t constant bs) reason.Limit))
    (lesser (constant_reason t (flat_map bound_expressions (bounds_of bs))) (constant_reason t (present e.start)))
typed_by_tests t constant bs e =
    item_reason t (TypedEntity constant bs e)
    ∙ (λ i. lesser (more_reason (declared_again t e.name) (past_limits t constant bs) reason.Limit i)
    (constant_append t (flat_map bound_expressions (bounds_of bs)) (present e.start) i))
