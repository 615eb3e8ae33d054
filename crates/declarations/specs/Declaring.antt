-- Of a promise.
-- What private contracts see of declarations, which are taken one item after the other. No public clause cites this file.
use Rattle.std.specs.Prelude.{ℕ, Bool, true, false, ◌+◌, ◌++◌, not, min, nat_lt, List, [], ◌∷◌, map, ℤ, Option, Some, None, option_map, Vec, if◌then◌else◌}
use Rattle.std.specs.List.{list_all, list_any}
use Rattle.std.specs.declared.alloc.Global.{Global}
use Rattle.hpf_base.specs.declared.limits.TheConstants.{MAX_ELEMENTS}
use Rattle.hpf_base.specs.Refusal.{number_of}
use Rattle.hpf_base.specs.declared.refusal.Reason.{Reason}
use Rattle.hpf_base.specs.declared.refusal.Reason.TheVariants as reason
use Rattle.syntax_tree.specs.declared.decl.Bound.{Bound as HeldBound}
use Rattle.syntax_tree.specs.declared.decl.ConstDef.{ConstDef}
use Rattle.syntax_tree.specs.declared.decl.Decl.{Decl}
use Rattle.syntax_tree.specs.declared.decl.Entity.{Entity as HeldEntity}
use Rattle.syntax_tree.specs.Expression.{Expression}
use Rattle.syntax_tree.specs.Directive.{Bound, Entity, bound, entity, arrangement}
use Rattle.syntax_tree.specs.MainProgram.{declared_of, named_constant}
use Rattle.expression_rules.specs.Symbols.{SymbolTable}
use Rattle.expression_rules.specs.Constants.{value}
use Rattle.expression_rules.specs.Operands.{are_operands}
use Rattle.expression_rules.specs.Dims.{elements}
use Rattle.expression_rules.specs.declared.dims.Dim.{Dim}
use Rattle.expression_rules.specs.declared.symbols.Symbol.{Symbol}
use Rattle.expression_rules.specs.declared.symbols.Symbol.TheVariants as symbol
use Rattle.declarations.specs.declared.declared_items.Space.{Space}
use Rattle.declarations.specs.declared.declared_items.Space.TheVariants.{Template, Arrangement}
use Rattle.declarations.specs.Declarations.{Item, TypedEntity, Definition, TemplateEntity, ArrangementEntity, PlacedItem, items_of, own_or}
use Rattle.declarations.specs.DeclarationRules.{is_invalid}

-- the lesser of two reasons that there may be, and the least of a list
abbrev pub lesser : Option Reason → Option Reason → Option Reason
lesser None b = b
lesser (Some a) None = Some a
lesser (Some a) (Some b) = if nat_lt (number_of b) (number_of a) then Some b else Some a

abbrev pub least_reason : List Reason → Option Reason
least_reason [] = None
least_reason (why ∷ whys) = lesser (Some why) (least_reason whys)

abbrev pub reason_if : Bool → Reason → Option Reason
reason_if true why = Some why
reason_if false why = None

-- the least reason for which expressions that must be constant break a rule
abbrev pub constant_reason : SymbolTable → List Expression → Option Reason
constant_reason t es =
    lesser (reason_if (not (list_all (are_operands t) es)) reason.BadName) (reason_if (list_any (λ e. is_invalid (value None t e)) es) reason.BadConstant)

-- the bounds that a tree may hold
abbrev pub bounds_held : Option (Vec HeldBound Global) → Option (List Bound)
bounds_held bs = option_map (λ v. map bound v.items) bs

-- dimensions, and one or more after them, where all are known
abbrev pub and_dim : Option (List Dim) → Option ℤ → Option ℤ → Option (List Dim)
and_dim (Some ds) (Some l) (Some u) = Some (ds ++ record { lower = l; upper = u } ∷ [])
and_dim ds l u = None

abbrev pub and_dims : Option (List Dim) → Option (List Dim) → Option (List Dim)
and_dims (Some ds) (Some es) = Some (ds ++ es)
and_dims ds es = None

-- how many elements an array has, or one more than the limit where it has more than that
abbrev pub capped_elements : List Dim → ℕ
capped_elements ds = min (elements ds) (MAX_ELEMENTS + 1)

-- the items of declarations of a tree, with their line
abbrev pub placed_item : ℕ → Item → PlacedItem
placed_item line i = record { line = line; what = i }

abbrev pub typed_item : Bool → Option (List Bound) → HeldEntity → Item
typed_item constant bs e = TypedEntity constant (own_or (entity e).bounds bs) (entity e)

abbrev pub typed_items : ℕ → Bool → Option (List Bound) → List HeldEntity → List PlacedItem
typed_items line constant bs es = map (λ e. placed_item line (typed_item constant bs e)) es

abbrev pub definition_items : ℕ → List ConstDef → List PlacedItem
definition_items line cs = map (λ c. placed_item line (Definition (named_constant c))) cs

-- a template, or a processor arrangement
abbrev pub space_item : Space → Entity → Item
space_item Template e = TemplateEntity e
space_item Arrangement e = ArrangementEntity e

abbrev pub space_symbol : Space → ℕ → Symbol
space_symbol Template rank = symbol.Template rank
space_symbol Arrangement rank = symbol.Arrangement rank

abbrev pub space_items : ℕ → Space → List HeldEntity → List PlacedItem
space_items line space es = map (λ e. placed_item line (space_item space (arrangement e))) es

abbrev pub items_in : Decl → List PlacedItem
items_in d = map (placed_item d.line) (items_of (declared_of d.what))
