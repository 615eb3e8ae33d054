-- Of the claim.
-- The rules of names and constants (Fortran 95, 5, 7 and 14.1.2; HPF 2.0, 3): what each part of a program breaks of them, with
-- its line and the reason.
use Rattle.std.specs.Prelude.{◌&&◌, ◌||◌, not, nat_lt, bytes_eq, Bool, false, List, [], ◌∷◌, ◌++◌, map, length, slice_get, Option, Some, None}
use Rattle.std.specs.List.{list_all, flat_map}
use Rattle.name_table.specs.declared.limits.TheConstants.{MAX_INDICES}
use Rattle.hpf_base.specs.declared.refusal.Reason.{Reason}
use Rattle.hpf_base.specs.declared.refusal.Reason.TheVariants as reason
use Rattle.hpf_base.specs.declared.refusal.Refusal.{Refusal}
use Rattle.syntax_tree.specs.Expression.{Expression}
use Rattle.syntax_tree.specs.MainProgram.{Declared, Directed, Declaration, MainProgram}
use Rattle.expression_rules.specs.Symbols.{Name, SymbolTable, with_dummies}
use Rattle.expression_rules.specs.Operands.{are_operands}
use Rattle.expression_rules.specs.Inner.{present}
use Rattle.statement_walk.specs.Head.{Head}
use Rattle.statement_walk.specs.Head as head
use Rattle.statement_walk.specs.Heads.{PlacedHead, indices_of, all_heads}
use Rattle.statement_walk.specs.Nests.{Nest, nests}
use Rattle.declarations.specs.Declarations.{items, symbol_table}
use Rattle.declarations.specs.DeclarationRules.{item_breaches}
use Rattle.declarations.specs.Reasons.{at, when}
use Rattle.name_table.specs.Directives.{directive_dummies, directive_expressions, directive_names, distribution_names}
use Rattle.name_table.specs.Places.{places}
use Rattle.name_table.specs.Uses.{Use, Assigned, DoVariable, ForallIndex, Listed, allows, repeats}

-- ---- directives among the declarations

-- a directive among the declarations names what isn't declared, or in an expression what stands for no number
abbrev pub directive_reasons : SymbolTable → Declared → List Reason
directive_reasons t (Directed d) =
    when (not (list_all (allows t []) (map Listed (directive_names d))
    && list_all (are_operands (with_dummies t (directive_dummies d))) (directive_expressions d))) reason.BadName
directive_reasons t d = []

-- ---- statements

-- the names that a statement uses, beside those in its expressions
abbrev pub own_uses : Head → List Use
own_uses (head.Assignment left right) = Assigned [] left.name ∷ []
own_uses (head.MaskedAssignment mask left right) = Assigned [] left.name ∷ []
own_uses (head.ForallAssignment axes left right) = Assigned (indices_of axes) left.name ∷ []
own_uses (head.Independent m) = map Listed (m.new ++ m.reduction)
own_uses (head.Do mark axis) = DoVariable axis.index ∷ []
own_uses (head.Forall axes mask) = map ForallIndex (indices_of axes)
own_uses (head.Redistribute d) = map Listed (distribution_names d)
own_uses h = []

-- the indices of a FORALL
abbrev pub header_names : Head → List Name
header_names (head.Forall axes mask) = indices_of axes
header_names h = []

abbrev pub expressions_of : Head → List Expression
expressions_of h = map (λ p. p.expression) (places h)

-- what is wrong with the names of a statement: one that doesn't stand for what its use asks, an index that stands twice in the
-- header of a FORALL, and an index too many
abbrev pub name_reasons : SymbolTable → PlacedHead → List Reason
name_reasons t p =
    when (not (list_all (allows t p.do_variables) (own_uses p.what) && list_all (are_operands t) (expressions_of p.what))
    || repeats (header_names p.what)) reason.BadName
    ++ when (nat_lt MAX_INDICES (length (header_names p.what))) reason.Limit

abbrev pub name_breaches_at : SymbolTable → PlacedHead → List Refusal
name_breaches_at t p = at p.line (name_reasons t p)

-- a nest has a loop too many
abbrev pub nest_breaches : Nest → List Refusal
nest_breaches n = flat_map (λ l. at l.line (reason.Limit ∷ [])) (present (slice_get n.loops MAX_INDICES))

-- ---- programs

-- a name after END PROGRAM that isn't the program's
abbrev pub is_named : Option Name → Name → Bool
is_named None x = false
is_named (Some y) x = bytes_eq y x

abbrev pub end_breaches : MainProgram → List Refusal
end_breaches p = at p.end_line (when (not (list_all (is_named p.name) (present p.end_name))) reason.BadName)

abbrev pub directive_breaches_at : SymbolTable → Declaration → List Refusal
directive_breaches_at t d = at d.line (directive_reasons t d.what)

-- all that a program breaks of the rules of names and constants
abbrev pub name_breaches : MainProgram → List Refusal
name_breaches p =
    item_breaches [] (items p.declarations)
    ++ flat_map (directive_breaches_at (symbol_table p.declarations)) p.declarations
    ++ flat_map (name_breaches_at (symbol_table p.declarations)) (all_heads p.body)
    ++ flat_map nest_breaches (nests p.body)
    ++ end_breaches p
