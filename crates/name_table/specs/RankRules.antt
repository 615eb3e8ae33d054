-- Of the claim.
-- The rules of types and ranks (Fortran 95, 6.2, 7.1, 7.4, 7.5, 8.1, 9.4 and 13.11; HPF 2.0, 3): each expression is what its
-- place asks.
use Rattle.std.specs.Prelude.{Bool, true, not, List, ◌++◌, map}
use Rattle.std.specs.List.{flat_map}
use Rattle.hpf_base.specs.declared.refusal.Reason.TheVariants as reason
use Rattle.hpf_base.specs.declared.refusal.Refusal.{Refusal}
use Rattle.syntax_tree.specs.Expression.{Expression}
use Rattle.syntax_tree.specs.Directive.{Entity}
use Rattle.syntax_tree.specs.MainProgram.{TypeDeclaration, Declared, ImplicitNone, Integer, Parameter, Directed, Declaration, MainProgram}
use Rattle.expression_rules.specs.Symbols.{SymbolTable, with_dummies}
use Rattle.expression_rules.specs.declared.types.Context.TheVariants as context
use Rattle.declarations.specs.Declarations.{bounds_of, symbol_table}
use Rattle.name_table.specs.Directives.{directive_dummies, directive_expressions, entity_expressions}
use Rattle.statement_walk.specs.Heads.{PlacedHead, all_heads}
use Rattle.declarations.specs.Reasons.{at, when}
use Rattle.name_table.specs.Places.{integer_scalars, places, context_of, all_meet}
use Rattle.expression_rules.specs.Inner.{present, bound_expressions}

abbrev pub typed_expressions : Entity → List Expression
typed_expressions e = entity_expressions e ++ present e.start

abbrev pub type_expressions : TypeDeclaration → List Expression
type_expressions d = flat_map bound_expressions (bounds_of d.bounds) ++ flat_map typed_expressions d.entities

-- in declarations and directives each expression is an integer scalar
abbrev pub declaration_meets : SymbolTable → Declared → Bool
declaration_meets t ImplicitNone = true
declaration_meets t (Integer d) = all_meet context.Statement t (integer_scalars (type_expressions d))
declaration_meets t (Parameter cs) = all_meet context.Statement t (integer_scalars (map (λ c. c.value) cs))
declaration_meets t (Directed d) = all_meet context.Directive (with_dummies t (directive_dummies d)) (integer_scalars (directive_expressions d))

abbrev pub declaration_breaches_at : SymbolTable → Declaration → List Refusal
declaration_breaches_at t d = at d.line (when (not (declaration_meets t d.what)) reason.BadRank)

abbrev pub rank_breaches_at : SymbolTable → PlacedHead → List Refusal
rank_breaches_at t p = at p.line (when (not (all_meet (context_of p.what) t (places p.what))) reason.BadRank)

-- all that a program breaks of the rules of types and ranks
abbrev pub rank_breaches : MainProgram → List Refusal
rank_breaches p =
    flat_map (declaration_breaches_at (symbol_table p.declarations)) p.declarations
    ++ flat_map (rank_breaches_at (symbol_table p.declarations)) (all_heads p.body)
