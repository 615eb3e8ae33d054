-- What holds of a statement by itself that breaks no rule of names, types and ranks.
use Rattle.std.proofs.Common.{◌≡◌, Bool, true, List, [], ◌∷◌}
use Rattle.std.specs.Prelude.{◌&&◌, ◌||◌, not, length, nat_lt}
use Rattle.std.specs.List.{AllByRecursion, flat_map, list_all}
use Rattle.name_table.specs.declared.limits.TheConstants.{MAX_INDICES}
use Rattle.hpf_base.specs.declared.refusal.Reason.TheVariants as reason
use Rattle.syntax_tree.specs.MainProgram.{MainProgram}
use Rattle.expression_rules.specs.Operands.{are_operands}
use Rattle.expression_rules.specs.Symbols.{SymbolTable}
use Rattle.statement_walk.specs.Heads.{PlacedHead, all_heads}
use Rattle.declarations.specs.Declarations.{symbol_table}
use Rattle.declarations.specs.Reasons.{when}
use Rattle.name_table.specs.NameRules.{expressions_of, header_names, name_breaches, name_breaches_at, name_reasons, own_uses}
use Rattle.name_table.specs.Places.{all_meet, context_of, places}
use Rattle.name_table.specs.RankRules.{declaration_breaches_at, rank_breaches, rank_breaches_at}
use Rattle.name_table.specs.Resolved.{HasNoBreach}
use Rattle.name_table.specs.Uses.{allows, repeats}
use Rattle.well_formed.proofs.RankedStatements.{IsTypedHead, all_typed_heads}
use Rattle.name_table.proofs.Tests.{all_empty, both, empties, fails, holds, neither, no_breach, no_reason}

-- its expressions name operands, its own names stand for what their uses ask, and each expression is what its place asks
pub record IsKept (t : SymbolTable) (h : PlacedHead) : Type 0 where
  pub operands : list_all (are_operands t) (expressions_of h.what) ≡ true
  pub uses : list_all (allows t h.do_variables) (own_uses h.what) ≡ true
  pub met : all_meet (context_of h.what) t (places h.what) ≡ true

kept : (t : SymbolTable) (h : PlacedHead) → name_breaches_at t h ≡ [] → rank_breaches_at t h ≡ [] → IsKept t h
kept t h names ranks =
    let allowed : Bool = list_all (allows t h.do_variables) (own_uses h.what) in
    let operands : Bool = list_all (are_operands t) (expressions_of h.what) in
    let twice : Bool = repeats (header_names h.what) in
    let reasons = empties (when (not (allowed && operands) || twice) reason.BadName) (when (nat_lt MAX_INDICES (length (header_names h.what))) reason.Limit)
    (no_reason h.line (name_reasons t h) names) in
    let s = both allowed operands (holds (allowed && operands) (neither (not (allowed && operands)) twice (fails _ reason.BadName reasons.0)).0) in
    let all : Bool = all_meet (context_of h.what) t (places h.what) in
    record { operands = s.1; uses = s.0; met = holds all (fails (not all) reason.BadRank (no_reason h.line _ ranks)) }

each_kept : (t : SymbolTable) (hs : List PlacedHead) → AllByRecursion (λ h. name_breaches_at t h ≡ []) hs → AllByRecursion (λ h. rank_breaches_at t h ≡ []) hs →
    AllByRecursion (IsKept t) hs
each_kept t [] names ranks = tt
each_kept t (h ∷ hs) names ranks = (kept t h names.0 ranks.0, each_kept t hs names.1 ranks.1)

-- of a program that breaks no rule, none of its statements does
record AreKept (p : MainProgram) : Type 0 where
  names : AllByRecursion (λ h. name_breaches_at (symbol_table p.declarations) h ≡ []) (all_heads p.body)
  ranks : AllByRecursion (λ h. rank_breaches_at (symbol_table p.declarations) h ≡ []) (all_heads p.body)

are_kept : (p : MainProgram) → HasNoBreach p → AreKept p
are_kept p rules =
    let t : SymbolTable = symbol_table p.declarations in
    let names = (empties _ _ (empties _ _ (empties _ _ (no_breach (name_breaches p) rules.names)).0).0).1 in
    let ranks = (empties (flat_map (declaration_breaches_at t) p.declarations) (flat_map (rank_breaches_at t) (all_heads p.body)) (no_breach (rank_breaches p) rules.ranks)).1 in
    record { names = all_empty (name_breaches_at t) (all_heads p.body) names; ranks = all_empty (rank_breaches_at t) (all_heads p.body) ranks }

pub all_kept : (p : MainProgram) → HasNoBreach p → AllByRecursion (IsKept (symbol_table p.declarations)) (all_heads p.body)
all_kept p rules = let all = are_kept p rules in each_kept (symbol_table p.declarations) (all_heads p.body) all.names all.ranks

-- each of its expressions has a type and a rank
pub all_typed : (p : MainProgram) → HasNoBreach p → AllByRecursion (IsTypedHead (symbol_table p.declarations)) (all_heads p.body)
all_typed p rules = let all = are_kept p rules in all_typed_heads (symbol_table p.declarations) (all_heads p.body) all.names all.ranks
