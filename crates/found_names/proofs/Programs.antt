-- Programs that break no rule.
use Rattle.std.proofs.Common.{◌≡◌, List, [], ◌∷◌, map, Some, inl, inr}
use Rattle.std.specs.List.{AllByRecursion}
use Rattle.syntax_tree.specs.MainProgram.{MainProgram}
use Rattle.syntax_tree.specs.Expression.{Expression}
use Rattle.expression_rules.specs.Symbols.{Name, SymbolTable, find}
use Rattle.expression_rules.specs.declared.symbols.Symbol.{Symbol}
use Rattle.expression_rules.specs.declared.types.Context.TheVariants.{Statement}
use Rattle.statement_walk.specs.Head.{Head}
use Rattle.statement_walk.specs.Head as head
use Rattle.statement_walk.specs.Heads.{PlacedHead, all_heads}
use Rattle.declarations.specs.Declarations.{symbol_table}
use Rattle.name_table.specs.Entries.{declared_as, entries, entry}
use Rattle.name_table.specs.KnownSymbols.{AllAreKnown}
use Rattle.name_table.specs.Places.{AssignedTo, Place, Requirement, context_of, places}
use Rattle.name_table.specs.Resolved.{HasNoBreach}
use Rattle.array_meaning.specs.Resolution.{resolved_block}
use Rattle.well_formed.proofs.Dimensions.{IsFull, found_full, table_full}
use Rattle.well_formed.proofs.RankedStatements.{ArePlaced, IsPlaced, IsTypedHead}
use Rattle.found_names.specs.FoundNames.{IsFoundStatement, IsScalarName}
use Rattle.found_names.specs.Inquiries.{HasAnswers, IsAnswered}
use Rattle.found_names.specs.Scalars.{BlockAlone, HaveDimensions}
use Rattle.found_names.proofs.Found.{statements_found}
use Rattle.found_names.proofs.Heads.{all_kept, all_typed}
use Rattle.found_names.proofs.Inquiries.{all_answered, moved_answered}
use Rattle.found_names.proofs.Statements.{block_alone, kept_met}

pub all_found : (p : MainProgram) → HasNoBreach p → AllByRecursion (λ h. IsFoundStatement (entries p) h.what) (all_heads p.body)
all_found p rules = statements_found (symbol_table p.declarations) (all_heads p.body) (all_kept p rules)

pub all_alone : (p : MainProgram) → AllAreKnown p → HasNoBreach p → HaveDimensions (entries p) → BlockAlone (resolved_block (entries p) p.body)
all_alone p known rules have =
    let t : SymbolTable = symbol_table p.declarations in
    let full = table_full p.declarations (known rules.names rules.ranks) in
    block_alone t (λ x s is. found_full x t s full is) have [] p.body (kept_met t (λ x s is. found_full x t s full is) have (all_heads p.body) (all_kept p rules))

module _ (t : SymbolTable) (full : (x : Name) (s : Symbol) → find x t ≡ Some s → IsFull s) where
  module _ (indices : List Name) (scalars : AllByRecursion (λ x. IsScalarName (declared_as (map entry t) x)) indices) where
    placed_answered : (r : Requirement) (e : Expression) → IsPlaced Statement t r e → IsAnswered (map entry t) indices e
    placed_answered (AssignedTo left) e (inl typed) = all_answered t full indices scalars e typed
    placed_answered (AssignedTo left) e (inr moved) = moved_answered t full indices scalars left e moved
    placed_answered r e h = all_answered t full indices scalars e h

    each_answered : (ps : List Place) → ArePlaced Statement t ps → AllByRecursion (IsAnswered (map entry t) indices) (map (λ p. p.expression) ps)
    each_answered [] h = tt
    each_answered (p ∷ ps) h = (placed_answered p.requirement p.expression h.0, each_answered ps h.1)

  answers : (w : Head) → ArePlaced (context_of w) t (places w) → HasAnswers (map entry t) w
  answers (head.Redistribute d) h = λ indices scalars. tt
  answers w h = λ indices scalars. each_answered indices scalars (places w) h

  statements_answered : (hs : List PlacedHead) → AllByRecursion (IsTypedHead t) hs → AllByRecursion (λ h. HasAnswers (map entry t) h.what) hs
  statements_answered [] h = tt
  statements_answered (x ∷ hs) h = (answers x.what h.0.expressions, statements_answered hs h.1)

pub all_inquiries : (p : MainProgram) → AllAreKnown p → HasNoBreach p → AllByRecursion (λ h. HasAnswers (entries p) h.what) (all_heads p.body)
all_inquiries p known rules =
    let full = table_full p.declarations (known rules.names rules.ranks) in
    statements_answered (symbol_table p.declarations) (λ x s is. found_full x (symbol_table p.declarations) s full is) (all_heads p.body) (all_typed p rules)
