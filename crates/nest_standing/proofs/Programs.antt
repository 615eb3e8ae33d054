-- All nests of a program.
use Rattle.std.proofs.Common.{◌≡◌, ℕ, List, [], ◌∷◌, ◌++◌, map, Some, None, sym, subst}
use Rattle.std.specs.List.{AllByRecursion, flat_map}
use Rattle.hpf_base.specs.FirstBreach.{Among}
use Rattle.hpf_base.specs.Refusal.{NoBreach}
use Rattle.syntax_tree.specs.MainProgram.{MainProgram}
use Rattle.syntax_tree.specs.Statement as syntax
use Rattle.expression_rules.specs.Symbols.{Name, SymbolTable}
use Rattle.statement_walk.specs.Heads.{PlacedHead, heads, statement_heads, arm_heads, else_heads, all_heads}
use Rattle.statement_walk.specs.Nests.{Loop as NamedLoop, Nest as NamedNest, nest_in, nests, statement_nests, arm_nests, else_nests}
use Rattle.declarations.specs.Declarations.{symbol_table}
use Rattle.name_table.specs.Entries.{entry, entries}
use Rattle.name_table.specs.declared.names.Entry.{Entry}
use Rattle.name_table.specs.NameRules as name_rules
use Rattle.name_table.specs.NameRules.{name_breaches, name_breaches_at}
use Rattle.name_table.specs.Places.{context_of, places}
use Rattle.name_table.specs.RankRules.{declaration_breaches_at, rank_breaches, rank_breaches_at}
use Rattle.name_table.specs.Resolved.{HasNoBreach}
use Rattle.nest_check.specs.NestRules.{nest_breaches}
use Rattle.body_check.specs.BodyRules.{body_breaches}
use Rattle.body_check.specs.ForallRules.{forall_breaches_at}
use Rattle.array_meaning.specs.Terms.{Term, Scalar, Element, Section}
use Rattle.array_meaning.specs.Statements.{Loop}
use Rattle.array_meaning.specs.Resolution.{control_of, assignment, transformation_of, left_of, loop_of, term_of, resolved, resolved_block, resolved_arms, resolved_otherwise}
use Rattle.fitting_states.specs.FittingStates.{ControlFits, BlockFits, StatementFits, MarkFits, ArmsFit}
use Rattle.name_table.proofs.Tests.{all_empty, all_split, empties, no_breach}
use Rattle.well_formed.proofs.RankedStatements.{IsTypedHead, all_typed_heads}
use Rattle.nest_items.specs.BlockForms.{HasForms, BlockHasForms, ArmsHaveForms}
use Rattle.nest_standing.specs.Named.{IsNamed}
use Rattle.nest_standing.specs.KeptNests.{StepsAre, FitsNest}
use Rattle.nest_standing.proofs.Accepted.{named}
use Rattle.nest_standing.proofs.Assignments.{either_statement}
use Rattle.nest_standing.proofs.ConstantSteps.{steps_are}
use Rattle.nest_standing.proofs.DistinctNames.{table_once}
use Rattle.nest_standing.proofs.Marked.{marked}
use Rattle.nest_standing.proofs.Ranks.{placed_arrays}
use Rattle.nest_standing.proofs.Whole.{kept_nest}

-- the statements of a program keep the rules of names and types
all_named : (t : SymbolTable) (hs : List PlacedHead) → AllByRecursion (λ h. name_breaches_at t h ≡ []) hs → AllByRecursion (IsTypedHead t) hs
    → AllByRecursion (IsNamed (map entry t)) hs
all_named t [] names typed = tt
all_named t (h ∷ hs) names typed =
    (named t h names.0 (placed_arrays (context_of h.what) t (places h.what) typed.0.expressions), all_named t hs names.1 typed.1)

module _ (es : List Entry) where
  -- a nest breaks none of the rules of nests, and has no loop too many
  abbrev IsRuled : NamedNest → Type 0
  IsRuled t = (name_rules.nest_breaches t ≡ []) × (nest_breaches es t ≡ [])

  all_ruled : (ts : List NamedNest) → AllByRecursion (λ t. name_rules.nest_breaches t ≡ []) ts → AllByRecursion (λ t. nest_breaches es t ≡ []) ts → AllByRecursion IsRuled ts
  all_ruled [] f g = tt
  all_ruled (t ∷ ts) f g = ((f.0, g.0), all_ruled ts f.1 g.1)

module _ (es : List Entry) (steps : StepsAre es) where
  assigned_forms : (l r : Term) → HasForms (assignment l r)
  assigned_forms (Scalar k) r = tt
  assigned_forms (Element a ts) r = tt
  assigned_forms (Section a subs) r = tt
  assigned_forms l r = tt

  controls_fit : (ls : List NamedLoop) → AllByRecursion (λ l. ControlFits l.control) (map (λ l. loop_of es l.axis) ls)
      → AllByRecursion (λ l. ControlFits (control_of es [] l.axis)) ls
  controls_fit [] h = tt
  controls_fit (l ∷ ls) h = (h.0, controls_fit ls h.1)

  -- the numbers of a nest, by its mark
  nest_fits : (m : syntax.Independent) (axis : syntax.Axis) (b : syntax.Block) → StatementFits (resolved es (syntax.Do (Some m) axis b)) → FitsNest es b
  nest_fits m axis b fit =
      let h = marked es m axis b in
      let f = subst MarkFits h.is fit.0 in
      record { loops = controls_fit (nest_in b).loops (subst (AllByRecursion (λ (l : Loop). ControlFits l.control)) h.loops f.0).1; body = f.1 }

  mutual
    block_forms : (ys : List Name) (b : syntax.Block) → AllByRecursion (IsNamed es) (heads ys b) → AllByRecursion (IsRuled es) (nests b)
        → BlockFits (resolved_block es b) → BlockHasForms (resolved_block es b)
    block_forms ys syntax.Done named none fit = tt
    block_forms ys (syntax.Then line s b) named none fit =
        let m = all_split (IsNamed es) (statement_heads ys line s) (heads ys b) named in
        let n = all_split (IsRuled es) (statement_nests line s) (nests b) none in
        (statement_forms ys line s m.0 n.0 fit.0, block_forms ys b m.1 n.1 fit.1)

    statement_forms : (ys : List Name) (line : ℕ) (s : syntax.Statement) → AllByRecursion (IsNamed es) (statement_heads ys line s)
        → AllByRecursion (IsRuled es) (statement_nests line s) → StatementFits (resolved es s) → HasForms (resolved es s)
    statement_forms ys line (syntax.Assign left right) named none fit =
        either_statement HasForms es (λ x y how. tt) (syntax.designator left) (transformation_of es right)
        (assignment (left_of es [] left) (term_of es [] right)) (assigned_forms (left_of es [] left) (term_of es [] right))
    statement_forms ys line (syntax.If arms rest) named none fit =
        let m = all_split (IsNamed es) (arm_heads ys arms) (else_heads ys rest) named in
        let n = all_split (IsRuled es) (arm_nests arms) (else_nests rest) none in
        (arms_forms ys arms m.0 n.0 fit.0, else_forms ys rest m.1 n.1 fit.1)
    statement_forms ys line (syntax.Do None axis b) named none fit = block_forms (ys ++ axis.index ∷ []) b named.1 none fit.2
    statement_forms ys line (syntax.Do (Some m) axis b) named none fit =
        let h = kept_nest es ys line m axis b none.0.0 none.0.1 named.1.0.uses.0.0 named.1.1 steps (nest_fits m axis b fit) in
        subst HasForms (sym h.is) h.form
    statement_forms ys line (syntax.Where mask body others) named none fit = tt
    statement_forms ys line (syntax.Forall axes mask body) named none fit = tt
    statement_forms ys line (syntax.Print is) named none fit = tt
    statement_forms ys line syntax.Stop named none fit = tt
    statement_forms ys line syntax.Exit named none fit = tt
    statement_forms ys line syntax.Cycle named none fit = tt
    statement_forms ys line syntax.Continue named none fit = tt
    statement_forms ys line (syntax.Redistribute d) named none fit = tt

    arms_forms : (ys : List Name) (arms : syntax.Arms) → AllByRecursion (IsNamed es) (arm_heads ys arms) → AllByRecursion (IsRuled es) (arm_nests arms)
        → ArmsFit (resolved_arms es arms) → ArmsHaveForms (resolved_arms es arms)
    arms_forms ys syntax.NoArm named none fit = tt
    arms_forms ys (syntax.Arm line cond b arms) named none fit =
        let m = all_split (IsNamed es) (heads ys b) (arm_heads ys arms) named.1 in
        let n = all_split (IsRuled es) (nests b) (arm_nests arms) none in
        (block_forms ys b m.0 n.0 fit.1, arms_forms ys arms m.1 n.1 fit.2)

    else_forms : (ys : List Name) (rest : syntax.Otherwise) → AllByRecursion (IsNamed es) (else_heads ys rest) → AllByRecursion (IsRuled es) (else_nests rest)
        → BlockFits (resolved_otherwise es rest) → BlockHasForms (resolved_otherwise es rest)
    else_forms ys syntax.Without named none fit = tt
    else_forms ys (syntax.With b) named none fit = block_forms ys b named none fit

pub program_forms : (p : MainProgram) → HasNoBreach p → NoBreach (Among (body_breaches (entries p) p.body))
    → BlockFits (resolved_block (entries p) p.body) → BlockHasForms (resolved_block (entries p) p.body)
program_forms p rules bodies fit =
    let t : SymbolTable = symbol_table p.declarations in
    let named = empties _ _ (empties _ _ (no_breach (name_breaches p) rules.names)).0 in
    let names = (empties _ _ named.0).1 in
    let few = all_empty name_rules.nest_breaches (nests p.body) named.1 in
    let ranks = (empties (flat_map (declaration_breaches_at t) p.declarations) _ (no_breach (rank_breaches p) rules.ranks)).1 in
    let own = all_empty (name_breaches_at t) (all_heads p.body) names in
    let typed = all_typed_heads t (all_heads p.body) own (all_empty (rank_breaches_at t) (all_heads p.body) ranks) in
    let nest = (empties (flat_map (forall_breaches_at (entries p)) (all_heads p.body)) _ (no_breach (body_breaches (entries p) p.body) bodies)).1 in
    let ruled = all_ruled (entries p) (nests p.body) few (all_empty (nest_breaches (entries p)) (nests p.body) nest) in
    block_forms (entries p) (steps_are t (table_once p.declarations)) [] p.body (all_named t (all_heads p.body) own typed) ruled fit
