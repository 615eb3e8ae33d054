-- Programs that break no rule.
use Rattle.std.proofs.Common.{◌≡◌, ◌≤◌, ◌+◌, ℕ, List, [], length, true, Option, sym, ap, subst, ◌∙◌}
use Rattle.std.proofs.lemmas.List.{length-map}
use Rattle.std.specs.List.{flat_map}
use Rattle.hpf_base.specs.FirstBreach.{Among}
use Rattle.hpf_base.specs.Refusal.{NoBreach}
use Rattle.hpf_base.specs.declared.index.Shape.{Shape}
use Rattle.syntax_tree.specs.MainProgram.{MainProgram}
use Rattle.syntax_tree.specs.Statement.{Block}
use Rattle.expression_rules.specs.Symbols.{SymbolTable}
use Rattle.statement_walk.specs.Heads.{all_heads}
use Rattle.declarations.specs.Declarations.{symbol_table}
use Rattle.name_table.specs.Entries.{entries}
use Rattle.name_table.specs.NameRules.{name_breaches, name_breaches_at}
use Rattle.name_table.specs.KnownSymbols.{AllAreKnown}
use Rattle.name_table.specs.RankRules.{declaration_breaches_at, rank_breaches, rank_breaches_at}
use Rattle.name_table.specs.Resolved.{HasNoBreach}
use Rattle.name_table.specs.declared.names.Entry.{Entry}
use Rattle.body_check.specs.BodyRules.{body_breaches}
use Rattle.body_check.specs.ForallRules.{forall_breaches_at}
use Rattle.array_meaning.specs.Execution.{run_block}
use Rattle.array_meaning.specs.Resolution.{resolved_block, initial_array, initial_scalar, initial_state}
use Rattle.statement_trail.specs.Trail.{serial_trail}
use Rattle.machine_steps.specs.Agrees.{IsValidCode, IsValidInstr}
use Rattle.machine_steps.specs.Layout.{AreOwned, IsDealt, IsInBlocks, Layout}
use Rattle.machine_steps.specs.SameLayouts.{is_same_layout}
use Rattle.code_meaning.specs.Beside.{Anchor}
use Rattle.code_meaning.specs.Instructions.{ArrayTable, lies_alone, meaning_of}
use Rattle.node_code.specs.Instructions.{NewMapping, Remap}
use Rattle.lowering.specs.Lowered.{IsState, IsTable, MachineEnds, MachinePasses, opening}
use Rattle.code_meaning.specs.ValidCode.{CodeTable, IsValid, IsValidNodeCode}
use Rattle.lowering.specs.Ranks.{AreFewDims, BlockKeepsRanks, declared_shapes}
use Rattle.program_code.specs.StatementCode.{block_copies, block_slots, program_code}
use Rattle.lowered_expressions.specs.WellFormed.{IsWellFormedBlock}
use Rattle.nest_items.specs.BlockForms.{BlockHasForms}
use Rattle.fitting_states.specs.FittingStates.{ProgramFits}
use Rattle.fitting_states.proofs.Starts.{initial_fits}
use Rattle.lowering.proofs.Programs.{program-ends, program-passes}
use Rattle.lowering.proofs.Validity.{code-valid}
use Rattle.lowering.proofs.ValidPrograms.{program-valid}
use Rattle.name_table.proofs.Tests.{all_empty, empties, no_breach}
use Rattle.well_formed.proofs.Lists.{front_empty}
use Rattle.well_formed.proofs.Dimensions.{few_dims, found_full, table_full}
use Rattle.well_formed.proofs.Heads.{all_good}
use Rattle.well_formed.proofs.RankedStatements.{all_typed_heads, block_ranked}
use Rattle.well_formed.proofs.Statements.{block_good}

-- the breaches of FORALL are among those of bodies
no_forall_breach : (es : List Entry) (b : Block) → body_breaches es b ≡ [] → flat_map (forall_breaches_at es) (all_heads b) ≡ []
no_forall_breach es b h = search (front_empty, h)

pub well_formed : (p : MainProgram) → NoBreach (Among (name_breaches p)) → NoBreach (Among (body_breaches (entries p) p.body)) →
    IsWellFormedBlock (length (entries p)) (resolved_block (entries p) p.body)
well_formed p names bodies =
    let t : SymbolTable = symbol_table p.declarations in
    let own = (empties _ _ (empties _ _ (empties _ _ (no_breach (name_breaches p) names)).0).0).1 in
    let body = no_forall_breach (entries p) p.body (no_breach (body_breaches (entries p) p.body) bodies) in
    block_good t [] p.body
    (all_good t (all_heads p.body) (all_empty (name_breaches_at t) (all_heads p.body) own) (all_empty (forall_breaches_at (entries p)) (all_heads p.body) body))

-- at the start there is a scalar and an array for each name
starts : (names : List Entry) → IsState (length names) (initial_state names)
starts names = record {
  scalars = length-map names (λ (e : Entry). initial_scalar e.what);
  arrays = length-map names (λ (e : Entry). initial_array e.what);
}

-- no array has more than 7 dimensions, and each reference has a subscript for each
abbrev KeepsAllRanks : MainProgram → Type 0
KeepsAllRanks p = AreFewDims (declared_shapes (initial_state (entries p))) × BlockKeepsRanks (declared_shapes (initial_state (entries p))) (resolved_block (entries p) p.body)

module _ (p : MainProgram) (room : ℕ) (moves : ℕ → List NewMapping) (table : ArrayTable) (layouts : List Layout) where
  pub lowered : KeepsAllRanks p → IsTable (initial_state (entries p)) table → block_copies (length (entries p)) (resolved_block (entries p) p.body) ≤ room → length layouts ≡ length (entries p) + room →
      HasNoBreach p → NoBreach (Among (body_breaches (entries p) p.body)) → BlockHasForms (resolved_block (entries p) p.body) → ProgramFits p →
      MachineEnds (length (entries p)) table (opening (length (entries p)) room moves (resolved_block (entries p) p.body) (initial_state (entries p)) layouts)
      (run_block (resolved_block (entries p) p.body) (initial_state (entries p)))
  lowered ranks is-table roomy laid rules bodies forms fit =
      program-ends table (length (entries p)) room moves (resolved_block (entries p) p.body) (initial_state (entries p)) (starts (entries p)) is-table roomy fit.1
      (initial_fits (entries p) fit.0) layouts laid
      (well_formed p rules.names bodies) forms ranks.1

  pub trail_lowered : KeepsAllRanks p → IsTable (initial_state (entries p)) table → block_copies (length (entries p)) (resolved_block (entries p) p.body) ≤ room → length layouts ≡ length (entries p) + room →
      HasNoBreach p → NoBreach (Among (body_breaches (entries p) p.body)) → BlockHasForms (resolved_block (entries p) p.body) → ProgramFits p →
      MachinePasses (length (entries p)) table moves (opening (length (entries p)) room moves (resolved_block (entries p) p.body) (initial_state (entries p)) layouts)
      (run_block (resolved_block (entries p) p.body) (initial_state (entries p))) (serial_trail p)
  trail_lowered ranks is-table roomy laid rules bodies forms fit =
      program-passes table (length (entries p)) room moves (resolved_block (entries p) p.body) (initial_state (entries p)) (starts (entries p)) is-table roomy fit.1
      (initial_fits (entries p) fit.0) layouts laid
      (well_formed p rules.names bodies) forms ranks.1

pub valid : (count : ℕ) (p : MainProgram) (shapes : List Shape) (table : ArrayTable) (moves : ℕ → List NewMapping) → length shapes ≤ length (entries p) →
    ((layouts : List Layout) → AreOwned count layouts → (anchor : Option Anchor) (extents : List ℕ) → IsDealt count (table.copies layouts anchor extents)) →
    ((one other : Layout) → is_same_layout one other ≡ true → one ≡ other) →
    ((layout : Layout) → lies_alone table layout ≡ true → IsInBlocks count layout) →
    ((line : ℕ) → IsValidInstr count shapes (meaning_of table (Remap line (moves line)))) → HasNoBreach p → NoBreach (Among (body_breaches (entries p) p.body)) →
    IsValidCode (meaning_of table) count shapes (program_code (length (entries p)) moves (resolved_block (entries p) p.body))
valid count p shapes table moves few dealt same blocks moving rules bodies =
    code-valid count (length (entries p)) shapes table moves few dealt same blocks moving (resolved_block (entries p) p.body) (well_formed p rules.names bodies)

-- where all that is declared is known
pub ranked : (p : MainProgram) → AllAreKnown p → HasNoBreach p → KeepsAllRanks p
ranked p known rules =
    let t : SymbolTable = symbol_table p.declarations in
    let full = table_full p.declarations (known rules.names rules.ranks) in
    let names = (empties _ _ (empties _ _ (empties _ _ (no_breach (name_breaches p) rules.names)).0).0).1 in
    let ranks = (empties (flat_map (declaration_breaches_at t) p.declarations) _ (no_breach (rank_breaches p) rules.ranks)).1 in (
      few_dims t full,
      block_ranked t (λ x s is. found_full x t s full is) [] p.body
          (all_typed_heads t (all_heads p.body) (all_empty (name_breaches_at t) (all_heads p.body) names) (all_empty (rank_breaches_at t) (all_heads p.body) ranks)),
    )

pub code_valid : (p : MainProgram) (moves : ℕ → List NewMapping) (table : CodeTable) → KeepsAllRanks p → table.shapes ≡ declared_shapes (initial_state (entries p)) →
    length (entries p) + block_slots (resolved_block (entries p) p.body) ≤ table.slots → block_copies (length (entries p)) (resolved_block (entries p) p.body) ≤ table.copies →
    length (program_code (length (entries p)) moves (resolved_block (entries p) p.body)) ≡ table.places → ((line : ℕ) → IsValid table (Remap line (moves line))) →
    HasNoBreach p → NoBreach (Among (body_breaches (entries p) p.body)) → BlockHasForms (resolved_block (entries p) p.body) →
    IsValidNodeCode table (program_code (length (entries p)) moves (resolved_block (entries p) p.body))
code_valid p moves table keeps same slots copies places moving rules bodies forms =
    program-valid table (length (entries p)) moves (resolved_block (entries p) p.body) (ap length same ∙ length-map (initial_state (entries p)).arrays _ ∙ length-map (entries p) _)
    (subst AreFewDims (sym same) keeps.0) slots copies places moving (well_formed p rules.names bodies) forms
    (subst (λ shapes. BlockKeepsRanks shapes (resolved_block (entries p) p.body)) (sym same) keeps.1)
