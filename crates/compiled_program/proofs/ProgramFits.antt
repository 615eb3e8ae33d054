-- A compiled program fits its rows.
use Rattle.std.proofs.Common.{◌≡◌, ◌==◌, ℕ, ◌+◌, ◌≤◌, true, nat_lt, List, [], length, All, refl, sym, ◌∙◌, subst, arith}
use Rattle.std.proofs.lemmas.List.{length-map}
use Rattle.std.specs.List.{IsDistinct, flat_map, list_all}
use Rattle.std.specs.Prelude.{nat_eq}
use Rattle.hpf_base.specs.FirstBreach.{Among}
use Rattle.hpf_base.specs.Refusal.{NoBreach}
use Rattle.hpf_base.specs.declared.index.Shape.{Shape}
use Rattle.syntax_tree.specs.MainProgram.{MainProgram}
use Rattle.name_table.specs.Entries.{entries}
use Rattle.name_table.specs.Resolved.{HasNoBreach}
use Rattle.name_table.specs.declared.names.Entry.{Entry}
use Rattle.array_maps.specs.Maps.{AreNewMaps}
use Rattle.array_maps.specs.declared.maps.ArrayMap.{ArrayMap}
use Rattle.array_maps.specs.declared.maps.Redistribution.{Redistribution}
use Rattle.accepted_program.specs.Accepted.{KeepsRules, bodies}
use Rattle.array_meaning.specs.Resolution.{initial_array, initial_state, resolved_block}
use Rattle.array_meaning.specs.State.{Array}
use Rattle.array_meaning.specs.Statements.{Block}
use Rattle.machine_steps.specs.Layout.{Layout}
use Rattle.node_code.specs.Instructions.{NewMapping, Remap}
use Rattle.node_code.specs.Texts.{instructions}
use Rattle.code_meaning.specs.ValidCode.{CodeTable, IsValid, IsValidNodeCode}
use Rattle.nodes_lowered.specs.Ranks.{declared_shapes}
use Rattle.nodes_lowered.specs.StatementCode.{block_copies, block_slots, program_code}
use Rattle.nest_items.specs.BlockForms.{BlockHasForms}
use Rattle.owner_tables.specs.Views.{TableView}
use Rattle.node_program.specs.Fits.{FitsRows, fits_rows, shapes_of}
use Rattle.node_program.specs.declared.program.NodeProgram.{NodeProgram}
use Rattle.nodes_lowered.specs.NewMappings.{array_places, numbered_at}
use Rattle.nodes_lowered.specs.ProgramLayouts.{program_layouts}
use Rattle.compiled_program.specs.NewTables.{new_tables}
use Rattle.compiled_program.proofs.CodeFits.{nothing, program-code-fits}
use Rattle.compiled_program.proofs.MovesFit.{lines-fit, tables-on}

-- the code of programs that keep the rules is valid
abbrev ValidCodeLaw : Type 0
ValidCodeLaw =
    (p : MainProgram) (moves : ℕ → List NewMapping) (table : CodeTable) → table.shapes ≡ declared_shapes (initial_state (entries p))
    → length (entries p) + block_slots (resolved_block (entries p) p.body) ≤ table.slots
    → block_copies (length (entries p)) (resolved_block (entries p) p.body) ≤ table.copies
    → length (program_code (length (entries p)) moves (resolved_block (entries p) p.body)) ≡ table.places
    → ((line : ℕ) → IsValid table (Remap line (moves line)))
    → HasNoBreach p → NoBreach (Among (bodies p)) → BlockHasForms (resolved_block (entries p) p.body)
    → IsValidNodeCode table (program_code (length (entries p)) moves (resolved_block (entries p) p.body))

none-twice : IsDistinct nat_eq []
unfolding IsDistinct
none-twice = tt

module _ (nodes room : ℕ) (p : MainProgram) (arrays : List ArrayMap) (moves : List Redistribution) (many : length arrays ≡ length (array_places 0 (entries p)))
    (valid : All (λ (r : Redistribution). AreNewMaps nodes arrays r.maps) moves) (law : ValidCodeLaw) (keeps : KeepsRules p)
    (forms : BlockHasForms (resolved_block (entries p) p.body)) where
  abbrev es : List Entry
  es = entries p

  abbrev block : Block
  block = resolved_block es p.body

  abbrev remaps : ℕ → List NewMapping
  remaps = numbered_at (array_places 0 es) 0 moves

  abbrev rows : List Shape
  rows = shapes_of (program_layouts nodes room es arrays)

  abbrev tables : List TableView
  tables = new_tables nodes arrays moves

  -- what the code names but mappings
  abbrev table : CodeTable
  table = record {
    shapes = declared_shapes (initial_state es);
    copies = block_copies (length es) block;
    maps = 0;
    slots = length es + block_slots block;
    places = length (program_code (length es) nothing block);
  }

  count : length table.shapes ≡ length es
  count = length-map (initial_state es).arrays (λ (x : Array). x.dims) ∙ length-map es (λ (e : Entry). initial_array e.what)

  code-fits : list_all (fits_rows (length es) tables rows) (program_code (length es) remaps block) ≡ true
  code-fits =
      let good : IsValidNodeCode table (program_code (length es) nothing block) =
      law p nothing table refl (omega arith) (omega arith) refl (λ line. (tt, none-twice)) keeps.resolved keeps.bodies_fine forms in
      subst (λ k. list_all (fits_rows k tables rows) (program_code (length es) remaps block) ≡ true) count
      (program-code-fits table refl tables rows (length es) remaps
      (λ line. subst (λ k. list_all (λ (m : NewMapping). nat_lt m.array k) (remaps line) ≡ true) (sym count) (lines-fit nodes room es arrays many moves line valid).0)
      (λ line. (lines-fit nodes room es arrays many moves line valid).1) block good)

  pub program-fits : (text : NodeProgram) (layouts : List Layout) → text.nodes ≡ nodes → length text.shapes.items ≡ length es → text.tables.items ≡ tables
      → instructions text.code.items ≡ program_code (length es) remaps block → layouts ≡ program_layouts nodes room es arrays → FitsRows text layouts
  program-fits text layouts on shapes given code lies = record {
    nodes = (λ i. list_all (λ (t : TableView). t.nodes == on i) (given i)) ∙ tables-on nodes arrays (flat_map (λ (r : Redistribution). r.maps) moves);
    code = (λ i. list_all (fits_rows (shapes i) (given i) (shapes_of (lies i))) (code i)) ∙ code-fits;
  }
