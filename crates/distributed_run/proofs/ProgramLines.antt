-- The lines of the steps of a program's machine are the text of its messages.
use Rattle.std.proofs.Common.{◌≡◌, ℕ, ◌+◌, ◌≤◌, List, [], ◌∷◌, All, length, map, take, Some, refl, sym, ap, ◌∙◌, subst, arith}
use Rattle.std.proofs.lemmas.List.{length-replicate}
use Rattle.hpf_base.specs.ElementOrder.{product}
use Rattle.hpf_base.specs.FirstBreach.{Among}
use Rattle.hpf_base.specs.Grid.{IsGrid}
use Rattle.hpf_base.specs.Refusal.{NoBreach}
use Rattle.hpf_base.proofs.ElementOrder.{product-some}
use Rattle.syntax_tree.specs.MainProgram.{MainProgram}
use Rattle.mappings.specs.declared.mapping.Mapping.{Mapping}
use Rattle.expression_rules.specs.declared.dims.Dim.{Dim}
use Rattle.name_table.specs.Entries.{entries}
use Rattle.name_table.specs.KnownSymbols.{AllAreKnown}
use Rattle.name_table.specs.Resolved.{HasNoBreach}
use Rattle.name_table.specs.declared.names.Entry.{Entry}
use Rattle.body_check.specs.BodyRules.{body_breaches}
use Rattle.array_maps.specs.Lines.{moves_at}
use Rattle.array_maps.specs.Maps.{AreNewMaps, IsArrayMap}
use Rattle.array_maps.specs.declared.maps.ArrayMap.{ArrayMap}
use Rattle.array_maps.specs.declared.maps.Redistribution.{Redistribution}
use Rattle.directive_check.specs.ProgramMaps.{program_moves, start_maps}
use Rattle.accepted_program.specs.Accepted.{KeepsRules}
use Rattle.array_meaning.specs.Execution.{run_block}
use Rattle.array_meaning.specs.Faults.{Fault}
use Rattle.array_meaning.specs.Resolution.{initial_state, resolved_block}
use Rattle.array_meaning.specs.Runs as runs
use Rattle.array_meaning.specs.Runs.{Completion, Normal, Exited, Cycled, Stopped, Run}
use Rattle.array_meaning.specs.Serial.{End, end_of, serial}
use Rattle.array_meaning.specs.State.{State}
use Rattle.statement_trail.specs.Trail.{serial_trail}
use Rattle.machine_steps.specs.Agrees.{IsOver, IsValidCode}
use Rattle.machine_steps.specs.Instr.{Status, Running, Finished, Faulted}
use Rattle.machine_steps.specs.Layout.{Layout}
use Rattle.machine_steps.specs.Machine.{Machine, steps}
use Rattle.code_meaning.proofs.Beside.{are-dealt}
use Rattle.code_meaning.specs.Instructions.{ArrayTable, meaning_of, remappings}
use Rattle.node_code.specs.Instructions.{Instruction, NewMapping}
use Rattle.code_meaning.specs.ProgramText.{Text, table_on, text, text_meaning}
use Rattle.compiled_program.specs.Lowered.{EndsAs, IsTable, opening}
use Rattle.lowered_expressions.specs.Passed.{passed}
use Rattle.compiled_program.specs.StatementCode.{block_copies}
use Rattle.compiled_program.proofs.ValidPrograms.{ranked, trail_lowered, valid}
use Rattle.nest_items.specs.BlockForms.{BlockHasForms}
use Rattle.fitting_states.specs.FittingStates.{ProgramFits}
use Rattle.compiled_program.proofs.StandingPrograms.{program_forms}
use Rattle.owner_tables.proofs.SameLayouts.{same_layouts}
use Rattle.covering_rounds.proofs.Covering.{rounds-cover}
use Rattle.node_run.proofs.CodedSteps.{steps-coded}
use Rattle.compiled_program.specs.GridRuns.{grid_opening}
use Rattle.compiled_program.specs.NewMappings.{array_places, new_mappings, numbered_at, program_mappings, program_remaps, remapping}
use Rattle.compiled_program.specs.OnNodes.{names_shapes, program_copies, program_opening, program_run}
use Rattle.compiled_program.specs.ProgramLayouts.{layout_by, maps_after, program_layouts, start_layouts}
use Rattle.compiled_program.specs.ProgramRuns.{end_by_status, program_shapes}
use Rattle.compiled_program.proofs.Laid.{names-many}
use Rattle.compiled_program.proofs.StartLaid.{program-laid}
use Rattle.compiled_program.proofs.Tables.{blocks-are, tables-are}
use Rattle.message_text.specs.MessageText.{trail_lines}
use Rattle.message_text.specs.Parts.{Setting}
use Rattle.distributed_run.specs.ProgramMessages.{messages_text, names_layouts, program_setting}
use Rattle.messages_lowered.specs.PassedText.{MachineHasText, passed_text, setting_by}
use Rattle.distributed_run.specs.StepLines.{lines_of_steps}
use Rattle.distributed_run.proofs.GridLaws.{AllMovesDealt}
use Rattle.distributed_run.proofs.OverRuns.{same-end}
use Rattle.distributed_run.proofs.StepLines.{same-lines}
use Rattle.distributed_run.proofs.PassedLines.{lines-passed}

-- ---- layouts

layouts-many : (nodes room : ℕ) (es : List Entry) (maps : List ArrayMap) → length (program_layouts nodes room es maps) ≡ length es + room
layouts-many nodes room [] maps = let many : length (program_layouts nodes room [] maps) ≡ room = length-replicate room _ in omega (arith, many)
layouts-many nodes room (e ∷ es) maps =
    let many : length (program_layouts nodes room es (maps_after e.what maps)) ≡ length es + room = layouts-many nodes room es (maps_after e.what maps) in
    omega (arith, many)

-- the declared names stand before the copies
names-lie : (nodes room : ℕ) (es : List Entry) (maps : List ArrayMap) → take (length es) (program_layouts nodes room es maps) ≡ program_layouts nodes 0 es maps
names-lie nodes room [] maps = refl
names-lie nodes room (e ∷ es) maps = ap (λ ls. layout_by nodes e.what maps ∷ ls) (names-lie nodes room es (maps_after e.what maps))

-- ---- the end

ended : (n : ℕ) (m : Machine Instruction Fault) (s : State) (c : Completion) → EndsAs n m s c → end_by_status m.control.status ≡ Some (end_of c)
ended n m s Normal h = ap end_by_status h.0
ended n m s Exited h = ap end_by_status h.0
ended n m s Cycled h = ap end_by_status h.0
ended n m s Stopped h = ap end_by_status h.0
ended n m s (runs.Faulted f) h = ap end_by_status h.0

-- a run that has ended is over
end-over : (s : Status Fault) (e : End) → end_by_status s ≡ Some e → IsOver s
end-over Running e h = cc
end-over Finished e h = tt
end-over (Faulted f) e h = tt

-- ---- the laws

abbrev pub AllTextsLowered : Type 0
AllTextsLowered = (p : MainProgram) (room : ℕ) (table : ArrayTable) (moves : ℕ → List NewMapping) (nodes : ℕ) (names : List (List ℕ)) (shapes : List (List Dim))
    (layouts starts : List Layout)
    → IsTable (initial_state (entries p)) table → block_copies (length (entries p)) (resolved_block (entries p) p.body) ≤ room
    → length layouts ≡ length (entries p) + room → length starts ≡ length (entries p) → HasNoBreach p → NoBreach (Among (body_breaches (entries p) p.body))
    → BlockHasForms (resolved_block (entries p) p.body) → ProgramFits p
    → MachineHasText (length (entries p)) table (setting_by nodes names shapes table.maps moves) starts
    (opening (length (entries p)) room moves (resolved_block (entries p) p.body) (initial_state (entries p)) layouts)
    (run_block (resolved_block (entries p) p.body) (initial_state (entries p))) (serial_trail p)

abbrev pub AllMovesByNumber : Type 0
AllMovesByNumber = (places : List ℕ) (moves : List Redistribution) (line : ℕ)
    → remappings (new_mappings moves) (numbered_at places 0 moves line) ≡ map (remapping places) (moves_at moves line)

-- ---- a program

module _ (grid : List ℕ) (p : MainProgram) where
  abbrev n : ℕ
  n = length (entries p)

  abbrev nodes : ℕ
  nodes = product grid

  abbrev maps : List Mapping
  maps = program_mappings grid p

  abbrev moves : ℕ → List NewMapping
  moves = program_remaps grid p

  abbrev layouts : List Layout
  layouts = start_layouts grid p

  abbrev table : ArrayTable
  table = table_on nodes maps (program_shapes p)

  abbrev as_text : Instruction → Text
  as_text = text nodes maps (program_shapes p)

  abbrev m : Machine Instruction Fault
  m = program_opening p moves layouts

  abbrev names : List (List ℕ)
  names = map (λ (e : Entry). e.name) (entries p)

  abbrev s : Setting
  s = setting_by nodes names (program_shapes p) maps moves

  abbrev r : Run
  r = program_run p

  -- the machine over the texts is over where the machine over the instructions has ended
  over-at : (k : ℕ) → EndsAs n (steps (meaning_of table) k m) r.state r.completion → IsOver (steps text_meaning k (grid_opening grid p)).control.status
  over-at k h =
      let end : Machine Instruction Fault = steps (meaning_of table) k m in
      subst (λ (x : Machine Text Fault). IsOver x.control.status) (sym (steps-coded as_text (meaning_of table) text_meaning (λ i. refl) k m))
      (end-over end.control.status (end_of r.completion) (ended n end r.state r.completion h))

  tabled : IsTable (initial_state (entries p)) table
  tabled = tables-are nodes maps (initial_state (entries p))

  many : length layouts ≡ n + program_copies p
  many = layouts-many nodes (program_copies p) (entries p) (start_maps grid p)

  -- after so many steps the run is over
  pub ends : KeepsRules p → ProgramFits p → AllAreKnown p → (k : ℕ) × IsOver (steps text_meaning k (grid_opening grid p)).control.status
  ends rules fit known =
      let enough : program_copies p ≤ program_copies p = omega arith in
      let has = trail_lowered p (program_copies p) moves table layouts (ranked p known rules.resolved) tabled enough many rules.resolved rules.bodies_fine
      (program_forms p rules.resolved rules.bodies_fine fit.1) fit in
      (has.0, over-at has.0 has.1)

  module _ (texts : AllTextsLowered) (dealt : AllMovesDealt) (numbers : AllMovesByNumber) (rules : KeepsRules p) (fit : ProgramFits p) (is : IsGrid grid)
      (arrays : All (IsArrayMap nodes) (start_maps grid p)) (new : All (λ (r : Redistribution). AreNewMaps nodes (start_maps grid p) r.maps) (program_moves grid p)) where
    has : MachineHasText n table s (names_layouts grid p) m r (serial_trail p)
    has =
        let enough : program_copies p ≤ program_copies p = omega arith in
        let begun-many : length (names_layouts grid p) ≡ n + 0 = layouts-many nodes 0 (entries p) (start_maps grid p) in
        let begun : length (names_layouts grid p) ≡ n = omega (arith, begun-many) in
        texts p (program_copies p) table moves nodes names (program_shapes p) layouts (names_layouts grid p) tabled enough many begun rules.resolved rules.bodies_fine
        (program_forms p rules.resolved rules.bodies_fine fit.1) fit

    over : IsOver (steps text_meaning has.0 (grid_opening grid p)).control.status
    over = over-at has.0 has.1

    -- however it is come to
    pub end-is : (k : ℕ) → IsOver (steps text_meaning k (grid_opening grid p)).control.status
        → end_by_status (steps text_meaning k (grid_opening grid p)).control.status ≡ Some (serial p).end
    end-is k h =
        ap (λ (x : Machine Text Fault). end_by_status x.control.status)
        (same-end text_meaning k has.0 (grid_opening grid p) h over ∙ steps-coded as_text (meaning_of table) text_meaning (λ i. refl) has.0 m)
        ∙ ended n (steps (meaning_of table) has.0 m) r.state r.completion has.1

    few : length (names_shapes p layouts) ≡ n
    few = names-many nodes p layouts (program-laid grid (program_copies p) p is arrays)

    valid-code : IsValidCode (meaning_of table) nodes (names_shapes p layouts) m.code
    valid-code =
        let some : 1 ≤ nodes = product-some grid is.extents in
        valid nodes p (names_shapes p layouts) table moves (omega (arith, few)) (λ ls owned anchor extents. are-dealt nodes ls anchor extents some owned) same_layouts
        (blocks-are nodes maps (program_shapes p) some)
        (λ line. (dealt grid (program_copies p) p is arrays new line, λ ls declared owned. rounds-cover nodes (remappings maps (moves line)) ls owned))
        rules.resolved rules.bodies_fine

    -- what a line moves is what its redistributions say
    settings : s ≡ program_setting grid p
    settings = λ i. record {
      nodes = nodes;
      names = names;
      shapes = program_shapes p;
      moves = λ line. numbers (array_places 0 (entries p)) (program_moves grid p) line i;
      copies = [];
      copied = [];
    }

    pub text-is : (k : ℕ) → IsOver (steps text_meaning k (grid_opening grid p)).control.status
        → lines_of_steps (entries p) (λ line. remappings maps (moves line)) k (grid_opening grid p) ≡ messages_text grid p
    text-is k h =
        same-lines (entries p) (λ line. remappings maps (moves line)) k has.0 (grid_opening grid p) h over
        ∙ lines-passed (entries p) nodes maps (program_shapes p) moves nodes (names_shapes p layouts) few has.0 m refl valid-code
        ∙ ap (λ ls. passed_text maps s ls (passed table has.0 m)) (names-lie nodes (program_copies p) (entries p) (start_maps grid p))
        ∙ has.2
        ∙ ap (λ (x : Setting). trail_lines x (names_layouts grid p) (serial_trail p)) settings
