use Rattle.std.proofs.Common.{◌≡◌, ◌++◌, ℕ, ℤ, pos, List, length, map, replicate, ap, subst, sym, ◌∙◌}
use Rattle.std.proofs.lemmas.List.{length-map}
use Rattle.std.specs.Arc.{arc_value}
use Rattle.mappings.specs.declared.mapping.Mapping.{Mapping}
use Rattle.syntax_tree.specs.MainProgram.{MainProgram, main_program}
use Rattle.name_table.specs.Entries.{entries}
use Rattle.name_table.specs.declared.names.Entry.{Entry}
use Rattle.array_maps.specs.declared.maps.ArrayMap.{ArrayMap}
use Rattle.array_maps.specs.declared.maps.Redistribution.{Redistribution}
use Rattle.machine_steps.specs.Layout.{Layout}
use Rattle.owner_tables.specs.Views.{OwnersView}
use Rattle.array_meaning.specs.Resolution.{initial_array, resolved_block}
use Rattle.fitting_states.specs.FittingStates.{InitialValuesFit, BlockFits}
use Rattle.nodes_lowered.proofs.Programs.{program_forms}
use Rattle.node_code.specs.Instructions.{Instruction, NewMapping}
use Rattle.code_meaning.specs.ProgramText.{texts}
use Rattle.node_code.specs.Texts.{instructions}
use Rattle.nodes_lowered.specs.StatementCode.{block_copies, program_code}
use Rattle.node_codegen.specs.Moves.{moves_by}
use Rattle.node_program.specs.Openings.{opening_machine}
use Rattle.node_program.specs.Programs.{code_of}
use Rattle.nodes_lowered.specs.OnNodes.{program_copies}
use Rattle.nodes_lowered.specs.NewMappings.{array_places, new_mappings, numbered_at}
use Rattle.nodes_lowered.specs.ProgramLayouts.{program_layouts}
use Rattle.compiled_program.specs.Starts.{start_of}
use Rattle.compiled_program.proofs.ProgramFits.{program-fits}
use Rattle.compiled_program.proofs.ProgramOpenings.{opening-is, values-count}
use Rattle.compiled_program.proofs.compile.compile_on.Goals as goal

pub program_owners-requires-clause-valid : goal.program_owners-requires-clause-valid
program_owners-requires-clause-valid c = rw (c.as_slice.ensures) c.requires.valid.arrays

pub returns-clause-opening : goal.returns-clause-opening
returns-clause-opening c =
    let p : MainProgram = main_program c.args.program.now.tree in
    let names : List Entry = c.args.program.now.names in
    let room : ℕ = program_copies p in
    let copies : c.in_ok-code.code.copies ≡ room = c.in_ok-code.ensures.copies ∙ ap (λ es. block_copies (length es) (resolved_block es p.body)) c.requires.names in
    let layouts : List Layout = program_layouts c.args.nodes room names c.args.maps.now.arrays in
    let maps : List Mapping = new_mappings c.args.maps.now.moves in
    let moves : ℕ → List NewMapping = numbered_at (array_places 0 names) 0 c.args.maps.now.moves in
    let code : List Instruction = instructions c.in_ok-code.code.instructions.items in
    let slots : List ℤ = c.in_ok-slots.slots.items in
    let values : List ℤ = c.in_ok-values.values.items in
    ap (λ (o : OwnersView). opening_machine (code_of (arc_value c.in_ok-text.text)) slots o.layouts values)
    (c.in_ok-owners.ensures
    ∙ (λ i. record { layouts = program_layouts c.args.nodes (copies i) names (c.as_slice.ensures i); nodes = c.args.nodes }))
    ∙ ap (λ t. opening_machine t slots layouts values)
    (c.in_ok-text.ensures.code ∙ ap (λ m. texts c.args.nodes m c.in_ok-dims.dims.items code) c.in_ok-made.ensures.mappings)
    ∙ opening-is c.args.nodes p maps moves layouts code c.in_ok-code.code.hidden c.in_ok-dims.dims.items slots values names c.requires.names c.requires.laid
    (c.in_ok-code.ensures.code
    ∙ ap (λ (m : ℕ → List NewMapping). program_code (length names) m (resolved_block names p.body))
    (ap moves_by c.deref.ensures.value ∙ (λ i line. c.in_ok-made.ensures.moves line i)))
    c.in_ok-code.ensures.hidden c.in_ok-dims.ensures
    c.in_ok-slots.ensures (c.in_ok-values.ensures ∙ ap (λ k. map (λ (e : Entry). start_of e.what) names ++ replicate k (pos 0)) copies)

pub returns-clause-values : goal.returns-clause-values
returns-clause-values c =
    ap length c.in_ok-values.ensures ∙ values-count c.args.nodes c.in_ok-code.code.copies c.args.program.now.names c.as_slice.result.now
    ∙ ap (λ (o : OwnersView). length o.layouts) (sym c.in_ok-owners.ensures)

pub returns-clause-fits : goal.returns-clause-fits
returns-clause-fits c =
    let p : MainProgram = main_program c.args.program.now.tree in
    let names : List Entry = c.args.program.now.names in
    let own : names ≡ entries p = c.requires.names in
    let room : ℕ = program_copies p in
    let copies : c.in_ok-code.code.copies ≡ room = c.in_ok-code.ensures.copies ∙ ap (λ es. block_copies (length es) (resolved_block es p.body)) own in
    let arrays : List ArrayMap = c.args.maps.now.arrays in
    let moves : List Redistribution = c.args.maps.now.moves in
    program-fits c.args.nodes room p arrays moves (c.requires.many ∙ ap (λ es. length (array_places 0 es)) own) c.requires.valid.moves
    c.accepted_programs_have_valid_code.ensures c.requires.keeps
    (program_forms p c.requires.keeps.resolved c.requires.keeps.bodies_fine (subst (λ es. BlockFits (resolved_block es p.body)) own c.in_ok-code.ensures.numbers)) (arc_value c.in_ok-text.text) c.in_ok-owners.owners.layouts
    c.in_ok-text.ensures.nodes
    (ap length (c.in_ok-text.ensures.shapes ∙ c.in_ok-dims.ensures) ∙ length-map names (λ (e : Entry). (initial_array e.what).dims) ∙ ap length own)
    (c.in_ok-text.ensures.tables ∙ c.in_ok-made.ensures.tables)
    (c.in_ok-text.ensures.instructions ∙ c.in_ok-code.ensures.code
    ∙ ap (λ (m : ℕ → List NewMapping). program_code (length names) m (resolved_block names p.body))
    (ap moves_by c.deref.ensures.value ∙ (λ i line. c.in_ok-made.ensures.moves line i))
    ∙ (λ i. program_code (length (own i)) (numbered_at (array_places 0 (own i)) 0 moves) (resolved_block (own i) p.body)))
    (ap (λ (o : OwnersView). o.layouts) c.in_ok-owners.ensures
    ∙ (λ i. program_layouts c.args.nodes (copies i) names (c.as_slice.ensures i))
    ∙ (λ i. program_layouts c.args.nodes room (own i) arrays))

pub returns-clause-numbers : goal.returns-clause-numbers
returns-clause-numbers c =
    subst (λ es. InitialValuesFit es × BlockFits (resolved_block es (main_program c.args.program.now.tree).body)) c.requires.names
    (c.initial_values_fit.ensures, c.in_ok-code.ensures.numbers)
