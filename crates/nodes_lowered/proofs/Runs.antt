-- Nodes run a program that keeps the rules as it runs in one order.
use Rattle.std.proofs.Common.{◌≡◌, ℕ, ◌<◌, ◌≤◌, List, [], length, take, Some, inl, refl, sym, ap, subst, ◌∙◌, arith}
use Rattle.std.specs.List.{range_with_len}
use Rattle.std.proofs.lemmas.List.{length-map}
use Rattle.std.proofs.lemmas.List.FromFn.{length-range_with_len}
use Rattle.hpf_base.specs.declared.index.Shape.{Shape}
use Rattle.syntax_tree.specs.MainProgram.{MainProgram}
use Rattle.name_table.specs.Entries.{entries}
use Rattle.name_table.specs.KnownSymbols.{AllAreKnown}
use Rattle.accepted_program.specs.Accepted.{KeepsRules}
use Rattle.array_meaning.specs.Faults.{Fault}
use Rattle.array_meaning.specs.Serial.{End}
use Rattle.mappings.specs.declared.mapping.Mapping.{Mapping}
use Rattle.statement_trail.specs.Trail.{Trail, serial_trail}
use Rattle.passed_states.specs.TrailLayouts.{trail_layouts}
use Rattle.lowered_expressions.specs.Passed.{IsTrail, passed}
use Rattle.nest_standing.specs.Lowered.{MachinePasses}
use Rattle.passed_states.proofs.PassedLayouts.{maps-now}
use Rattle.passed_states.proofs.Places.{entry-passed}
use Rattle.passed_states.proofs.TrailMoves.{trail-moves}
use Rattle.machine_steps.specs.Layout.{Layout}
use Rattle.machine_steps.specs.Instr.{Status, Running, Finished, Faulted}
use Rattle.machine_steps.specs.Machine.{Machine, steps}
use Rattle.machine_steps.specs.Agrees.{Agree, IsOver, IsValidCode, IsWhole, NodesSegment, by_number, first_own, standing}
use Rattle.owner_tables.proofs.SameLayouts.{same_layouts}
use Rattle.covering_rounds.proofs.Covering.{rounds-cover}
use Rattle.code_meaning.proofs.Beside.{are-dealt}
use Rattle.code_meaning.specs.Instructions.{ArrayTable, meaning_of, remappings}
use Rattle.node_code.specs.Instructions.{Instruction, NewMapping}
use Rattle.code_meaning.specs.FaultValues.{fault_values}
use Rattle.code_meaning.specs.ProgramText.{Text, table_on, text, text_meaning}
use Rattle.nest_standing.proofs.ValidPrograms.{ranked, trail_lowered, valid}
use Rattle.array_meaning.specs.Resolution.{initial_state, resolved_block}
use Rattle.nest_items.specs.BlockForms.{BlockHasForms}
use Rattle.fitting_states.specs.FittingStates.{ProgramFits}
use Rattle.nest_standing.proofs.Programs.{program_forms}
use Rattle.node_run.proofs.CodedSteps.{steps-coded, valid-coded, whole-coded}
use Rattle.node_run.proofs.Openings.{opening-agree, openings-run}
use Rattle.node_run.proofs.PairLetters.{letters-exact, none-past}
use Rattle.node_run.proofs.WholeRuns.{steps-pass}
use Rattle.node_run.proofs.Wholes.{steps-whole}
use Rattle.nodes_lowered.specs.LettersOnNodes.{LettersOnNodes}
use Rattle.nodes_lowered.specs.OnNodes.{LieAsDeclared, MovesDealt, names_shapes, program_copies, program_opening, program_run}
use Rattle.nodes_lowered.specs.ProgramRuns.{RunOnNodes, end_by_status, program_nodes, program_shapes, text_opening}
use Rattle.nodes_lowered.specs.TrailOnNodes.{TrailOnNodes}
use Rattle.nodes_lowered.proofs.Laid.{laid-many, names-many, opening-whole}
use Rattle.nodes_lowered.proofs.LastNodes.{ended-so, last-nodes}
use Rattle.nodes_lowered.proofs.SameCode.{steps-code}
use Rattle.nodes_lowered.proofs.Tables.{blocks-are, tables-are}

-- a run that has ended is over
end-over : (s : Status Fault) (e : End) → end_by_status s ≡ Some e → IsOver s
end-over Running e h = cc
end-over Finished e h = tt
end-over (Faulted f) e h = tt

module _ (nodes : ℕ) (p : MainProgram) (maps : List Mapping) (moves : ℕ → List NewMapping) (layouts : List Layout) (some : 0 < nodes) (rules : KeepsRules p) (fit : ProgramFits p)
    (known : AllAreKnown p) (laid : LieAsDeclared nodes (program_copies p) (entries p) layouts) (dealt : MovesDealt nodes p maps moves layouts) where
  abbrev n : ℕ
  n = length (entries p)

  abbrev shapes : List Shape
  shapes = names_shapes p layouts

  abbrev table : ArrayTable
  table = table_on nodes maps (program_shapes p)

  abbrev m : Machine Instruction Fault
  m = program_opening p moves layouts

  forms : BlockHasForms (resolved_block (entries p) p.body)
  forms = program_forms p rules.resolved rules.bodies_fine fit.1

  as_many : length shapes ≡ n
  as_many = names-many nodes p layouts laid

  valid-code : IsValidCode (meaning_of table) nodes shapes m.code
  valid-code = valid nodes p shapes table moves (omega (arith, as_many)) (λ layouts owned anchor extents. are-dealt nodes layouts anchor extents some owned) same_layouts
      (blocks-are nodes maps (program_shapes p) some)
      (λ line. (dealt line, λ ls declared owned. rounds-cover nodes (remappings maps (moves line)) ls owned)) rules.resolved rules.bodies_fine

  -- the declared names lie after steps as the trail says that is passed
  moved-so : (k : ℕ) (entries : Trail) → IsTrail moves (passed table k m) entries
      → take n (steps (meaning_of table) k m).layouts ≡ trail_layouts (λ line. remappings maps (moves line)) entries (take n layouts)
  moved-so k entries those =
      subst (λ (l : ℕ). take l (steps (meaning_of table) k m).layouts ≡ trail_layouts (λ line. remappings maps (moves line)) entries (take l layouts)) as_many
      (maps-now table nodes shapes k m (inl refl) valid-code ∙ trail-moves maps moves (passed table k m) entries (take (length shapes) layouts) those)

  -- the machine ends over the code as the program does, and passes its trail
  lowered : MachinePasses n table moves m (program_run p) (serial_trail p)
  lowered =
      let enough : program_copies p ≤ program_copies p = omega arith in
      trail_lowered p (program_copies p) moves table layouts (ranked p known rules.resolved) (tables-are nodes maps (initial_state (entries p))) enough
      (laid-many nodes (program_copies p) (entries p) layouts laid) rules.resolved rules.bodies_fine forms fit

  -- the same over its texts: they are valid, the machine is whole, and it comes to its end
  abbrev coded : Machine Text Fault
  coded = text_opening nodes p maps moves layouts

  valid-texts : IsValidCode text_meaning nodes shapes coded.code
  valid-texts = valid-coded (text nodes maps (program_shapes p)) (meaning_of table) text_meaning (λ i. refl) nodes shapes m.code valid-code

  whole-texts : IsWhole nodes shapes coded
  whole-texts = whole-coded (text nodes maps (program_shapes p)) nodes shapes m (opening-whole nodes p moves layouts laid)

  texts-over : IsOver (steps text_meaning lowered.0 coded).control.status
  texts-over =
      let end : Machine Instruction Fault = steps (meaning_of table) lowered.0 m in
      subst (λ (x : Machine Text Fault). IsOver x.control.status)
      (sym (steps-coded (text nodes maps (program_shapes p)) (meaning_of table) text_meaning (λ i. refl) lowered.0 m))
      (end-over end.control.status _ (ended-so n end (program_run p).state (program_run p).completion lowered.1))

  pub run-on-nodes : RunOnNodes nodes p maps moves layouts
  run-on-nodes =
      let as_text = text nodes maps (program_shapes p) in
      let end : Machine Instruction Fault = steps (meaning_of table) lowered.0 m in
      let same = steps-coded as_text (meaning_of table) text_meaning (λ i. refl) lowered.0 m in
      let whole = opening-whole nodes p moves layouts laid in
      let run = openings-run fault_values text_meaning nodes lowered.0 shapes coded some refl refl valid-texts whole-texts texts-over in
      record {
        count = length-map (range_with_len 0 nodes) (standing nodes coded 1 (first_own nodes)) ∙ length-range_with_len 0 nodes;
        phased = run.lockstep;
        ends = λ last ends. last-nodes nodes p maps moves layouts some run.number end run.new shapes
            (whole-coded as_text nodes shapes end (steps-whole (meaning_of table) nodes shapes lowered.0 m valid-code whole))
            (subst (λ (x : Machine Text Fault). Agree fault_values text_meaning nodes x run.new) same run.agree) (steps-code (meaning_of table) lowered.0 m)
            (moved-so lowered.0 (serial_trail p) lowered.2) lowered.1 last
            (λ q. ends (program_nodes nodes p maps moves layouts) run.lockstep [] refl q ∙ run.ends q
            ∙ ap (λ (x : Machine Text Fault). by_number nodes (standing nodes x run.number run.new) q) same);
      }

  pub trail-on-nodes : TrailOnNodes nodes p maps moves layouts
  trail-on-nodes i e at =
      let as_text = text nodes maps (program_shapes p) in
      let here = entry-passed table moves lowered.0 m (serial_trail p) lowered.2 i e at in
      let same = steps-coded as_text (meaning_of table) text_meaning (λ i. refl) here.0 m in (
        steps (meaning_of table) here.0 m,
        record { passed = here.3.0; next = here.3.1; is = here.3.2; moved = moved-so here.0 (take i (serial_trail p)) here.2 },
        subst (λ (x : Machine Text Fault). NodesSegment fault_values text_meaning nodes 1 coded (first_own nodes) x) same
            (steps-pass fault_values text_meaning nodes shapes some here.0 1 coded (first_own nodes) (opening-agree fault_values text_meaning nodes coded refl refl) valid-texts whole-texts),
      )

  -- and all letters of the nodes are those of its steps
  pub letters-on-nodes : LettersOnNodes nodes p maps moves layouts
  letters-on-nodes = record {
    made = lowered.0;
    over = texts-over;
    pairs = λ run from to lf lt. letters-exact fault_values text_meaning nodes from to lf lt lowered.0 shapes coded refl refl valid-texts whole-texts texts-over run;
    others = λ run from to past. none-past fault_values text_meaning nodes coded run from to past;
  }
