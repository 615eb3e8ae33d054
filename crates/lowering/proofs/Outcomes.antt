-- The machine over the code of a program has its serial outcome.
use Rattle.std.proofs.Common.{◌≡◌, ◌≤◌, ◌+◌, ℕ, List, length, map, sym, ◌∙◌}
use Rattle.std.proofs.Math.ListN.{get_or-map}
use Rattle.std.proofs.lemmas.List.{length-map}
use Rattle.syntax_tree.specs.Statement as syntax
use Rattle.name_table.specs.declared.names.Entry.{Entry}
use Rattle.array_meaning.specs.Faults.{Fault}
use Rattle.array_meaning.specs.State.{Array, State, no_array}
use Rattle.array_meaning.specs.Statements.{Block}
use Rattle.array_meaning.specs.Runs as runs
use Rattle.array_meaning.specs.Runs.{Completion, Normal, Exited, Cycled, Stopped, Run}
use Rattle.array_meaning.specs.Execution.{run_block}
use Rattle.array_meaning.specs.Resolution.{resolved_block, initial_scalar, initial_array, initial_state}
use Rattle.array_meaning.specs.Serial as serial
use Rattle.array_meaning.specs.Serial.{end_of, outcome}
use Rattle.machine_steps.specs.Instr.{Finished}
use Rattle.machine_steps.specs.Layout.{Layout}
use Rattle.machine_steps.specs.Machine.{Machine, steps}
use Rattle.node_code.specs.Instructions.{Instruction, NewMapping}
use Rattle.code_meaning.specs.Instructions.{ArrayTable, meaning_of}
use Rattle.program_code.specs.StatementCode.{block_copies}
use Rattle.lowered_expressions.specs.WellFormed.{IsWellFormedBlock}
use Rattle.nest_items.specs.BlockForms.{BlockHasForms}
use Rattle.fitting_states.specs.FittingStates.{InitialValuesFit, BlockFits}
use Rattle.fitting_states.proofs.Starts.{initial_fits}
use Rattle.lowering.specs.Ranks.{BlockKeepsRanks, declared_shapes}
use Rattle.lowering.specs.Lowered.{opening, EndsAs, IsEnd, IsLeft, IsTable, MachineHas}
use Rattle.lowering.proofs.Programs.{program-ends}

-- what is left where a run is finished
left-is : (n : ℕ) (m : Machine Instruction Fault) (s : State) → m.control.status ≡ Finished → IsLeft n m s → IsEnd n m serial.Finished (map (λ (a : Array). a.elements) s.arrays)
left-is n m s finished h = (
  finished,
  λ a lt. h.1 a lt ∙ sym (get_or-map (λ (a : Array). a.elements) s.arrays a no_array),
  length-map s.arrays (λ (a : Array). a.elements) ∙ h.2,
)

-- an end is that of the outcome
end-is : (n : ℕ) (m : Machine Instruction Fault) (s : State) (c : Completion) → EndsAs n m s c → (m.printed ≡ s.printed)
    × IsEnd n m (end_of c) (map (λ (a : Array). a.elements) s.arrays)
end-is n m s Normal h = (h.1, left-is n m s h.0 h.2)
end-is n m s Exited h = (h.1, left-is n m s h.0 h.2)
end-is n m s Cycled h = (h.1, left-is n m s h.0 h.2)
end-is n m s Stopped h = (h.1, left-is n m s h.0 h.2)
end-is n m s (runs.Faulted f) h = (h.1, h.0)

pub outcome-is : (names : List Entry) (room : ℕ) (moves : ℕ → List NewMapping) (body : syntax.Block) (table : ArrayTable) (layouts : List Layout)
    → IsTable (initial_state names) table → block_copies (length names) (resolved_block names body) ≤ room → length layouts ≡ length names + room
    → IsWellFormedBlock (length names) (resolved_block names body) → BlockHasForms (resolved_block names body)
    → BlockKeepsRanks (declared_shapes (initial_state names)) (resolved_block names body) → BlockFits (resolved_block names body) → InitialValuesFit names
    → MachineHas (length names) table (opening (length names) room moves (resolved_block names body) (initial_state names) layouts) (outcome names body)
outcome-is names room moves body table layouts is-table roomy laid ok forms ranked fit values =
    let n : ℕ = length names in
    let block : Block = resolved_block names body in
    let s : State = initial_state names in
    let scalars : length s.scalars ≡ n = length-map names (λ (e : Entry). initial_scalar e.what) in
    let arrays : length s.arrays ≡ n = length-map names (λ (e : Entry). initial_array e.what) in
    let ends = program-ends table n room moves block s (record { scalars = scalars; arrays = arrays }) is-table roomy fit (initial_fits names values) layouts laid ok forms ranked in
    let is = end-is n (steps (meaning_of table) ends.0 (opening n room moves block s layouts)) (run_block block s).state (run_block block s).completion ends.1 in
    (ends.0, is.0, is.1)
