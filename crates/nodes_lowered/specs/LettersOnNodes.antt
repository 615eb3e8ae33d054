-- Of a promise.
-- What it is to know all letters of the nodes of a program.
use Rattle.std.specs.Prelude.{◌≡◌, ◌⊎◌, ℕ, ◌<◌, ◌≤◌, List, []}
use Rattle.std.specs.List.{slice_get}
use Rattle.mappings.specs.declared.mapping.Mapping.{Mapping}
use Rattle.syntax_tree.specs.MainProgram.{MainProgram}
use Rattle.node_law.specs.NodeSteps.{sent}
use Rattle.node_law.specs.Phases.{Lockstep, all_moves}
use Rattle.machine_steps.specs.Agrees.{IsOver}
use Rattle.machine_steps.specs.Layout.{Layout}
use Rattle.machine_steps.specs.Machine.{steps}
use Rattle.code_meaning.specs.FaultValues.{fault_values}
use Rattle.node_code.specs.Instructions.{NewMapping}
use Rattle.code_meaning.specs.ProgramText.{text_meaning}
use Rattle.node_run.specs.Letters.{holds_nothing, pair_letters, run_exchanges}
use Rattle.nodes_lowered.specs.ProgramRuns.{program_nodes, program_steps, text_opening}

-- the machine with whole arrays is over after so many steps, and in every lockstep run of the program's nodes the letters of a pair are those
-- of the phases of these steps, in order, each with the number of its phase and of its place among them. No others are sent
pub record LettersOnNodes (nodes : ℕ) (p : MainProgram) (maps : List Mapping) (moves : ℕ → List NewMapping) (first : List Layout) : Type 0 where
  pub made : ℕ
  pub over : IsOver (steps text_meaning made (text_opening nodes p maps moves first)).control.status
  pub pairs : (run : Lockstep program_steps (slice_get (program_nodes nodes p maps moves first))) (from to : ℕ) → from < nodes → to < nodes
      → sent to (all_moves run.phases run.last from)
      ≡ pair_letters from to 1 1 (run_exchanges fault_values nodes text_meaning made (text_opening nodes p maps moves first) holds_nothing)
  pub others : (run : Lockstep program_steps (slice_get (program_nodes nodes p maps moves first))) (from to : ℕ) → (nodes ≤ from) ⊎ (nodes ≤ to)
      → sent to (all_moves run.phases run.last from) ≡ []
