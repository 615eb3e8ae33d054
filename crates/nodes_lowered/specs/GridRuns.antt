-- Of the claim.
-- A program on the nodes of a grid, where its arrays lie as they are mapped on it.
use Rattle.std.specs.Prelude.{ℕ, List}
use Rattle.hpf_base.specs.ElementOrder.{product}
use Rattle.syntax_tree.specs.MainProgram.{MainProgram}
use Rattle.array_meaning.specs.Faults.{Fault}
use Rattle.machine_steps.specs.Machine.{Machine}
use Rattle.machine_steps.specs.Node.{Node}
use Rattle.code_meaning.specs.ProgramText.{Text}
use Rattle.nodes_lowered.specs.NewMappings.{program_mappings, program_remaps}
use Rattle.nodes_lowered.specs.ProgramLayouts.{start_layouts}
use Rattle.nodes_lowered.specs.ProgramRuns.{AreLastNodes, RunOnNodes, program_nodes, text_opening}

-- the machine with whole arrays before the first instruction
abbrev pub grid_opening : List ℕ → MainProgram → Machine Text Fault
grid_opening grid p = text_opening (product grid) p (program_mappings grid p) (program_remaps grid p) (start_layouts grid p)

-- the nodes there
abbrev pub grid_nodes : List ℕ → MainProgram → List (Node Text Fault)
grid_nodes grid p = program_nodes (product grid) p (program_mappings grid p) (program_remaps grid p) (start_layouts grid p)

-- those at the end
abbrev pub AreLastOnGrid : List ℕ → MainProgram → List (Node Text Fault) → Type 0
AreLastOnGrid grid p last = AreLastNodes (product grid) p (program_mappings grid p) (program_remaps grid p) (start_layouts grid p) last

-- these are phased, and end so in every order of their steps
abbrev pub RunsOnGrid : List ℕ → MainProgram → Type 0
RunsOnGrid grid p = RunOnNodes (product grid) p (program_mappings grid p) (program_remaps grid p) (start_layouts grid p)
