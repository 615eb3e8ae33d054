-- What the laws of programs on a grid say.
use Rattle.std.proofs.Common.{ℕ, ◌<◌, List, All}
use Rattle.hpf_base.specs.ElementOrder.{product}
use Rattle.hpf_base.specs.Grid.{IsGrid}
use Rattle.mappings.specs.declared.mapping.Mapping.{Mapping}
use Rattle.syntax_tree.specs.MainProgram.{MainProgram}
use Rattle.name_table.specs.Entries.{entries}
use Rattle.array_maps.specs.Maps.{AreNewMaps, IsArrayMap}
use Rattle.array_maps.specs.declared.maps.Redistribution.{Redistribution}
use Rattle.directive_check.specs.ProgramMaps.{program_moves, start_maps}
use Rattle.accepted_program.specs.Accepted.{KeepsRules}
use Rattle.fitting_states.specs.FittingStates.{ProgramFits}
use Rattle.machine_steps.specs.Layout.{Layout}
use Rattle.node_code.specs.Instructions.{NewMapping}
use Rattle.compiled_program.specs.NewMappings.{program_mappings, program_remaps}
use Rattle.compiled_program.specs.OnNodes.{LieAsDeclared, MovesDealt, program_copies}
use Rattle.compiled_program.specs.ProgramLayouts.{program_layouts}
use Rattle.compiled_program.specs.ProgramRuns.{RunOnNodes}

-- nodes run a program
abbrev pub RunsOnNodes : Type 0
RunsOnNodes = (nodes : ℕ) (p : MainProgram) (maps : List Mapping) (moves : ℕ → List NewMapping) (layouts : List Layout) → 0 < nodes → KeepsRules p → ProgramFits p
    → LieAsDeclared nodes (program_copies p) (entries p) layouts → MovesDealt nodes p maps moves layouts → RunOnNodes nodes p maps moves layouts

-- what its redistributions move gives each element an owner
abbrev pub AllMovesDealt : Type 0
AllMovesDealt = (grid : List ℕ) (room : ℕ) (p : MainProgram) → IsGrid grid → All (IsArrayMap (product grid)) (start_maps grid p)
    → All (λ (r : Redistribution). AreNewMaps (product grid) (start_maps grid p) r.maps) (program_moves grid p)
    → MovesDealt (product grid) p (program_mappings grid p) (program_remaps grid p) (program_layouts (product grid) room (entries p) (start_maps grid p))
