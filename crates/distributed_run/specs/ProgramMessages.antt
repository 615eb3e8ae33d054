-- Of the claim.
-- The text of `messages` of a program on a grid.
use Rattle.std.specs.Prelude.{ℕ, List, [], map}
use Rattle.hpf_base.specs.ElementOrder.{product}
use Rattle.syntax_tree.specs.MainProgram.{MainProgram}
use Rattle.name_table.specs.Entries.{entries}
use Rattle.array_maps.specs.Lines.{moves_at}
use Rattle.directive_check.specs.ProgramMaps.{program_moves, start_maps}
use Rattle.statement_trail.specs.Trail.{serial_trail}
use Rattle.machine_steps.specs.Layout.{Layout}
use Rattle.compiled_program.specs.NewMappings.{array_places, remapping}
use Rattle.compiled_program.specs.ProgramLayouts.{program_layouts}
use Rattle.compiled_program.specs.ProgramRuns.{program_shapes}
use Rattle.message_text.specs.Parts.{Setting}
use Rattle.message_text.specs.MessageText.{trail_lines}

-- the nodes of the grid, the declared names, and what the REDISTRIBUTE of each line moves (HPF 2.0, 8.3)
abbrev pub program_setting : List ℕ → MainProgram → Setting
program_setting grid p = record {
  nodes = product grid;
  names = map (λ e. e.name) (entries p);
  shapes = program_shapes p;
  moves = λ line. map (remapping (array_places 0 (entries p))) (moves_at (program_moves grid p) line);
  copies = [];
  copied = [];
}

-- how the declared names lie at the start
abbrev pub names_layouts : List ℕ → MainProgram → List Layout
names_layouts grid p = program_layouts (product grid) 0 (entries p) (start_maps grid p)

abbrev pub messages_text : List ℕ → MainProgram → List ℕ
messages_text grid p = trail_lines (program_setting grid p) (names_layouts grid p) (serial_trail p)
