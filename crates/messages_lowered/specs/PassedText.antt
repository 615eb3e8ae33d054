-- Of a promise.
-- The text of `messages`, from what the machine with whole arrays passes.
use Rattle.std.specs.Prelude.{◌≡◌, ℕ, List, [], ◌∷◌, ◌++◌}
use Rattle.expression_rules.specs.declared.dims.Dim.{Dim}
use Rattle.mappings.specs.declared.mapping.Mapping.{Mapping}
use Rattle.array_meaning.specs.Faults.{Fault}
use Rattle.array_meaning.specs.Runs.{Run}
use Rattle.statement_trail.specs.Trail.{Trail}
use Rattle.machine_steps.specs.Layout.{Layout}
use Rattle.machine_steps.specs.Machine.{Machine, steps}
use Rattle.node_code.specs.Instructions.{Instruction, NewMapping}
use Rattle.code_meaning.specs.Instructions.{ArrayTable, meaning_of, remappings}
use Rattle.well_formed.specs.Lowered.{EndsAs}
use Rattle.lowered_expressions.specs.Passed.{Passed, passed}
use Rattle.passed_states.specs.PassedLayouts.{layouts_after}
use Rattle.message_text.specs.Parts.{Setting}
use Rattle.message_text.specs.InstructionLines.{instruction_lines}
use Rattle.message_text.specs.MessageText.{trail_lines}

-- what is known beside a trail where a program has these mappings
abbrev pub setting_by : ℕ → List (List ℕ) → List (List Dim) → List Mapping → (ℕ → List NewMapping) → Setting
setting_by nodes names shapes maps moves = record { nodes = nodes; names = names; shapes = shapes; moves = λ line. remappings maps (moves line); copies = []; copied = [] }

-- with these mappings of the program: the text of what is passed from where the declared names lie so
abbrev pub passed_text : List Mapping → Setting → List Layout → List Passed → List ℕ
passed_text maps s layouts [] = []
passed_text maps s layouts (p ∷ ps) = instruction_lines maps s layouts p.instruction p.slots ++ passed_text maps s (layouts_after maps p.instruction layouts) ps

-- the machine ends as a run did, and by then the text of what it passed, from where the declared names lie so, is that of this trail
abbrev pub MachineHasText : ℕ → ArrayTable → Setting → List Layout → Machine Instruction Fault → Run → Trail → Type 0
MachineHasText n table s starts m r entries = (k : ℕ) × EndsAs n (steps (meaning_of table) k m) r.state r.completion
    × (passed_text table.maps s starts (passed table k m) ≡ trail_lines s starts entries)
