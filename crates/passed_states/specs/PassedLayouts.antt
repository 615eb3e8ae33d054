-- Of a promise.
-- How the declared names lie after what is passed.
use Rattle.std.specs.Prelude.{List, [], ◌∷◌}
use Rattle.mappings.specs.declared.mapping.Mapping.{Mapping}
use Rattle.machine_steps.specs.Layout.{Layout}
use Rattle.machine_steps.specs.Machine.{remapped}
use Rattle.node_code.specs.Instructions.{Instruction, Remap}
use Rattle.code_meaning.specs.Instructions.{remappings}
use Rattle.lowered_expressions.specs.Passed.{Passed}

-- with these mappings of the program
module _ (maps : List Mapping) where
  -- no instruction but one moves an array
  abbrev pub layouts_after : Instruction → List Layout → List Layout
  layouts_after (Remap line new) layouts = remapped (remappings maps new) layouts
  layouts_after i layouts = layouts

  abbrev pub passed_layouts : List Passed → List Layout → List Layout
  passed_layouts [] layouts = layouts
  passed_layouts (p ∷ ps) layouts = passed_layouts ps (layouts_after p.instruction layouts)
