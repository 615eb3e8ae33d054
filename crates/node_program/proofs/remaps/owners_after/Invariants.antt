use Rattle.std.proofs.Common.{◌≡◌, drop, map}
use Rattle.machine_steps.specs.Machine.{remapped}
use Rattle.code_meaning.specs.Instructions.{remappings}
use Rattle.node_code.specs.Texts.{new_mapping}
use Rattle.node_program.specs.Programs.{mappings_of}
use Rattle.node_program.proofs.remaps.owners_after.Given as goal

-- the new mappings that are left give what all of them give
abbrev pub invariant-loop-mapping : goal.invariant-loop-mapping
invariant-loop-mapping l = record {
  layouts : remapped (remappings (mappings_of l.tables) (map new_mapping (drop l.mapping-index l.new))) l.after.layouts
      ≡ remapped (remappings (mappings_of l.tables) (map new_mapping l.new)) l.owners.layouts;
  nodes : l.after.nodes ≡ l.owners.nodes;
}
