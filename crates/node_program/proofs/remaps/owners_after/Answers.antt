use Rattle.std.proofs.Common.{drop, map, sym, ◌∙◌, ap}
use Rattle.code_meaning.specs.Instructions.{remappings}
use Rattle.node_code.specs.Texts.{new_mapping}
use Rattle.node_program.specs.Fits.{shapes_of}
use Rattle.node_program.specs.Programs.{mappings_of}
use Rattle.node_program.proofs.FitLaws.{one-fits, remapped-shapes}
use Rattle.node_program.proofs.Remapped.{remapped-next}
use Rattle.node_program.proofs.remaps.owners_after.Goals as goal

pub set_mapping-requires-clause-shape : goal.set_mapping-requires-clause-shape
set_mapping-requires-clause-shape c =
    let tables = c.args.tables.now in
    let new = c.args.new.now in
    let k = c.loop-mapping.mapping-index in
    let same = sym (remapped-shapes (remappings (mappings_of tables) (map new_mapping (drop k new))) c.loop-mapping.after.layouts) ∙ ap shapes_of c.loop-mapping.invariant.layouts
    ∙ remapped-shapes (remappings (mappings_of tables) (map new_mapping new)) c.args.owners.now.layouts in
    one-fits tables c.args.owners.now.layouts c.loop-mapping.after.layouts new k _ c.loop-mapping-test.true same c.requires.shapes

pub loop-mapping-preserved : goal.loop-mapping-preserved
loop-mapping-preserved c = record {
  layouts =
      remapped-next c.args.tables.now c.args.new.now c.loop-mapping.mapping-index _ c.loop-mapping.after.layouts _ c.loop-mapping-test.true
      c.in_ok-set_mapping.ensures.layouts
      ∙ c.loop-mapping.invariant.layouts;
  nodes = c.in_ok-set_mapping.ensures.nodes ∙ c.loop-mapping.invariant.nodes;
}
