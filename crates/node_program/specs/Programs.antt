-- Of the claim.
-- What contracts see of a program.
use Rattle.std.specs.Prelude.{List, map}
use Rattle.mappings.specs.declared.mapping.Mapping.{Mapping}
use Rattle.owner_tables.specs.Views.{TableView}
use Rattle.code_meaning.specs.ProgramText.{Text, texts}
use Rattle.node_code.specs.Texts.{instructions}
use Rattle.node_program.specs.declared.program.NodeProgram.{NodeProgram}

-- the mappings of these tables
abbrev pub mappings_of : List TableView → List Mapping
mappings_of tables = map (λ t. t.layout.mapping) tables

-- the texts of its instructions
abbrev pub code_of : NodeProgram → List Text
code_of p = texts p.nodes (mappings_of p.tables.items) p.shapes.items (instructions p.code.items)
