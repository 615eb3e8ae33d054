use Rattle.std.proofs.Common.{◌∙◌, ap}
use Rattle.std.specs.List.{flat_map}
use Rattle.array_maps.specs.declared.maps.Redistribution.{Redistribution}
use Rattle.node_program.specs.Programs.{mappings_of}
use Rattle.compiled_program.specs.NewTables.{new_tables}
use Rattle.compiled_program.proofs.Numbering.{mappings_are}
use Rattle.compiled_program.proofs.moves.program_moves.Goals as goal

pub numbered_moves-requires-clause-valid : goal.numbered_moves-requires-clause-valid
numbered_moves-requires-clause-valid c = rw (c.as_slice-arrays.ensures, c.as_slice-moves.ensures) c.requires.valid.moves

pub returns-clause-tables : goal.returns-clause-tables
returns-clause-tables c = c.in_ok-made.ensures.tables ∙ (λ i. new_tables c.args.nodes (c.as_slice-arrays.ensures i) (c.as_slice-moves.ensures i))

pub returns-clause-mappings : goal.returns-clause-mappings
returns-clause-mappings c =
    let maps = c.args.maps.now in
    ap mappings_of (c.in_ok-made.ensures.tables ∙ (λ i. new_tables c.args.nodes (c.as_slice-arrays.ensures i) (c.as_slice-moves.ensures i)))
    ∙ mappings_are c.args.nodes maps.arrays (flat_map (λ (r : Redistribution). r.maps) maps.moves)
