use Rattle.std.proofs.Common.{◌∙◌}
use Rattle.compiled_program.proofs.Numbering.{moved-shaped, new-laid}
use Rattle.compiled_program.proofs.moves.new_table.Goals as goal

pub new-requires-clause-laid : goal.new-requires-clause-laid
new-requires-clause-laid c =
    rw (c.copy-2.ensures, c.in_ok-mapping.ensures)
    (new-laid c.args.nodes c.args.arrays.now c.args.moved.now c.index-arrays-moved.result c.requires.shapes c.requires.valid c.index-arrays-moved.is)

pub returns : goal.returns
returns c =
    let shaped = moved-shaped c.args.nodes c.args.arrays.now c.args.moved.now c.index-arrays-moved.result c.requires.valid.array c.index-arrays-moved.is in
    c.in_ok-table.ensures
    ∙ (λ i. record { layout = record { shape = (c.copy-2.ensures ∙ shaped) i; mapping = c.in_ok-mapping.ensures i }; nodes = c.args.nodes })
