use Rattle.owner_tables.proofs.CopyLaws.{copy-laid}
use Rattle.owner_tables.proofs.copies.copy_layout.Goals as goal

pub returns-clause-laid : goal.returns-clause-laid
returns-clause-laid c =
    rw (c.in_ok-shape.ensures, c.in_ok-mapping.ensures)
    (copy-laid c.args.nodes c.requires.some c.requires.few c.args.extents.now c.requires.each c.requires.size)
