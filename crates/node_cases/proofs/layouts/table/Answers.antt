use Rattle.node_cases.proofs.Laid.{map-laid}
use Rattle.node_cases.proofs.layouts.table.Goals as goal

pub new-requires-clause-laid : goal.new-requires-clause-laid
new-requires-clause-laid c = rw (c.copy-2.ensures, c.in_ok-mapping.ensures)
    (map-laid c.args.nodes c.args.shape.now c.args.mapping.now c.requires.shape c.requires.mapping)
