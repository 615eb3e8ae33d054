use Rattle.pair_cases.proofs.arrays.table_of.Goals as goal

pub new-requires-clause-laid : goal.new-requires-clause-laid
new-requires-clause-laid c = rw (c.copy-2.ensures, c.in_ok-mapping.ensures)
    (record { shape = c.requires.shape; mapping = c.requires.mapping; inside = c.requires.inside; grid = c.requires.grid })
