use Rattle.node_codegen.proofs.nest_loops.+add_bounds.Given as goal

abbrev pub decreases-add_bounds : goal.decreases-add_bounds
decreases-add_bounds l = l.n
