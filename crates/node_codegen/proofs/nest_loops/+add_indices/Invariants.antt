use Rattle.node_codegen.proofs.nest_loops.+add_indices.Given as goal

abbrev pub decreases-add_indices : goal.decreases-add_indices
decreases-add_indices l = l.n
