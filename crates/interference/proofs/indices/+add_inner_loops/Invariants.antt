use Rattle.interference.proofs.indices.+add_inner_loops.Given as goal

abbrev pub decreases-add_inner_loops : goal.decreases-add_inner_loops
decreases-add_inner_loops l = l.n
