use Rattle.node_codegen.proofs.nest_loops.+loops_slots.Given as goal

abbrev pub decreases-loops_slots : goal.decreases-loops_slots
decreases-loops_slots l = l.n
