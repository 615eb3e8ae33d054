use Rattle.node_codegen.proofs.nest_loops.+innermost.Given as goal

abbrev pub decreases-innermost : goal.decreases-innermost
decreases-innermost l = l.n
