use Rattle.interference.proofs.indices.+inside.Given as goal

abbrev pub decreases-inside : goal.decreases-inside
decreases-inside l = l.n
