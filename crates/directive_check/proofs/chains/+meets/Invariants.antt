use Rattle.directive_check.proofs.chains.+meets.Given as goal

abbrev pub decreases-meets : goal.decreases-meets
decreases-meets l = l.steps
