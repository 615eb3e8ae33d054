use Rattle.round_color.proofs.free_colors.+exchange.Given as goal

abbrev pub decreases-exchange : goal.decreases-exchange
decreases-exchange l = l.steps
