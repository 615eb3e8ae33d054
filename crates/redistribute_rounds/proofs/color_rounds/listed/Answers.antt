use Rattle.std.proofs.Common.{◌∙◌}
use Rattle.redistribute_rounds.proofs.Legal.{colors-listed, pairs-between}
use Rattle.redistribute_rounds.proofs.color_rounds.listed.Goals as goal

pub color-requires-clause-between : goal.color-requires-clause-between
color-requires-clause-between c = pairs-between c.args.nodes c.args.pairs.now c.requires.between

pub degree-requires-clause-between : goal.degree-requires-clause-between
degree-requires-clause-between c = pairs-between c.args.nodes c.args.pairs.now c.requires.between

pub by_color-requires-clause-colors : goal.by_color-requires-clause-colors
by_color-requires-clause-colors c = c.as_slice.ensures.value ∙ c.in_ok-colors.ensures.value ∙ colors-listed c.args.nodes c.args.pairs.now
