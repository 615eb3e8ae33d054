use Rattle.std.proofs.Math.Facts.{to_z-of_z}
use Rattle.std.proofs.lemmas.Int.{quot_is}
use Rattle.std.specs.Int.{w128}
use Rattle.alignment_rules.proofs.Quotients.{nonzero, quotient_fits}
use Rattle.alignment_rules.proofs.entries.quotient.Goals as goal

pub nonzero_div-result : goal.nonzero_div-result
nonzero_div-result c = (
  nonzero c.args.step c.ranges.step c.requires.some,
  simp (to_z-of_z c.ranges.number, to_z-of_z c.ranges.step) (quotient_fits c.args.number c.args.step c.requires.least c.requires.most),
)

pub returns : goal.returns
returns c = quot_is w128 c.args.number c.args.step c.ranges.number c.ranges.step (quotient_fits c.args.number c.args.step c.requires.least c.requires.most)
