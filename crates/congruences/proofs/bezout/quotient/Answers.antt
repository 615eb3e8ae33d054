use Rattle.std.proofs.Math.Facts.{to_z-of_z}
use Rattle.std.proofs.lemmas.Int.{quot_is}
use Rattle.std.specs.Int.{w128}
use Rattle.congruences.proofs.Coefficients.{nonzero, quotient_fits}
use Rattle.congruences.proofs.bezout.quotient.Goals as goal

pub nonzero_div-result : goal.nonzero_div-result
nonzero_div-result c = (
  nonzero c.args.divisor c.ranges.divisor c.requires.some,
  simp (to_z-of_z c.ranges.number, to_z-of_z c.ranges.divisor) (quotient_fits c.args.number c.args.divisor c.requires.small),
)

pub returns : goal.returns
returns c = quot_is w128 c.args.number c.args.divisor c.ranges.number c.ranges.divisor (quotient_fits c.args.number c.args.divisor c.requires.small)
