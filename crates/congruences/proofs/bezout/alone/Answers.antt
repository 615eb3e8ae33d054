use Rattle.std.proofs.Common.{◌∙◌, ap, pos, unsigned_abs}
use Rattle.std.proofs.Math.Facts.{to_z-of_z}
use Rattle.std.specs.Int.{int_signum}
use Rattle.congruences.proofs.Coefficients.{alone_is, sign_small}
use Rattle.congruences.proofs.bezout.alone.Goals as goal

pub returns-clause-value : goal.returns-clause-value
returns-clause-value c =
    alone_is c.args.a c.abs.result c.signum.result c.requires.small (c.abs.ensures.value ∙ ap (λ z. pos (unsigned_abs z)) (to_z-of_z c.ranges.a))
    (c.signum.ensures.value ∙ ap int_signum (to_z-of_z c.ranges.a))

pub returns-clause-first : goal.returns-clause-first
returns-clause-first c = sign_small c.args.a c.signum.result (c.signum.ensures.value ∙ ap int_signum (to_z-of_z c.ranges.a))
