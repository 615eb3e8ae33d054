use Rattle.std.proofs.Common.{◌*◌, ◌≤◌, unsigned_abs, sym, subst}
use Rattle.congruences.proofs.Coefficients.{product_is, product_small}
use Rattle.congruences.proofs.bezout.product.Goals as goal

pub returns-clause-value : goal.returns-clause-value
returns-clause-value c = product_is c.args.a c.args.x c.ranges.a c.ranges.x c.requires.factor c.requires.number

pub returns-clause-small : goal.returns-clause-small
returns-clause-small c =
    subst (λ z. unsigned_abs z ≤ 4611686018427387904 * 4611686018427387904) (sym (product_is c.args.a c.args.x c.ranges.a c.ranges.x c.requires.factor c.requires.number))
    (product_small c.args.a c.args.x c.requires.factor c.requires.number)
