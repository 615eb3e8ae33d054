use Rattle.std.proofs.Common.{rules}
use Rattle.align_map.proofs.Products.{product_most}
use Rattle.directive_check.proofs.subscripts.product.Goals as goal

pub returns-clause-most : goal.returns-clause-most
returns-clause-most c = product_most c.args.a c.args.b _ c.ranges.a c.ranges.b (search rules)
