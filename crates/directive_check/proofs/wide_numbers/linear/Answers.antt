use Rattle.std.proofs.Common.{◌+◌, ◌^◌, pos, neg_ℤ, ◌≤ℤ◌, sym, subst, rules}
use Rattle.std.proofs.lemmas.Int.{to_z-of_z}
use mir.Syntax.{w128}
use Rattle.directive_check.proofs.WideNumbers.{product_between, product_fits}
use Rattle.directive_check.proofs.wide_numbers.linear.Goals as goal

pub sum-requires-clause-least : goal.sum-requires-clause-least
sum-requires-clause-least c =
    let both = product_between c.args.a c.args.v c.product.result c.ranges.a c.requires (search rules) in
    subst (λ z. neg_ℤ (pos (2 ^ 126 + 2 ^ 125)) ≤ℤ z) (sym (to_z-of_z w128 c.product.result (product_fits c.product.result both.0 both.1))) both.0

pub sum-requires-clause-most : goal.sum-requires-clause-most
sum-requires-clause-most c =
    let both = product_between c.args.a c.args.v c.product.result c.ranges.a c.requires (search rules) in
    subst (λ z. z ≤ℤ pos (2 ^ 126 + 2 ^ 125)) (sym (to_z-of_z w128 c.product.result (product_fits c.product.result both.0 both.1))) both.1
