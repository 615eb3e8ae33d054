use Rattle.std.proofs.Common.{ℤ, ◌*ℤ◌, ◌+ℤ◌, ◌∙◌, of_z, to_z}
use Rattle.std.proofs.lemmas.Int.{SFits-int_wrap, to_z-of_z, wrapping_add_is}
use Rattle.std.specs.Int.{int_wrapping_add, w64}
use Rattle.op_tables.specs.Operators.{wrapped}
use Rattle.linear_subscripts.proofs.Wraps.{wrapped_products}
use Rattle.linear_subscripts.proofs.linear_forms.sum_of_products.Goals as goal

abbrev held : ℤ → ℤ
held z = to_z w64 (of_z w64 z)

pub returns : goal.returns
returns c =
    let left = held c.args.a *ℤ held c.args.b in
    let right = held c.args.c *ℤ held c.args.d in
    (λ i. int_wrapping_add w64 (c.product.ensures i) (c.product-2.ensures i))
    ∙ wrapping_add_is w64 (wrapped left) (wrapped right) (SFits-int_wrap w64 left) (SFits-int_wrap w64 right)
    ∙ wrapped_products left right
    ∙ (λ i. wrapped ((to_z-of_z w64 c.args.a c.ranges.a i *ℤ to_z-of_z w64 c.args.b c.ranges.b i)
    +ℤ (to_z-of_z w64 c.args.c c.ranges.c i *ℤ to_z-of_z w64 c.args.d c.ranges.d i)))
