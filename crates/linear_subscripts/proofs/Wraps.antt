-- Sums of products that wrap.
use Rattle.std.proofs.Common.{◌≡◌, ℤ, ◌+ℤ◌, ◌∙◌}
use Rattle.std.proofs.lemmas.Int.{int_wrap-add_left, int_wrap-add_right}
use Rattle.std.specs.Int.{w64}
use Rattle.op_tables.specs.Operators.{wrapped}

pub wrapped_products : (x y : ℤ) → wrapped (wrapped x +ℤ wrapped y) ≡ wrapped (x +ℤ y)
wrapped_products x y = int_wrap-add_left w64 x (wrapped y) ∙ int_wrap-add_right w64 x y
