-- Sums of numbers that wrapped.
use Rattle.std.proofs.Common.{◌≡◌, ◌∙◌, ℤ, ◌+ℤ◌, w64}
use Rattle.std.proofs.lemmas.Int.{int_wrap-add_left, int_wrap-add_right}
use Rattle.op_tables.specs.Operators.{wrapped}

pub wrapped_sum : (p q : ℤ) → wrapped (wrapped p +ℤ wrapped q) ≡ wrapped (p +ℤ q)
wrapped_sum p q = int_wrap-add_left w64 p (wrapped q) ∙ int_wrap-add_right w64 p q
