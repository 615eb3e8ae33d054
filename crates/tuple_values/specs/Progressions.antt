-- Of private clauses.
-- Numbers of 64 bits at equal distances. Private contracts alone cite this.
use Rattle.std.specs.Prelude.{ℕ, zero, suc, List, [], ◌∷◌, ℤ, ◌+ℤ◌}
use Rattle.op_tables.specs.Operators.{wrapped}

abbrev pub progressed : (first step : ℤ) → (count : ℕ) → List ℤ
progressed first step zero = []
progressed first step (suc n) = first ∷ progressed (wrapped (first +ℤ step)) step n
