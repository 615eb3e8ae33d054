-- Of the claim.
-- How the scalars that a nest assigns get their values after it.
use Rattle.std.specs.Prelude.{ℕ}
use Rattle.op_tables.specs.declared.join.Join.{Join}

-- a REDUCTION variable with copies in a row, and another scalar with copies in a row and marks in another one; both with their slot
pub data Final : Type 0 where
  Folds : Join → (row slot : ℕ) → Final
  Lasts : (row mark slot : ℕ) → Final
