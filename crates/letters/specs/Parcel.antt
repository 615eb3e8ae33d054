-- Of the claim.
-- What is still to be sent.
use Rattle.std.specs.Prelude.{ℕ, List, ℤ}

-- a target and the values for it
pub record Parcel : Type 0 where
  pub to : ℕ
  pub body : List ℤ
