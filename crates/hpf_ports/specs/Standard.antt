-- Of a promise.
-- Sources and sinks over the standard library, as a caller sees them.
use Rattle.std.specs.Prelude.{ℕ, List, Option}

-- the bytes that the reader has left or the writer holds, where it tells them, and the count of faults
pub record StdState : Type 0 where
  pub bytes : Option (List ℕ)
  pub faults : ℕ
