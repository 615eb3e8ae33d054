-- Of the claim.
-- The assignments in the text of a nest of INDEPENDENT loops.
use Rattle.std.specs.Prelude.{ℕ}
use Rattle.array_meaning.specs.Terms.{Term, Terms}

-- an assignment to a scalar, or to an element by its subscripts
pub data Assigning : Type 0 where
  ToScalar : ℕ → Term → Assigning
  ToElement : ℕ → Terms → Term → Assigning
