-- Of the claim.
-- The texts of a nest as FORALL's: a form at an index tuple, which is the values of the nest's indices, and outside of subscripts also those of
-- the copies that the text reads.
use Rattle.std.specs.Prelude.{ℕ, List, Option}
use Rattle.node_code.specs.Forms.{ArrayForm}
use Rattle.node_code.specs.NestStatements.{NestLeft}

-- an assignment: its line, the rows of the copies that it reads and the scalars whose copies these are, the left side, the right side, and the row of
-- the scalar's marks if it has some
pub record NestText : Type 0 where
  pub line : ℕ
  pub copies : List ℕ
  pub names : List ℕ
  pub left : NestLeft
  pub right : ArrayForm
  pub mark : Option ℕ

-- a condition: its line, the rows of the copies that it reads and the scalars whose copies these are, and its form
pub record NestTest : Type 0 where
  pub line : ℕ
  pub copies : List ℕ
  pub names : List ℕ
  pub form : ArrayForm
