-- Of the claim.
-- Parallel statements of nests of INDEPENDENT loops (HPF 2.0, 5.1): an assignment, or the condition of an IF, at all iterations. A scalar that the
-- nest assigns is read and written in the iteration's copy.
use Rattle.std.specs.Prelude.{ℕ, List, Option}
use Rattle.node_code.specs.declared.nest.NestRole.{NestRole}
use Rattle.node_code.specs.Anchors.{FlatAnchor}
use Rattle.node_code.specs.Forms.{Sub, ArrayForm}
use Rattle.node_code.specs.Parallel.{When}

-- what is assigned: an element of an array, or the iteration's copy in a row of copies
pub data NestLeft : Type 0 where
  ElementLeft : (array : ℕ) → List Sub → NestLeft
  CopyLeft : (row : ℕ) → NestLeft

-- Its line; the indices of the nest, the innermost loop's first; the stored conditions under which it stands, each in the row of a copy, with the value
-- that is asked for; the rows of the copies that it reads, and the scalars whose copies these are; what is assigned; what is evaluated; what it is in
-- the text; and what the copies of the nest lie beside
pub record NestStatement : Type 0 where
  pub line : ℕ
  pub over : List Sub
  pub whens : List When
  pub copies : List ℕ
  pub names : List ℕ
  pub left : NestLeft
  pub right : ArrayForm
  pub role : NestRole
  pub beside : Option FlatAnchor
