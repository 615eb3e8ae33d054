-- Of the claim.
-- What a statement says by itself, without the statements inside it (Fortran 95, 2.3 and 8.1; HPF 2.0, 5.1).
use Rattle.std.specs.Prelude.{List, Option}
use Rattle.syntax_tree.specs.Expression.{Expression}
use Rattle.syntax_tree.specs.Directive.{Distribution}
use Rattle.syntax_tree.specs.Statement as syntax

pub data Head : Type 0 where
  -- an assignment; one under the mask of a WHERE; one of a FORALL with these indices
  Assignment : syntax.Variable → Expression → Head
  MaskedAssignment : Expression → syntax.Variable → Expression → Head
  ForallAssignment : List syntax.Axis → syntax.Variable → Expression → Head
  -- the condition of an IF or ELSE IF
  Condition : Expression → Head
  -- INDEPENDENT with its lists, and a DO with the INDEPENDENT before it
  Independent : syntax.Independent → Head
  Do : Option syntax.Independent → syntax.Axis → Head
  -- the mask of a WHERE, and the header of a FORALL
  Where : Expression → Head
  Forall : List syntax.Axis → Option Expression → Head
  Print : List syntax.Item → Head
  -- STOP, EXIT or CYCLE
  Transfer : Head
  Redistribute : Distribution → Head
