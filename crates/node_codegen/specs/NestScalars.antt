-- Of private clauses.
-- No public clause cites this file. What joins by the first of the right sides of a scalar's assignments, if there is one.
use Rattle.std.specs.Prelude.{List, [], ◌∷◌, Option, Some, None}
use Rattle.op_tables.specs.declared.join.Join.{Join}
use Rattle.array_meaning.specs.Terms.{Term}
use Rattle.program_code.specs.NestCode.{operator_by}

abbrev pub first_operator : List Term → Option Join
first_operator [] = None
first_operator (t ∷ ts) = Some (operator_by (t ∷ []))
