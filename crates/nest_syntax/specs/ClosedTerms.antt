-- Of the claim.
-- Expressions in which no name stands.
use Rattle.std.specs.Prelude.{List, [], ◌∷◌, ℤ, Option, Some, None, option_and_then}
use Rattle.op_tables.specs.Operators.{operator_value}
use Rattle.array_meaning.specs.Terms.{Term, Number, Apply, Terms, NoTerm, More}

-- the value of an expression of numbers and operators, where it has one
abbrev pub with_closed : Option ℤ → Option (List ℤ) → Option (List ℤ)
with_closed (Some v) (Some vs) = Some (v ∷ vs)
with_closed a b = None

abbrev mutual
  pub closed_value : Term → Option ℤ
  closed_value (Number v) = Some v
  closed_value (Apply o ts) = option_and_then (operator_value o) (closed_values ts)
  closed_value t = None

  pub closed_values : Terms → Option (List ℤ)
  closed_values NoTerm = Some []
  closed_values (More t ts) = with_closed (closed_value t) (closed_values ts)
