-- Of a promise.
-- A REDUCTION variable: its entry value joined with the fold of its copies (HPF 2.0, REDUCTION).
use Rattle.std.specs.Prelude.{◌≡◌, ℤ, ◌-ℤ◌, List, map, fold}
use Rattle.op_tables.specs.declared.join.Join.{Join}
use Rattle.op_tables.specs.declared.join.Join.TheVariants.{Sum}
use Rattle.op_tables.specs.Joins.{join}
use Rattle.op_tables.specs.Operators.{wrapped}

-- a reduction statement as what it makes of the variable: where that is two values joined, it changes the second alone.
-- A statement that reads the variable in its expression, as `S = S + S`, is none
pub record IsReducing {V : Type 0} (InRange : V → Type 0) (join : V → V → V) (statement : V → V) : Type 0 where
  pub stays : (a : V) → InRange a → InRange (statement a)
  pub passes : (a b : V) → InRange a → InRange b → statement (join a b) ≡ join a (statement b)

module _ {V : Type 0} where
  -- the statements of one iteration, in order. An iteration may have none
  abbrev pub after_statements : V → List (V → V) → V
  after_statements before statements = fold (λ value statement. statement value) before statements

  -- the variable after the plain order: the statements of one iteration after those of another
  abbrev pub plain_value : V → List (List (V → V)) → V
  plain_value entry iterations = fold after_statements entry iterations

  -- the copies: each iteration's statements from the unit on, and not from the entry value
  abbrev pub copies_of : V → List (List (V → V)) → List V
  copies_of unit iterations = map (after_statements unit) iterations

  -- the copies joined from the left, beginning with the unit
  abbrev pub folded : (V → V → V) → V → List V → V
  folded join unit copies = fold join unit copies

-- `S = S op e`, `S = e op S`, and `S = S - e`, each with the value of e at its iteration. `S = e - S` is none
pub data Statement : Type 0 where
  OnRight : ℤ → Statement
  OnLeft : ℤ → Statement
  Subtracted : ℤ → Statement

-- what a statement makes of the variable. Its expression is evaluated before, and doesn't name the variable
abbrev pub assigned : Join → Statement → ℤ → ℤ
assigned op (OnRight e) s = join op s e
assigned op (OnLeft e) s = join op e s
assigned op (Subtracted e) s = wrapped (s -ℤ e)

-- the statement is of this operator: only `+` has a statement with `-`
abbrev pub IsOf : Join → Statement → Type 0
IsOf op (OnRight e) = Unit {0}
IsOf op (OnLeft e) = Unit {0}
IsOf op (Subtracted e) = op ≡ Sum

-- the value of the statement's expression
abbrev pub value_in : Statement → ℤ
value_in (OnRight e) = e
value_in (OnLeft e) = e
value_in (Subtracted e) = e

-- the statements of all iterations, as what they make of the variable
abbrev pub all_assigned : Join → List (List Statement) → List (List (ℤ → ℤ))
all_assigned op iterations = map (map (assigned op)) iterations
