-- Of the claim.
-- Reduction statements (HPF 2.0, 5.1.2): `S = S + e` and its like, where e doesn't name S. `S = S + a + b` is none, since its left operand is
-- `S + a`.
use Rattle.std.specs.Prelude.{Bool, true, false, ◌&&◌, ◌||◌, not, bytes_eq, Option, None, if◌then◌else◌}
use Rattle.std.specs.List.{list_all}
use Rattle.op_tables.specs.declared.join.Join.{Join}
use Rattle.op_tables.specs.declared.op.Op.{Op}
use Rattle.op_tables.specs.declared.op.Op.TheVariants as op
use Rattle.op_tables.specs.Reductions.{joined_by}
use Rattle.syntax_tree.specs.Expression.{Expression, Name as Alone, Element, Call, Binary, One, End, More}
use Rattle.expression_rules.specs.Symbols.{Name}
use Rattle.body_forms.specs.Subexpressions.{subexpressions}

abbrev pub is_difference : Op → Bool
is_difference op.Sub = true
is_difference o = false

-- this name, alone
abbrev pub is_alone : Name → Expression → Bool
is_alone x (Alone y) = bytes_eq x y
is_alone x e = false

-- this name, with or without subscripts after it
abbrev pub refers_to : Name → Expression → Bool
refers_to x (Alone y) = bytes_eq x y
refers_to x (Element y ps) = bytes_eq x y
refers_to x e = false

abbrev pub is_without : Name → Expression → Bool
is_without x e = list_all (λ f. not (refers_to x f)) (subexpressions e)

-- the variable stands on one side, and the other doesn't name it
abbrev pub is_joined : Name → Expression → Expression → Bool
is_joined x a b = is_alone x a && is_without x b

-- of a difference the variable is the left side
abbrev pub are_operands_of : Name → Op → Expression → Expression → Bool
are_operands_of x o a b = is_joined x a b || (not (is_difference o) && is_joined x b a)

abbrev pub operator_between : Name → Op → Expression → Expression → Option Join
operator_between x o a b = if are_operands_of x o a b then joined_by o else None

-- what an expression joins a variable with a number by, where it does
abbrev pub operator_in : Name → Expression → Option Join
operator_in x (Binary o a b) = operator_between x o a b
operator_in x (Call o (More (One a) (More (One b) End))) = operator_between x o a b
operator_in x e = None
